use Rattle.enc_mono.proofs.KnownFirst.{IsFirstKnown}
use Rattle.enc_mono.proofs.rounds.known_at_first.Given as goal

abbrev pub invariant-loop-formula : goal.invariant-loop-formula
invariant-loop-formula l = IsFirstKnown l.normal l.formula-index l.known
