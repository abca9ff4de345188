use Rattle.enc_mono.proofs.Partials.{AreBoundUpTo}
use Rattle.enc_mono.proofs.partial.first_free.Given as goal

abbrev pub invariant-loop-i : goal.invariant-loop-i
invariant-loop-i l = AreBoundUpTo l.bound l.i
