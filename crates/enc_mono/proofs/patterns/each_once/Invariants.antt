use Rattle.enc_mono.proofs.OnceKept.{AreOnce}
use Rattle.enc_mono.proofs.patterns.each_once.Given as goal

abbrev pub invariant-loop-ty : goal.invariant-loop-ty
invariant-loop-ty l = AreOnce l.types l.ty-index l.table l.numbers.keys l.made
