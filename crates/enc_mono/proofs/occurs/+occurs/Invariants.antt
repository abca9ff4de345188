use Rattle.std.proofs.Common.{◌≡◌, take, false}
use Rattle.tf_core.specs.Occurrences.{occurs_in_types}
use Rattle.enc_mono.proofs.occurs.+occurs.Given as goal

abbrev pub invariant-occurs_in_some-loop-ty : goal.invariant-occurs_in_some-loop-ty
invariant-occurs_in_some-loop-ty l = occurs_in_types l.i (take l.ty-index l.types) ≡ false
