use Rattle.std.proofs.Common.{◌≡◌, take, false}
use Rattle.tf_core.specs.Occurrences.{occurs_in_types}
use Rattle.tf_models.proofs.occurring.+type_has.Given as goal

abbrev pub invariant-some_type_has-loop-ty : goal.invariant-some_type_has-loop-ty
invariant-some_type_has-loop-ty l = occurs_in_types l.i (take l.ty-index l.types) ≡ false
