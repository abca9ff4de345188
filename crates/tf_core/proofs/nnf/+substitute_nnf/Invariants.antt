use Rattle.std.proofs.Common.{◌≡◌, map, take}
use Rattle.tf_core.specs.Substitution.{substitute_types}
use Rattle.tf_core.proofs.nnf.+substitute_nnf.Given as goal

abbrev pub invariant-substituted_parts-loop-part : goal.invariant-substituted_parts-loop-part
invariant-substituted_parts-loop-part l = l.made ≡ map (substitute_types l.types) (take l.part-index l.parts)
