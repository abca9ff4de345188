use Rattle.std.proofs.Common.{◌≡◌, map, take}
use Rattle.tf_core.specs.Counts.{greatest}
use Rattle.tf_core.proofs.problem.Problem.most_types.Given as goal

abbrev pub invariant-loop-formula : goal.invariant-loop-formula
invariant-loop-formula l = l.most ≡ greatest (map (λ formula. formula.type_variables) (take l.formula-index l.formula-items))
