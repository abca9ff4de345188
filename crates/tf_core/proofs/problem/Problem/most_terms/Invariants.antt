use Rattle.std.proofs.Common.{◌≡◌, map, take}
use Rattle.tf_core.specs.Counts.{depth, greatest}
use Rattle.tf_core.proofs.problem.Problem.most_terms.Given as goal

abbrev pub invariant-loop-formula : goal.invariant-loop-formula
invariant-loop-formula l = l.most ≡ greatest (map (λ formula. depth formula.body) (take l.formula-index l.formula-items))
