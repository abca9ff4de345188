use Rattle.std.proofs.Common.{◌≡◌, map, take}
use Rattle.fof_models.specs.Sound.{depth, greatest}
use Rattle.fof_models.proofs.problem.FofProblem.most_terms.Given as goal

abbrev pub invariant-loop-formula : goal.invariant-loop-formula
invariant-loop-formula l =
    l.most ≡ greatest (map (λ formula. depth formula.body) (take l.formula-index l.formula-items))
