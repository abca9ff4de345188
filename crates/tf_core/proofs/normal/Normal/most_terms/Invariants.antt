use Rattle.std.proofs.Common.{◌≡◌, map, take}
use Rattle.tf_core.specs.Counts.{normal_depth, greatest}
use Rattle.tf_core.proofs.normal.Normal.most_terms.Given as goal

abbrev pub invariant-loop-formula : goal.invariant-loop-formula
invariant-loop-formula l = l.most ≡ greatest (map (λ formula. normal_depth formula.body) (take l.formula-index l.formula-items))
