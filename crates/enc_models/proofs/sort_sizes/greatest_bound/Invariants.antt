use Rattle.std.proofs.Common.{◌≡◌, map, take}
use Rattle.tf_core.specs.Sorts.{joined, binder_types}
use Rattle.enc_models.specs.Calls.SortSizes.{greatest_size}
use Rattle.enc_models.proofs.sort_sizes.greatest_bound.Given as goal

abbrev pub invariant-loop-formula : goal.invariant-loop-formula
invariant-loop-formula l =
    l.found
    ≡ greatest_size l.model
    (joined (map (λ formula. binder_types formula.body) (take l.formula-index l.formulas)))
