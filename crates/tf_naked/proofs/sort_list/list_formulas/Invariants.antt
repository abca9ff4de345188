use Rattle.std.proofs.Common.{map, take}
use Rattle.tf_core.specs.Sorts.{joined, binder_types}
use Rattle.tf_naked.specs.Calls.Listing.{Lists}
use Rattle.tf_naked.proofs.sort_list.list_formulas.Given as goal

abbrev pub invariant-loop-formula : goal.invariant-loop-formula
invariant-loop-formula l =
    Lists l.initial.listing l.listing
    (joined (map (λ formula. binder_types formula.body) (take l.formula-index l.formulas)))
