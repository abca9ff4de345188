use Rattle.std.proofs.Common.{◌≡◌, map, take}
use Rattle.tf_core.specs.Sorts.{joined, binder_types}
use Rattle.enc_models.specs.Calls.SortSizes.{greatest_size}
use Rattle.enc_models.proofs.sort_sizes.+greatest_at_binders.Given as goal

abbrev pub invariant-greatest_in_parts-loop-part : goal.invariant-greatest_in_parts-loop-part
invariant-greatest_in_parts-loop-part l =
    l.found ≡ greatest_size l.model (joined (map binder_types (take l.part-index l.parts)))
