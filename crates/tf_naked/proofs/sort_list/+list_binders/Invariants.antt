use Rattle.std.proofs.Common.{map, take}
use Rattle.tf_core.specs.Sorts.{joined, binder_types}
use Rattle.tf_naked.specs.Calls.Listing.{Lists}
use Rattle.tf_naked.proofs.sort_list.+list_binders.Given as goal

abbrev pub invariant-list_binders_in_parts-loop-part : goal.invariant-list_binders_in_parts-loop-part
invariant-list_binders_in_parts-loop-part l =
    Lists l.initial.listing l.listing (joined (map binder_types (take l.part-index l.parts)))
