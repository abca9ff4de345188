use Rattle.std.proofs.Common.{◌≤◌, length, drop}
use Rattle.tf_naked.specs.Calls.Places.{ArePlaces}
use Rattle.tf_naked.proofs.sort_table.SortTable.new.Given as goal

abbrev pub invariant-loop-i : goal.invariant-loop-i
invariant-loop-i l =
    (l.i ≤ length l.fn.sorts)
    × ArePlaces l.table l.places.items (length l.fn.sorts) l.i (drop l.i l.fn.sorts)

abbrev pub decreases-loop-i : goal.decreases-loop-i
decreases-loop-i l = l.i
