use Rattle.std.proofs.Common.{◌≡◌, map, take}
use Rattle.tf_types.specs.Numbers.{type_at}
use Rattle.tf_types.proofs.table.TypeTable.+tree_of.Given as goal

abbrev pub decreases-tree_of : goal.decreases-tree_of
decreases-tree_of l = l.id.index

abbrev pub invariant-loop-argument : goal.invariant-loop-argument
invariant-loop-argument l =
    l.trees ≡ map (type_at l.self) (take l.argument-index l.argument-items)
