use Rattle.std.proofs.Common.{◌≡◌, ◌++◌, map, take, drop}
use Rattle.structure_tables.proofs.Grouping.{replaced}
use Rattle.structure_tables.proofs.groups.replace.Given as goal

abbrev pub invariant-loop-item : goal.invariant-loop-item
invariant-loop-item l =
    l.items
    ≡ map (replaced l.from l.to) (take l.item-index l.initial.items)
    ++ drop l.item-index l.initial.items
