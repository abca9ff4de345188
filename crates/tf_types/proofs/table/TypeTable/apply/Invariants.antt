use Rattle.std.proofs.Common.{map, take}
use Rattle.tf_types.specs.Numbers.{type_at}
use Rattle.tf_types.proofs.Applied.{IsApplied}
use Rattle.tf_types.proofs.table.TypeTable.apply.Given as goal

abbrev pub invariant-loop-argument : goal.invariant-loop-argument
invariant-loop-argument l =
    IsApplied l.fn.self l.self l.id l.constructor
    (map (type_at l.fn.self) (take l.argument-index l.arguments))
