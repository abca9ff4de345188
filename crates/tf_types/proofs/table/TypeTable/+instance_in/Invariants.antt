use Rattle.std.proofs.Common.{◌+◌, ◌*◌, map, take}
use Rattle.tf_core.specs.Types.{instantiate}
use Rattle.tf_types.specs.Numbers.{type_at}
use Rattle.tf_types.proofs.Applied.{IsApplied}
use Rattle.tf_types.proofs.table.TypeTable.+instance_in.Given as goal

abbrev pub decreases-instance_in : goal.decreases-instance_in
decreases-instance_in l = 2 * l.id.index + 1

abbrev pub decreases-new_instance : goal.decreases-new_instance
decreases-new_instance l = 2 * l.id.index

abbrev pub invariant-new_instance-loop-argument : goal.invariant-new_instance-loop-argument
invariant-new_instance-loop-argument l =
    IsApplied l.fn.self l.self l.made l.c
    (map (instantiate (map (type_at l.fn.self) l.types))
    (map (type_at l.fn.self) (take l.argument-index l.argument-items)))
