use Rattle.std.proofs.Common.{◌≡◌, map, take}
use Rattle.tf_core.specs.Types.{instantiate}
use Rattle.tf_core.proofs.instance.+same_instance.Given as goal

abbrev pub invariant-same_instances-loop-i : goal.invariant-same_instances-loop-i
invariant-same_instances-loop-i l =
    map (instantiate l.types) (take l.i l.items)
    ≡ map (instantiate l.others) (take l.i l.other_items)
