use Rattle.std.proofs.Common.{map, arith}
use Rattle.tf_core.specs.Types.{instantiate}
use Rattle.tf_core.proofs.Compared.{instance_is, parts_decide, constructors_decide, items_differ}
use Rattle.tf_core.proofs.instance.+same_instance.Goals as goal

pub same_instance-returns-then-c-d : goal.same_instance-returns-then-c-d
same_instance-returns-then-c-d t c =
    parts_decide (instantiate c.args.types.now c.args.ty.now)
    (instantiate c.args.others.now c.args.other.now) c.in-Apply.c
    (map (instantiate c.args.types.now) c.in-Apply.arguments)
    (instance_is c.args.types.now c.args.ty.now c.in-Apply.c c.in-Apply.arguments c.in-Apply.is)
    c.in-Apply-other.d (map (instantiate c.args.others.now) c.in-Apply-other.items)
    (instance_is c.args.others.now c.args.other.now c.in-Apply-other.d c.in-Apply-other.items
    c.in-Apply-other.is)
    c.same_instances.result c.if-c-d.true
    (rw (c.as_slice.ensures, c.as_slice-then-c-d.ensures) at c.same_instances.ensures)

pub same_instance-returns-else-c-d : goal.same_instance-returns-else-c-d
same_instance-returns-else-c-d t c =
    constructors_decide (instantiate c.args.types.now c.args.ty.now)
    (instantiate c.args.others.now c.args.other.now) c.in-Apply.c
    (map (instantiate c.args.types.now) c.in-Apply.arguments)
    (instance_is c.args.types.now c.args.ty.now c.in-Apply.c c.in-Apply.arguments c.in-Apply.is)
    c.in-Apply-other.d (map (instantiate c.args.others.now) c.in-Apply-other.items)
    (instance_is c.args.others.now c.args.other.now c.in-Apply-other.d c.in-Apply-other.items
    c.in-Apply-other.is)
    c.if-c-d.false

pub same_instances-returns-then-not-same_instance : goal.same_instances-returns-then-not-same_instance
same_instances-returns-then-not-same_instance t c =
    items_differ (instantiate c.args.types.now) (instantiate c.args.others.now) c.args.items.now
    c.args.other_items.now c.loop-i.i c.index-items-i.result c.index-other_items-i.result
    (omega arith) (omega arith) c.index-items-i.is c.index-other_items-i.is
    (c.if-not-same_instance.ensures)
