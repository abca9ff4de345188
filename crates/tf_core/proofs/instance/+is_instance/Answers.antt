use Rattle.std.proofs.Common.{map}
use Rattle.tf_core.specs.Types.{instantiate}
use Rattle.tf_core.proofs.Compared.{instance_is, never_variable, parts_decide, constructors_decide}
use Rattle.tf_core.proofs.instance.+is_instance.Goals as goal

pub is_instance-returns-in-Var-other : goal.is_instance-returns-in-Var-other
is_instance-returns-in-Var-other t c =
    never_variable (instantiate c.args.types.now c.args.ty.now) c.args.other.now c.in-Apply.c
    (map (instantiate c.args.types.now) c.in-Apply.arguments)
    (instance_is c.args.types.now c.args.ty.now c.in-Apply.c c.in-Apply.arguments c.in-Apply.is)
    c.in-Var-other.field-0 c.in-Var-other.is

pub is_instance-returns-then-c-d : goal.is_instance-returns-then-c-d
is_instance-returns-then-c-d t c =
    parts_decide (instantiate c.args.types.now c.args.ty.now) c.args.other.now c.in-Apply.c
    (map (instantiate c.args.types.now) c.in-Apply.arguments)
    (instance_is c.args.types.now c.args.ty.now c.in-Apply.c c.in-Apply.arguments c.in-Apply.is)
    c.in-Apply-other.d c.in-Apply-other.others c.in-Apply-other.is c.are_instances.result
    c.if-c-d.true
    (rw (c.as_slice.ensures, c.as_slice-then-c-d.ensures) at c.are_instances.ensures)

pub is_instance-returns-else-c-d : goal.is_instance-returns-else-c-d
is_instance-returns-else-c-d t c =
    constructors_decide (instantiate c.args.types.now c.args.ty.now) c.args.other.now c.in-Apply.c
    (map (instantiate c.args.types.now) c.in-Apply.arguments)
    (instance_is c.args.types.now c.args.ty.now c.in-Apply.c c.in-Apply.arguments c.in-Apply.is)
    c.in-Apply-other.d c.in-Apply-other.others c.in-Apply-other.is c.if-c-d.false
