use Rattle.tf_nnf.proofs.FreshTypes.{instance_is}
use Rattle.tf_nnf.proofs.instance.+instance.Goals as goal

pub instance-returns-in_ok-instances-in-Apply : goal.instance-returns-in_ok-instances-in-Apply
instance-returns-in_ok-instances-in-Apply t c =
    instance_is _ c.args.ty.now c.in-Apply.c c.in-Apply.types _ _ c.in-Apply.is c.as_slice.ensures
    c.in_ok-instances-in-Apply.ensures
