use Rattle.tf_nnf.proofs.FreshTypes.{term_variable_is, term_instance_is}
use Rattle.tf_nnf.proofs.instance.+term_instance.Goals as goal

pub term_instance-returns-in-Var : goal.term_instance-returns-in-Var
term_instance-returns-in-Var t c = term_variable_is _ c.args.term.now c.in-Var.i c.in-Var.is

pub term_instance-returns-in_ok-terms-in-Apply : goal.term_instance-returns-in_ok-terms-in-Apply
term_instance-returns-in_ok-terms-in-Apply t c =
    term_instance_is _ c.args.term.now c.in-Apply.f c.in-Apply.types _ _ c.in-Apply.terms _ _ c.in-Apply.is
    c.as_slice.ensures c.in_ok-types-in-Apply.ensures
    c.as_slice-in-Apply.ensures c.in_ok-terms-in-Apply.ensures
