use Rattle.std.proofs.Common.{refl}
use Rattle.tf_models.proofs.OccurringParts.{type_variable, type_apply}
use Rattle.tf_models.proofs.occurring.+type_has.Goals as goal

pub type_has-returns-in-Var : goal.type_has-returns-in-Var
type_has-returns-in-Var t c = record {
  exact = type_variable c.args.i _ c.args.ty.now c.in-Var.j c.in-Var.is refl;
}

pub type_has-returns-in-Apply : goal.type_has-returns-in-Apply
type_has-returns-in-Apply t c = record {
  exact = type_apply c.args.i _ c.args.ty.now c.in-Apply.field-0 c.in-Apply.types c.in-Apply.is
      (rw c.as_slice.ensures at c.some_type_has.ensures.exact);
}
