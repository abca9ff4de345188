use Rattle.std.proofs.Common.{refl}
use Rattle.tf_models.proofs.OccurringParts.{term_variable, term_apply, first_occurs, second_decides}
use Rattle.tf_models.proofs.occurring.+term_has.Goals as goal

pub term_has-returns-in-Var : goal.term_has-returns-in-Var
term_has-returns-in-Var t c = record {
  exact = term_variable c.args.i _ c.args.term.now c.in-Var.field-0 c.in-Var.is refl;
}

pub term_has-returns-in-Apply : goal.term_has-returns-in-Apply
term_has-returns-in-Apply t c = record {
  exact = term_apply c.args.i _ c.args.term.now c.in-Apply.field-0 c.in-Apply.types c.in-Apply.terms c.in-Apply.is
      (rw (c.as_slice.ensures, c.as_slice-in-Apply.ensures) at c.application_has.ensures.exact);
}

pub application_has-returns-then-some_type_has : goal.application_has-returns-then-some_type_has
application_has-returns-then-some_type_has t c = record {
  exact = first_occurs _ _ c.some_type_has.result c.some_type_has.ensures.exact c.if-some_type_has.true;
}

pub application_has-returns-else-some_type_has : goal.application_has-returns-else-some_type_has
application_has-returns-else-some_type_has t c = record {
  exact = second_decides _ _ c.some_type_has.result c.some_term_has.result c.some_type_has.ensures.exact c.if-some_type_has.false
      c.some_term_has.ensures.exact;
}
