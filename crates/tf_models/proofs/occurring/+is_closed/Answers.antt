use Rattle.std.proofs.Common.{refl}
use Rattle.tf_core.specs.Occurrences.{occurs_in_type}
use Rattle.tf_models.proofs.OccurringParts.{variable_open, application_closed, item_open, any_whole}
use Rattle.tf_models.proofs.occurring.+is_closed.Goals as goal

pub is_closed-returns-in-Var : goal.is_closed-returns-in-Var
is_closed-returns-in-Var t c = record {
  exact = variable_open c.args.ty.now c.in-Var.field-0 c.in-Var.is;
}

pub is_closed-returns-in-Apply : goal.is_closed-returns-in-Apply
is_closed-returns-in-Apply t c = record {
  exact = application_closed c.args.ty.now c.in-Apply.field-0 c.in-Apply.types c.are_closed.result c.in-Apply.is
      (rw c.as_slice.ensures at c.are_closed.ensures.exact);
}

pub are_closed-returns-then-not-is_closed : goal.are_closed-returns-then-not-is_closed
are_closed-returns-then-not-is_closed t c = record {
  exact = item_open c.args.types.now c.loop-ty.ty-index c.ty-item.result c.is_closed.result c.loop-ty-test.true
      c.ty-item.is c.if-not-is_closed.true c.is_closed.ensures.exact;
}

pub are_closed-returns : goal.are_closed-returns
are_closed-returns t c = record {
  exact = (
    λ holds i. any_whole (occurs_in_type i) c.args.types.now c.loop-ty.ty-index
        c.loop-ty-test.false (c.loop-ty.invariant i),
    λ none. refl,
  );
}
