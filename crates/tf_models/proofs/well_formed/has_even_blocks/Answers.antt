use Rattle.std.proofs.Common.{sym, subst, ◌∙◌}
use Rattle.std.proofs.lemmas.Bool.{false≢true}
use Rattle.tf_models.specs.Evaluation.{IsClosedResult}
use Rattle.tf_models.proofs.well_formed.has_even_blocks.Goals as goal

pub returns-in-None : goal.returns-in-None
returns-in-None c = record {
  exact = λ holds. record {
    arguments = rw c.as_slice.ensures at (c.are_closed.ensures.exact.0 holds);
    result = subst IsClosedResult (sym c.in-None.is) tt;
  };
}

pub returns-then-is_closed : goal.returns-then-is_closed
returns-then-is_closed c = record {
  exact = λ holds. record {
    arguments = rw c.as_slice-then-is_closed.ensures at
        (c.are_closed-then-is_closed.ensures.exact.0 holds);
    result = subst IsClosedResult (sym c.in-Some.is)
        (c.is_closed.ensures.exact.0 c.if-is_closed.true);
  };
}

pub returns-else-is_closed : goal.returns-else-is_closed
returns-else-is_closed c = record {
  exact = λ holds. absurd (false≢true (sym c.if-is_closed.false ∙ holds));
}
