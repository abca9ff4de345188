use Rattle.std.specs.Prelude.{◌+◌, ◌||◌, false, length, drop, map, get_or}
use Rattle.std.proofs.Common.{sym, ap, ◌∙◌, arith}
use Rattle.tf_naked.specs.Covers.{covers}
use Rattle.tf_naked.specs.Standing.{is_covering, standing, stands_in_arguments, stands_in_application}
use Rattle.enc_marks.proofs.CoverCount.{length-covers}
use Rattle.enc_cover.specs.Calls.Sought.{stands_at}
use Rattle.enc_cover.proofs.Places.{not_same, stands_at-apply, stands_at-this, stands_at-other, stands-covers_end, stands-terms_end, stands-argument}
use Rattle.enc_cover.proofs.sought.+terms.Goals as goal

pub stands_in_argument-returns-then-n-i : goal.stands_in_argument-returns-then-n-i
stands_in_argument-returns-then-n-i t c =
    record {
      exact = c.is_cover.ensures.exact
          ∙ sym (ap (λ x. stands_at c.args.signature.now
          (get_or (covers c.args.symbol.now) c.args.place false) x c.args.i) c.in-Var.is
          ∙ stands_at-this c.args.signature.now
          (get_or (covers c.args.symbol.now) c.args.place false) c.in-Var.n c.args.i
          c.if-n-i.true);
    }

pub stands_in_argument-returns-else-n-i : goal.stands_in_argument-returns-else-n-i
stands_in_argument-returns-else-n-i t c =
    record {
      exact = not_same c.in-Var.n c.args.i c.if-n-i.false
          ∙ sym (ap (λ x. stands_at c.args.signature.now
          (get_or (covers c.args.symbol.now) c.args.place false) x c.args.i) c.in-Var.is
          ∙ stands_at-other c.args.signature.now
          (get_or (covers c.args.symbol.now) c.args.place false) c.in-Var.n c.args.i
          (not_same c.in-Var.n c.args.i c.if-n-i.false));
    }

pub stands_in_argument-returns-in-Apply : goal.stands_in_argument-returns-in-Apply
stands_in_argument-returns-in-Apply t c =
    record {
      exact = c.stands_in_application.ensures.exact
          ∙ ap (λ terms. stands_in_application c.args.signature.now is_covering c.in-Apply.f
          (map (standing c.args.signature.now is_covering) terms) c.args.i) c.as_slice.ensures
          ∙ sym (ap (λ x. stands_at c.args.signature.now
          (get_or (covers c.args.symbol.now) c.args.place false) x c.args.i) c.in-Apply.is
          ∙ stands_at-apply c.args.signature.now
          (get_or (covers c.args.symbol.now) c.args.place false) c.in-Apply.f c.in-Apply.field-1
          c.in-Apply.terms c.args.i);
    }

pub stands_in_terms-returns-then-place-count : goal.stands_in_terms-returns-then-place-count
stands_in_terms-returns-then-place-count t c =
    record {
      exact = sym (c.loop-place.invariant
          ∙ stands-covers_end c.args.signature.now (covers c.args.symbol.now) c.args.terms.now
          c.loop-place.place c.args.i
          (omega (
            arith,
            c.if-place-count.true,
            ap length c.as_slice-count.ensures,
            length-covers c.args.symbol.now,
          )));
    }

pub stands_in_terms-returns-then-stands_in_argument :
    goal.stands_in_terms-returns-then-stands_in_argument
stands_in_terms-returns-then-stands_in_argument t c =
    record {
      exact = sym (c.loop-place.invariant
          ∙ stands-argument c.args.signature.now (covers c.args.symbol.now) c.args.terms.now
          c.loop-place.place c.args.i c.index-terms-place.result
          (omega (
            arith,
            c.if-place-count.false,
            ap length c.as_slice-count.ensures,
            length-covers c.args.symbol.now,
          ))
          c.loop-place-test.true c.index-terms-place.is
          ∙ ap (λ b. b || stands_in_arguments is_covering
          (drop (c.loop-place.place + 1) (covers c.args.symbol.now))
          (map (standing c.args.signature.now is_covering)
          (drop (c.loop-place.place + 1) c.args.terms.now)) c.args.i)
          (sym c.stands_in_argument.ensures.exact ∙ c.if-stands_in_argument.true));
    }

pub stands_in_terms-returns : goal.stands_in_terms-returns
stands_in_terms-returns t c =
    record {
      exact = sym (c.loop-place.invariant
          ∙ stands-terms_end c.args.signature.now (covers c.args.symbol.now) c.args.terms.now
          c.loop-place.place c.args.i c.loop-place-test.false);
    }
