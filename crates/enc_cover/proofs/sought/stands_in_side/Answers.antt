use Rattle.std.specs.Prelude.{◌&&◌, eqb, map}
use Rattle.std.proofs.Common.{sym, ap, ◌∙◌}
use Rattle.tf_naked.specs.Standing.{is_covering, standing, stands_in_application}
use Rattle.enc_cover.specs.Calls.Sought.{stands_at}
use Rattle.enc_cover.proofs.Places.{stands_at-variable, stands_at-apply}
use Rattle.enc_cover.proofs.sought.stands_in_side.Goals as goal

pub returns-then-positive : goal.returns-then-positive
returns-then-positive c =
    record {
      exact = sym (ap (λ x. stands_at c.args.signature.now c.args.positive x c.args.i) c.in-Var.is
          ∙ stands_at-variable c.args.signature.now c.args.positive c.in-Var.n c.args.i
          ∙ ap (λ b. b && eqb c.in-Var.n c.args.i) c.if-positive.true);
    }

pub returns-else-positive : goal.returns-else-positive
returns-else-positive c =
    record {
      exact = c.if-positive.false
          ∙ sym (ap (λ x. stands_at c.args.signature.now c.args.positive x c.args.i) c.in-Var.is
          ∙ stands_at-variable c.args.signature.now c.args.positive c.in-Var.n c.args.i
          ∙ ap (λ b. b && eqb c.in-Var.n c.args.i) c.if-positive.false);
    }

pub returns-in-Apply : goal.returns-in-Apply
returns-in-Apply c =
    record {
      exact = c.stands_in_application.ensures.exact
          ∙ ap (λ terms. stands_in_application c.args.signature.now is_covering c.in-Apply.f
          (map (standing c.args.signature.now is_covering) terms) c.args.i) c.as_slice.ensures
          ∙ sym (ap (λ x. stands_at c.args.signature.now c.args.positive x c.args.i) c.in-Apply.is
          ∙ stands_at-apply c.args.signature.now c.args.positive c.in-Apply.f c.in-Apply.field-1
          c.in-Apply.terms c.args.i);
    }
