use Rattle.std.proofs.Common.{ap, sym, ◌∙◌, cond, not}
use Rattle.enc_marks.specs.declared.choices.Binding.{Binding}
use Rattle.enc_marks.specs.Encoded.{is_guard}
use Rattle.enc_models.proofs.marked.Marked.absent_mark.Goals as goal

pub returns-in-ByGuard : goal.returns-in-ByGuard
returns-in-ByGuard g c =
    ap (λ (b : Binding). cond (not (is_guard b)) c.args.number 0)
    (sym c.in-ByGuard.is ∙ c.binding.ensures)

pub returns-in-ByTag : goal.returns-in-ByTag
returns-in-ByTag g c =
    ap (λ (b : Binding). cond (not (is_guard b)) c.args.number 0)
    (sym c.in-ByTag.is ∙ c.binding.ensures)
