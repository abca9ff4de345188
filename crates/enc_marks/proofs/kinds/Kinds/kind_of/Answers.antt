use Rattle.std.proofs.Common.{ap, sym, ◌∙◌}
use Rattle.tf_core.specs.declared.term.Term.{Term}
use Rattle.enc_marks.specs.Translation.{Bare, bare}
use Rattle.enc_marks.proofs.Translation.{bare-variable, bare-apply}
use Rattle.enc_marks.proofs.kinds.Kinds.kind_of.Goals as goal

pub returns-in-Var : goal.returns-in-Var
returns-in-Var c = λ choices k g depth.
    let kinds = c.args.self.now in
    c.kind_at.ensures
    ∙ sym (ap (λ (t : Term). (bare choices k g depth kinds t).kind) c.in-Var.is
    ∙ ap (λ (b : Bare). b.kind) (bare-variable choices k g depth kinds c.in-Var.i))

pub returns-in-Apply : goal.returns-in-Apply
returns-in-Apply c = λ choices k g depth.
    let kinds = c.args.self.now in
    sym (ap (λ (t : Term). (bare choices k g depth kinds t).kind) c.in-Apply.is
    ∙ ap (λ (b : Bare). b.kind)
    (bare-apply choices k g depth kinds c.in-Apply.field-0 c.in-Apply.field-1 c.in-Apply.field-2))
