use Rattle.std.proofs.Common.{◌≡◌, ◌++◌, ℕ, [], List, ap, sym, ◌∙◌}
use Rattle.std.proofs.lemmas.List.{append-nil}
use Rattle.fof_models.specs.declared.formula.Fof.{Fof}
use Rattle.fof_models.specs.declared.problem.FofRole.{FofRole}
use Rattle.fof_models.specs.declared.problem.FofFormula.{FofFormula}
use Rattle.tf_naked.specs.declared.position.Kind.{Kind}
use Rattle.tf_naked.specs.Binders.{universal_binders}
use Rattle.enc_marks.specs.Axioms.{closed}
use Rattle.enc_marks.specs.Encoded.{role_of}
use Rattle.enc_marks.specs.Calls.Writing.{formula_in}
use Rattle.enc_marks.proofs.writer.Writer.stated.Goals as goal

abbrev made : ℕ → List ℕ → FofRole → Fof → FofFormula
made count name role body = record { name = name; role = role; body = closed count body }

pub returns : goal.returns
returns g c =
    let choices = g.C.Choices.choices c.args.self.now.choices.now in
    let normal = c.args.self.now.types.normal.now in
    let formula = c.args.formula.now in
    let count = formula.type_variables in
    let binders = universal_binders normal.signature formula.body in
    let start : c.as_slice.result.now ≡ binders ++ [] =
    c.as_slice.ensures ∙ c.in_ok-binders.ensures.exact ∙ sym (append-nil binders) in
    let read = c.in_ok-body.ensures.exact [] start in
    ap (λ name. made count name c.role.result c.in_ok-body.body) c.in_ok-copy.ensures
    ∙ ap (λ role. made count formula.name role c.in_ok-body.body) c.role.ensures
    ∙ ap (λ (body : Fof). made count formula.name (role_of formula.negated) body)
    (read.1 ∙ ap (λ (kinds : List Kind). formula_in choices normal count kinds formula.body)
    c.new.ensures)
