use Rattle.std.proofs.Common.{arith, ap, sym, ◌∙◌, eqb}
use Rattle.enc_marks.specs.declared.choices.Elements.{Elements}
use Rattle.enc_laws.specs.Lifted.{is_element}
use Rattle.enc_models.specs.Calls.Lifting.{parts_of, mark_in}
use Rattle.enc_models.proofs.OwnMarks.{picks-by_mark}
use Rattle.enc_models.proofs.marked.Marked.picks.Goals as goal

pub bounds-given-number : goal.bounds-given-number
bounds-given-number g c =
    omega (
      arith,
      (c.requires.given (sym c.elements.ensures ∙ c.in-Image.is)).length_is,
      c.requires.number,
    )

pub returns-in-Guarded : goal.returns-in-Guarded
returns-in-Guarded g c =
    let m = parts_of g.C.Choices.choices c.args.self.now in
    ap (λ v. eqb v 1) c.mark-mark.ensures
    ∙ ap (λ (e : Elements). is_element e m.model.size (mark_in m c.args.member) c.args.number)
    (sym c.in-Guarded.is ∙ c.elements.ensures)
    ∙ picks-by_mark m c.args.member c.args.number

pub returns-in-Image : goal.returns-in-Image
returns-in-Image g c =
    let m = parts_of g.C.Choices.choices c.args.self.now in
    (c.requires.given (sym c.elements.ensures ∙ c.in-Image.is)).each c.args.number c.requires.number
    ∙ ap (λ (e : Elements). is_element e m.model.size (mark_in m c.args.member) c.args.number)
    (sym c.in-Image.is ∙ c.elements.ensures)
    ∙ picks-by_mark m c.args.member c.args.number

pub returns-in-Fixed : goal.returns-in-Fixed
returns-in-Fixed g c =
    let m = parts_of g.C.Choices.choices c.args.self.now in
    ap (λ v. eqb v c.args.number) c.mark-mark.ensures
    ∙ ap (λ (e : Elements). is_element e m.model.size (mark_in m c.args.member) c.args.number)
    (sym c.in-Fixed.is ∙ c.elements.ensures)
    ∙ picks-by_mark m c.args.member c.args.number

pub returns-in-All : goal.returns-in-All
returns-in-All g c =
    let m = parts_of g.C.Choices.choices c.args.self.now in
    ap (λ (e : Elements). is_element e m.model.size (mark_in m c.args.member) c.args.number)
    (sym c.in-All.is ∙ c.elements.ensures)
    ∙ picks-by_mark m c.args.member c.args.number
