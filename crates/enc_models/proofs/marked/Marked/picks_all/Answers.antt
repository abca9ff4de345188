use Rattle.std.proofs.Common.{◌∙◌, ◌<◌, ℕ, ap, sym}
use Rattle.enc_marks.specs.declared.choices.Elements.{Elements}
use Rattle.enc_laws.specs.Lifted.{is_element}
use Rattle.enc_models.specs.Calls.Lifting.{parts_of, mark_in}
use Rattle.enc_models.proofs.OwnMarks.{picks-by_mark, image-same, fixed-same}
use Rattle.enc_models.proofs.marked.Marked.picks_all.Goals as goal

pub returns-in-Image : goal.returns-in-Image
returns-in-Image g c is number within =
    let m = parts_of g.C.Choices.choices c.args.self.now in
    sym (picks-by_mark m c.args.member number)
    ∙ ap (λ (e : Elements). is_element e m.model.size (mark_in m c.args.member) number)
    (sym c.elements.ensures ∙ c.in-Image.is)
    ∙ image-same m.model.size (mark_in m c.args.member) number within
    (c.changes_nothing.ensures is number within)

pub returns-in-Fixed : goal.returns-in-Fixed
returns-in-Fixed g c is number within =
    let m = parts_of g.C.Choices.choices c.args.self.now in
    sym (picks-by_mark m c.args.member number)
    ∙ ap (λ (e : Elements). is_element e m.model.size (mark_in m c.args.member) number)
    (sym c.elements.ensures ∙ c.in-Fixed.is)
    ∙ fixed-same (mark_in m c.args.member) number (c.changes_nothing-in-Fixed.ensures is number within)

pub returns-in-All : goal.returns-in-All
returns-in-All g c is number within =
    let m = parts_of g.C.Choices.choices c.args.self.now in
    sym (picks-by_mark m c.args.member number)
    ∙ ap (λ (e : Elements). is_element e m.model.size (mark_in m c.args.member) number)
    (sym c.elements.ensures ∙ c.in-All.is)
