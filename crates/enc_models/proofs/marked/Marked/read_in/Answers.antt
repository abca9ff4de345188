use Rattle.std.proofs.Common.{ap, sym, ◌∙◌, ◌<◌, ◌≡◌, subst}
use Rattle.enc_marks.specs.declared.choices.Elements.{Elements}
use Rattle.enc_marks.specs.declared.choices.Elements.TheVariants.{Image}
use Rattle.enc_laws.specs.Lifted.{read_as}
use Rattle.enc_models.specs.Calls.Lifting.{parts_of, mark_in}
use Rattle.enc_models.proofs.OwnMarks.{into-by_mark, mark_below, image-by_choices}
use Rattle.enc_models.proofs.marked.Marked.read_in.Goals as goal

pub returns-in-Guarded : goal.returns-in-Guarded
returns-in-Guarded g c =
    let m = parts_of g.C.Choices.choices c.args.self.now in
    record {
      exact = ap (λ (e : Elements). read_as e (mark_in m c.args.member) c.args.number)
          (sym c.in-Guarded.is ∙ c.elements.ensures)
          ∙ into-by_mark m c.args.member c.args.number;
      within = c.requires.number;
    }

pub returns-in-Image : goal.returns-in-Image
returns-in-Image g c =
    let m = parts_of g.C.Choices.choices c.args.self.now in
    record {
      exact = c.mark.ensures
          ∙ ap (λ (e : Elements). read_as e (mark_in m c.args.member) c.args.number)
          (sym c.in-Image.is ∙ c.elements.ensures)
          ∙ into-by_mark m c.args.member c.args.number;
      within = subst (λ n. n < m.model.size) (sym c.mark.ensures)
          (mark_below m c.requires.ready.well_formed
          (c.requires.ready.tagged (image-by_choices m c.args.member
          (sym c.elements.ensures ∙ c.in-Image.is))) c.args.member c.args.number
          c.requires.member c.requires.number);
    }

pub returns-in-Fixed : goal.returns-in-Fixed
returns-in-Fixed g c =
    let m = parts_of g.C.Choices.choices c.args.self.now in
    record {
      exact = ap (λ (e : Elements). read_as e (mark_in m c.args.member) c.args.number)
          (sym c.in-Fixed.is ∙ c.elements.ensures)
          ∙ into-by_mark m c.args.member c.args.number;
      within = c.requires.number;
    }

pub returns-in-All : goal.returns-in-All
returns-in-All g c =
    let m = parts_of g.C.Choices.choices c.args.self.now in
    record {
      exact = ap (λ (e : Elements). read_as e (mark_in m c.args.member) c.args.number)
          (sym c.in-All.is ∙ c.elements.ensures)
          ∙ into-by_mark m c.args.member c.args.number;
      within = c.requires.number;
    }
