use Rattle.std.proofs.Common.{◌∙◌, ◌<◌, arith, ap, sym, subst, length}
use Rattle.enc_models.specs.Calls.Lifting.{parts_of}
use Rattle.enc_models.proofs.OwnMarks.{members-by_sort, elements-by_type, elements-free, elements-not_free, free_within}
use Rattle.enc_models.proofs.marked.Marked.elements.Goals as goal

pub bounds-self-member : goal.bounds-self-member
bounds-self-member g c =
    let m = parts_of g.C.Choices.choices c.args.self.now in
    free_within m c.requires.ready (sym c.marking.ensures ∙ c.in-BySort.is) c.args.member
    c.requires.member

pub returns-in-ByType : goal.returns-in-ByType
returns-in-ByType g c =
    let m = parts_of g.C.Choices.choices c.args.self.now in
    c.elements.ensures
    ∙ elements-by_type m (sym c.marking.ensures ∙ c.in-ByType.is) c.args.member
