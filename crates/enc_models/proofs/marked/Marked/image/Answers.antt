use Rattle.std.proofs.Common.{subst}
use Rattle.enc_models.specs.Calls.Lifting.{parts_of, mark_in, gives_below, AreNoted}
use Rattle.enc_models.proofs.PickedNumbers.{given_lent}
use Rattle.enc_models.proofs.marked.Marked.image.Goals as goal

pub returns : goal.returns
returns g c =
    given_lent (mark_in (parts_of g.C.Choices.choices c.args.self.now) c.args.member) c.args.self.now.model.now.size _ _ _
    (c.in_ok-given.ensures.items_if_clones_equal (λ y same. same))
    c.in_ok-given.ensures.len
    (subst
    (λ before. AreNoted (gives_below (mark_in (parts_of g.C.Choices.choices c.args.self.now) c.args.member) c.args.self.now.model.now.size)
    before c.note_marks.new.given) c.deref_mut.ensures.value c.note_marks.ensures)
