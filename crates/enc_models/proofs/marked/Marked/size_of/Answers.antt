use Rattle.std.proofs.Common.{◌∙◌, ap, sym}
use Rattle.enc_marks.specs.Occurrence.{count_below}
use Rattle.enc_models.specs.Calls.Lifting.{parts_of, picks_in}
use Rattle.enc_models.proofs.PickedNumbers.{count_below-all}
use Rattle.enc_models.proofs.marked.Marked.size_of.Goals as goal

pub returns-then-picks_all : goal.returns-then-picks_all
returns-then-picks_all g c =
    let m = parts_of g.C.Choices.choices c.args.self.now in
    sym (ap (λ n. count_below n (picks_in m c.args.member)) c.requires.bound
    ∙ count_below-all m.model.size (picks_in m c.args.member)
    (c.picks_all.ensures c.if-picks_all.true)
    ∙ sym c.requires.bound)
