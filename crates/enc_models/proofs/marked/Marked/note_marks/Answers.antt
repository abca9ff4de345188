use Rattle.std.proofs.Common.{arith, ◌≡◌}
use Rattle.enc_models.specs.Calls.Lifting.{parts_of, mark_in}
use Rattle.enc_models.proofs.PickedNumbers.{none_noted, noted_more, noted_all}
use Rattle.enc_models.proofs.marked.Marked.note_marks.Goals as goal

pub loop-number-init : goal.loop-number-init
loop-number-init g c = none_noted (mark_in (parts_of g.C.Choices.choices c.args.self.now) c.args.member) _

pub loop-number-preserved : goal.loop-number-preserved
loop-number-preserved g c =
    noted_more (mark_in (parts_of g.C.Choices.choices c.args.self.now) c.args.member) c.loop-number.number c.mark.result _ _ _ c.mark.ensures
    c.loop-number.invariant c.note.ensures

pub returns : goal.returns
returns g c =
    let all : c.loop-number.number ≡ c.args.self.now.model.now.size =
    omega (arith, c.loop-number.auto.number-end, c.loop-number-test.false) in
    noted_all (mark_in (parts_of g.C.Choices.choices c.args.self.now) c.args.member) c.loop-number.number c.args.self.now.model.now.size _ _ all
    c.loop-number.invariant
