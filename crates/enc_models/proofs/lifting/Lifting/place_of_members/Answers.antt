use Rattle.std.proofs.Common.{arith, refl, length}
use Rattle.enc_models.proofs.Folding.{fold-step, fold-fits, fold-placed}
use Rattle.enc_models.specs.Calls.Lifting.{parts_of, members_in}
use Rattle.enc_models.proofs.lifting.Lifting.place_of_members.Goals as goal

pub overflow_mul-at : goal.overflow_mul-at
overflow_mul-at g c =
    rw c.requires.ready.rows.picked_count
    (omega (
      arith,
      c.requires.entries,
      fold-fits (length c.args.members.now)
          (members_in (parts_of g.C.Choices.choices c.args.self.now.marked.now))
          c.args.members.now c.requires.members c.loop-member.member-index c.loop-member.at _
          c.loop-member-test.true refl c.loop-member.invariant,
    ))

pub overflow_add-at : goal.overflow_add-at
overflow_add-at g c =
    rw c.requires.ready.rows.picked_count
    (omega (
      arith,
      c.requires.entries,
      fold-fits (length c.args.members.now)
          (members_in (parts_of g.C.Choices.choices c.args.self.now.marked.now))
          c.args.members.now c.requires.members c.loop-member.member-index c.loop-member.at _
          c.loop-member-test.true refl c.loop-member.invariant,
    ))

pub loop-member-preserved : goal.loop-member-preserved
loop-member-preserved g c =
    rw c.requires.ready.rows.picked_count
    (fold-step (length c.args.members.now)
    (members_in (parts_of g.C.Choices.choices c.args.self.now.marked.now))
    c.args.members.now c.requires.members c.loop-member.member-index c.loop-member.at _
    c.loop-member-test.true refl c.loop-member.invariant)

pub returns : goal.returns
returns g c =
    fold-placed (length c.args.members.now)
    (members_in (parts_of g.C.Choices.choices c.args.self.now.marked.now))
    c.args.members.now c.requires.members c.loop-member.member-index c.loop-member.at
    (omega (arith, c.loop-member-test.false)) c.loop-member.invariant
