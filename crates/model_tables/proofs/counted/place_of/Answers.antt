use Rattle.std.proofs.Common.{arith, refl, length}
use Rattle.model_tables.proofs.CountedFacts.{placed-step, placed-fits, placed-all}
use Rattle.model_tables.proofs.counted.place_of.Goals as goal

pub overflow_mul-at : goal.overflow_mul-at
overflow_mul-at c =
    omega (
      arith,
      c.requires.entries,
      placed-fits (length c.args.members.now) c.args.bound c.args.members.now c.requires.members
          c.loop-member.member-index c.loop-member.at _ c.loop-member-test.true refl
          c.loop-member.invariant,
    )

pub overflow_add-at : goal.overflow_add-at
overflow_add-at c =
    omega (
      arith,
      c.requires.entries,
      placed-fits (length c.args.members.now) c.args.bound c.args.members.now c.requires.members
          c.loop-member.member-index c.loop-member.at _ c.loop-member-test.true refl
          c.loop-member.invariant,
    )

pub loop-member-preserved : goal.loop-member-preserved
loop-member-preserved c =
    placed-step (length c.args.members.now) c.args.bound c.args.members.now c.requires.members
    c.loop-member.member-index c.loop-member.at _ c.loop-member-test.true refl
    c.loop-member.invariant

pub returns : goal.returns
returns c =
    placed-all (length c.args.members.now) c.args.bound c.args.members.now c.requires.members
    c.loop-member.member-index c.loop-member.at (omega (arith, c.loop-member-test.false))
    c.loop-member.invariant
