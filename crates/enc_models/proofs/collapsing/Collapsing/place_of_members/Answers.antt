use Rattle.std.proofs.Common.{arith, refl}
use Rattle.enc_models.specs.Calls.Collapsing.{parts_of, typed_in}
use Rattle.enc_models.proofs.CollapsedNumbers.{members-step, members-fit, members_placed}
use Rattle.enc_models.proofs.collapsing.Collapsing.place_of_members.Goals as goal

pub overflow_mul-at : goal.overflow_mul-at
overflow_mul-at g c =
    rw c.as_slice-count.ensures
    (omega (
      arith,
      c.requires.entries,
      members-fit (typed_in (parts_of g.C.Choices.choices c.args.self.now))
          c.requires.ready.ready.well_formed.structure.some c.args.values.now
          c.loop-value.value-index c.loop-value.at _ c.loop-value-test.true refl
          c.loop-value.invariant,
    ))

pub overflow_add-at : goal.overflow_add-at
overflow_add-at g c =
    rw c.as_slice-count.ensures
    (omega (
      arith,
      c.requires.entries,
      members-fit (typed_in (parts_of g.C.Choices.choices c.args.self.now))
          c.requires.ready.ready.well_formed.structure.some c.args.values.now
          c.loop-value.value-index c.loop-value.at c.below_or_first.result c.loop-value-test.true
          (rw c.as_slice-count.ensures at c.below_or_first.ensures.exact)
          c.loop-value.invariant,
    ))

pub loop-value-preserved : goal.loop-value-preserved
loop-value-preserved g c =
    rw c.as_slice-count.ensures
    (members-step (typed_in (parts_of g.C.Choices.choices c.args.self.now))
    c.requires.ready.ready.well_formed.structure.some c.args.values.now
    c.loop-value.value-index c.loop-value.at c.below_or_first.result c.loop-value-test.true
    (rw c.as_slice-count.ensures at c.below_or_first.ensures.exact)
    c.loop-value.invariant)

pub returns : goal.returns
returns g c =
    record {
      exact = members_placed (typed_in (parts_of g.C.Choices.choices c.args.self.now))
          c.requires.ready.ready.well_formed.structure.some c.args.values.now
          c.loop-value.value-index c.loop-value.at (omega (arith, c.loop-value-test.false))
          c.loop-value.invariant;
    }
