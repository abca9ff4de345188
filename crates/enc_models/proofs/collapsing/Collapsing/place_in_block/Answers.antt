use Rattle.std.proofs.Common.{arith}
use Rattle.enc_models.specs.Calls.Collapsing.{parts_of, typed_in, size_in}
use Rattle.enc_models.proofs.CollapsedNumbers.{member_inside, elements-step, elements-fit, elements_placed}
use Rattle.enc_models.proofs.collapsing.Collapsing.place_in_block.Goals as goal

pub collapse-element-requires : goal.collapse-element-requires
collapse-element-requires g c = record {
  member = member_inside (typed_in (parts_of g.C.Choices.choices c.args.self.now))
      (size_in (parts_of g.C.Choices.choices c.args.self.now))
      c.requires.ready.some
      c.requires.ready.ready.well_formed.structure.inhabited c.args.members.now
      c.args.values.now c.requires.members c.requires.values c.args.self.now.domain.now
      c.requires.ready.domain_is
      c.loop-i.i c.loop-i-test.true;
}

pub overflow_mul-at : goal.overflow_mul-at
overflow_mul-at g c =
    rw c.as_slice-sizes.ensures
    (omega (
      arith,
      c.requires.entries,
      elements-fit (typed_in (parts_of g.C.Choices.choices c.args.self.now))
          (size_in (parts_of g.C.Choices.choices c.args.self.now))
          c.requires.ready.some
          c.requires.ready.ready.well_formed.structure.inhabited c.args.members.now
          c.args.values.now c.requires.members c.requires.values c.args.self.now.domain.now
          c.requires.ready.domain_is
          c.loop-i.i c.loop-i.at c.collapse-element.result c.loop-i-test.true
          c.collapse-element.ensures.exact c.loop-i.invariant,
    ))

pub overflow_add-at : goal.overflow_add-at
overflow_add-at g c =
    rw c.as_slice-sizes.ensures
    (omega (
      arith,
      c.requires.entries,
      elements-fit (typed_in (parts_of g.C.Choices.choices c.args.self.now))
          (size_in (parts_of g.C.Choices.choices c.args.self.now))
          c.requires.ready.some
          c.requires.ready.ready.well_formed.structure.inhabited c.args.members.now
          c.args.values.now c.requires.members c.requires.values c.args.self.now.domain.now
          c.requires.ready.domain_is
          c.loop-i.i c.loop-i.at c.collapse-element.result c.loop-i-test.true
          c.collapse-element.ensures.exact c.loop-i.invariant,
    ))

pub loop-i-preserved : goal.loop-i-preserved
loop-i-preserved g c =
    rw c.as_slice-sizes.ensures
    (elements-step (typed_in (parts_of g.C.Choices.choices c.args.self.now))
    (size_in (parts_of g.C.Choices.choices c.args.self.now))
    c.requires.ready.some
    c.requires.ready.ready.well_formed.structure.inhabited c.args.members.now
    c.args.values.now c.requires.members c.requires.values c.args.self.now.domain.now
    c.requires.ready.domain_is
    c.loop-i.i c.loop-i.at c.collapse-element.result c.loop-i-test.true
    c.collapse-element.ensures.exact c.loop-i.invariant)

pub returns : goal.returns
returns g c = record {
  exact = elements_placed (typed_in (parts_of g.C.Choices.choices c.args.self.now))
      (size_in (parts_of g.C.Choices.choices c.args.self.now))
      c.requires.ready.some
      c.requires.ready.ready.well_formed.structure.inhabited c.args.members.now
      c.args.values.now c.requires.members c.requires.values c.args.self.now.domain.now
      c.requires.ready.domain_is
      c.loop-i.i c.loop-i.at (omega (arith, c.loop-i-test.false)) c.loop-i.invariant;
}
