use Rattle.std.proofs.Common.{arith, sym, subst, ◌<◌, length, get_or}
use Rattle.tf_stamp.specs.Merged.{merged_size}
use Rattle.enc_models.proofs.Numbers.{number_below, as_many_values, argument_member, elements-step, elements-fit, elements_placed}
use Rattle.enc_models.proofs.merging.Merging.place_in_block.Goals as goal

pub bounds-values-i : goal.bounds-values-i
bounds-values-i g c =
    omega (
      arith,
      c.loop-i-test.true,
      as_many_values c.args.self.now.model.now.sizes c.args.members.now c.args.values.now
          c.requires.ready.ready.well_formed.structure.inhabited c.requires.members c.requires.numbers,
    )

pub element_in-element-requires-clause-number : goal.element_in-element-requires-clause-number
element_in-element-requires-clause-number g c =
    subst (λ sizes. get_or c.args.values.now c.loop-i.i 0 < merged_size sizes)
    (sym c.requires.ready.stamped_is)
    (number_below c.args.self.now.model.now.sizes (length c.args.members.now) c.loop-i.i
    c.args.values.now c.requires.numbers c.loop-i-test.true)

pub element_in-element-requires-clause-member : goal.element_in-element-requires-clause-member
element_in-element-requires-clause-member g c =
    rw c.requires.ready.stamped_is
    (argument_member c.args.self.now.model.now.sizes c.args.members.now c.args.values.now
    c.requires.ready.ready.well_formed.structure.inhabited c.requires.members c.requires.numbers c.loop-i.i c.loop-i-test.true)

pub bounds-sizes-member : goal.bounds-sizes-member
bounds-sizes-member g c =
    rw c.as_slice-sizes.ensures
    (argument_member c.args.self.now.model.now.sizes c.args.members.now c.args.values.now
    c.requires.ready.ready.well_formed.structure.inhabited c.requires.members c.requires.numbers c.loop-i.i c.loop-i-test.true)

pub overflow_mul-at : goal.overflow_mul-at
overflow_mul-at g c =
    rw c.as_slice-sizes.ensures
    (omega (
      arith,
      c.requires.entries,
      elements-fit c.args.self.now.model.now.sizes c.args.members.now c.args.values.now
          c.requires.ready.ready.well_formed.structure.inhabited c.requires.members c.requires.numbers c.loop-i.i c.loop-i.at c.element_in-element.result c.loop-i-test.true
          (rw c.requires.ready.stamped_is at c.element_in-element.ensures.exact)
          c.loop-i.invariant,
    ))

pub overflow_add-at : goal.overflow_add-at
overflow_add-at g c =
    rw c.as_slice-sizes.ensures
    (omega (
      arith,
      c.requires.entries,
      elements-fit c.args.self.now.model.now.sizes c.args.members.now c.args.values.now
          c.requires.ready.ready.well_formed.structure.inhabited c.requires.members c.requires.numbers c.loop-i.i c.loop-i.at c.element_in-element.result c.loop-i-test.true
          (rw c.requires.ready.stamped_is at c.element_in-element.ensures.exact)
          c.loop-i.invariant,
    ))

pub loop-i-preserved : goal.loop-i-preserved
loop-i-preserved g c =
    rw c.as_slice-sizes.ensures
    (elements-step c.args.self.now.model.now.sizes c.args.members.now c.args.values.now
    c.requires.ready.ready.well_formed.structure.inhabited c.requires.members c.requires.numbers c.loop-i.i c.loop-i.at c.element_in-element.result c.loop-i-test.true
    (rw c.requires.ready.stamped_is at c.element_in-element.ensures.exact) c.loop-i.invariant)

pub returns : goal.returns
returns g c = record {
  exact = elements_placed c.args.self.now.model.now.sizes c.args.members.now c.args.values.now
      c.requires.ready.ready.well_formed.structure.inhabited c.requires.members c.requires.numbers c.loop-i.i c.loop-i.at
      (omega (arith, c.loop-i-test.false)) c.loop-i.invariant;
}
