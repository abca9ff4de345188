use Rattle.std.proofs.Common.{arith, sym, ap, subst, ◌∙◌, slice_index, length}
use Rattle.enc_base.specs.Tables.{place}
use Rattle.enc_base.proofs.Placing.{placed_within}
use Rattle.tf_collapse.specs.Domain.{CollapsedDomain, IsDomain}
use Rattle.tf_collapse.proofs.Domain.{member_within, elements-step, elements-fit, elements_placed}
use Rattle.tf_collapse.proofs.collapse.Collapse.entry.Goals as goal

pub collapse-element-requires : goal.collapse-element-requires
collapse-element-requires c = record {
  member = member_within (length c.args.self.now.sizes) c.loop-i.i c.args.members.now
      c.requires.members c.loop-i-test.true;
}

pub overflow_mul-at : goal.overflow_mul-at
overflow_mul-at c =
    let has = subst IsDomain c.self.view_is c.self.invariant in
    rw (c.as_slice-sizes.ensures ∙ ap (λ (d : CollapsedDomain). d.sizes) c.self.view_is)
    (omega (
      arith,
      c.requires.entries,
      elements-fit c.args.self.now has c.args.members.now c.args.values.now c.requires.members
          c.requires.values c.loop-i.i c.loop-i.at c.collapse-element.result c.loop-i-test.true
          c.collapse-element.ensures.exact c.loop-i.invariant,
    ))

pub overflow_add-at : goal.overflow_add-at
overflow_add-at c =
    let has = subst IsDomain c.self.view_is c.self.invariant in
    rw (c.as_slice-sizes.ensures ∙ ap (λ (d : CollapsedDomain). d.sizes) c.self.view_is)
    (omega (
      arith,
      c.requires.entries,
      elements-fit c.args.self.now has c.args.members.now c.args.values.now c.requires.members
          c.requires.values c.loop-i.i c.loop-i.at c.collapse-element.result c.loop-i-test.true
          c.collapse-element.ensures.exact c.loop-i.invariant,
    ))

pub loop-i-preserved : goal.loop-i-preserved
loop-i-preserved c =
    let has = subst IsDomain c.self.view_is c.self.invariant in
    rw (c.as_slice-sizes.ensures ∙ ap (λ (d : CollapsedDomain). d.sizes) c.self.view_is)
    (elements-step c.args.self.now has c.args.members.now c.args.values.now c.requires.members
    c.requires.values c.loop-i.i c.loop-i.at c.collapse-element.result c.loop-i-test.true
    c.collapse-element.ensures.exact c.loop-i.invariant)

pub bounds-table-at : goal.bounds-table-at
bounds-table-at c =
    let has = subst IsDomain c.self.view_is c.self.invariant in
    omega (
      arith,
      c.requires.entries,
      placed_within _ _ c.loop-i.at
          (elements_placed c.args.self.now has c.args.members.now c.args.values.now
          c.requires.members c.requires.values c.loop-i.i c.loop-i.at
          (omega (arith, c.loop-i-test.false)) c.loop-i.invariant),
    )

pub offset_bounds-table-at : goal.offset_bounds-table-at
offset_bounds-table-at c =
    let has = subst IsDomain c.self.view_is c.self.invariant in
    omega (
      arith,
      c.as_slice-sizes.type_inv,
      c.requires.entries,
      placed_within _ _ c.loop-i.at
          (elements_placed c.args.self.now has c.args.members.now c.args.values.now
          c.requires.members c.requires.values c.loop-i.i c.loop-i.at
          (omega (arith, c.loop-i-test.false)) c.loop-i.invariant),
    )

pub returns : goal.returns
returns c =
    let has = subst IsDomain c.self.view_is c.self.invariant in
    let placed = elements_placed c.args.self.now has c.args.members.now c.args.values.now
    c.requires.members c.requires.values c.loop-i.i c.loop-i.at
    (omega (arith, c.loop-i-test.false)) c.loop-i.invariant in
    record { exact = ap (slice_index c.args.table.now) placed.place_is }
