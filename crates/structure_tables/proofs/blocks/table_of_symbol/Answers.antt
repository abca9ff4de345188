use Rattle.std.proofs.Common.{length, sym, ap, subst, ◌∙◌, arith, ◌≡◌, ◌<◌, ◌-◌, ◌++◌, replicate}
use Rattle.enc_base.specs.Tables.{EachBelow, tuple_count, place}
use Rattle.enc_base.specs.Tuples.{IsNext, IsLast}
use Rattle.enc_base.proofs.TupleOrder.{fewer_left}
use Rattle.enc_base.proofs.Lends.{refill-written}
use Rattle.tf_core.specs.Structures.{member_count}
use Rattle.structure_tables.specs.TypedTabled.{symbol_block}
use Rattle.structure_tables.proofs.BlockOrder.{first_below, bounds_of_members, blocks_before, blocks_first, block_last, block_next}
use Rattle.structure_tables.proofs.blocks.table_of_symbol.Goals as goal

pub loop-entries-init : goal.loop-entries-init
loop-entries-init g c =
    let s = g.S.TypedSource.structure c.args.source.now in
    let count = c.args.symbol.now.parameters in
    record {
      below = subst (EachBelow (replicate count (member_count s))) (sym c.in_ok-members.ensures)
          (first_below count (member_count s) c.requires.sized.fits.some);
      so_far =
          c.in_ok-entries.ensures
          ∙ blocks_first (member_count s) c.requires.sized.fits.some count
          (symbol_block s c.args.symbol.now c.args.f)
          ∙ ap (blocks_before (member_count s) count (symbol_block s c.args.symbol.now c.args.f))
          (sym c.in_ok-members.ensures);
    }

pub append_block-requires-clause-members : goal.append_block-requires-clause-members
append_block-requires-clause-members g c =
    let s = g.S.TypedSource.structure c.args.source.now in
    subst (EachBelow (replicate c.args.symbol.now.parameters (member_count s)))
    (sym c.as_slice.ensures.value) c.loop-entries.invariant.below

pub next_tuple-requires : goal.next_tuple-requires
next_tuple-requires g c =
    let s = g.S.TypedSource.structure c.args.source.now in
    let bounds = bounds_of_members s c.args.symbol.now.parameters c.args.sizes.now
    c.in_ok-bounds.bounds.items c.as_slice-in-loop-entries.result.now c.requires.sized.same
    c.in_ok-bounds.ensures c.as_slice-in-loop-entries.ensures.value in
    record {
      below = rw (bounds, c.deref_mut.ensures.value) c.loop-entries.invariant.below;
    }

pub returns-then-not-next_tuple : goal.returns-then-not-next_tuple
returns-then-not-next_tuple g c =
    let s = g.S.TypedSource.structure c.args.source.now in
    let count = c.args.symbol.now.parameters in
    let bounds = bounds_of_members s count c.args.sizes.now c.in_ok-bounds.bounds.items
    c.as_slice-in-loop-entries.result.now c.requires.sized.same c.in_ok-bounds.ensures
    c.as_slice-in-loop-entries.ensures.value in
    let last : IsLast (replicate count (member_count s)) c.loop-entries.members.items =
    subst (λ bs. IsLast bs c.loop-entries.members.items) bounds
    (subst (IsLast c.as_slice-in-loop-entries.result.now) c.deref_mut.ensures.value
    (c.next_tuple.ensures.last c.if-not-next_tuple.true)) in
    c.in_ok-append_block.ensures
    ∙ ap (λ members. c.loop-entries.entries ++ symbol_block s c.args.symbol.now c.args.f members)
    c.as_slice.ensures.value
    ∙ block_last (member_count s) c.requires.sized.fits.some count
    (symbol_block s c.args.symbol.now c.args.f) c.loop-entries.members.items
    c.loop-entries.entries c.loop-entries.invariant.below c.loop-entries.invariant.so_far last

pub loop-entries-smaller : goal.loop-entries-smaller
loop-entries-smaller g c =
    let s = g.S.TypedSource.structure c.args.source.now in
    let count = c.args.symbol.now.parameters in
    let bounds = bounds_of_members s count c.args.sizes.now c.in_ok-bounds.bounds.items
    c.as_slice-in-loop-entries.result.now c.requires.sized.same c.in_ok-bounds.ensures
    c.as_slice-in-loop-entries.ensures.value in
    let next : IsNext (replicate count (member_count s)) c.loop-entries.members.items
    c.next_tuple.new.values =
    subst (λ bs. IsNext bs c.loop-entries.members.items c.next_tuple.new.values) bounds
    (subst (λ vs. IsNext c.as_slice-in-loop-entries.result.now vs c.next_tuple.new.values)
    c.deref_mut.ensures.value (c.next_tuple.ensures.next c.if-not-next_tuple.false)) in
    let long : length c.next_tuple.new.values ≡ c.loop-entries.members.len =
    omega (arith, c.next_tuple.auto.values, c.deref_mut.ensures.len) in
    subst
    (λ vs. tuple_count (replicate count (member_count s))
    - place (replicate count (member_count s)) vs
    < tuple_count (replicate count (member_count s))
    - place (replicate count (member_count s)) c.loop-entries.members.items)
    (sym (refill-written c.loop-entries.members.len c.next_tuple.new.values
    c.loop-entries.members.items long))
    (fewer_left (replicate count (member_count s)) c.loop-entries.members.items
    c.next_tuple.new.values next)

pub loop-entries-preserved : goal.loop-entries-preserved
loop-entries-preserved g c =
    let s = g.S.TypedSource.structure c.args.source.now in
    let count = c.args.symbol.now.parameters in
    let bounds = bounds_of_members s count c.args.sizes.now c.in_ok-bounds.bounds.items
    c.as_slice-in-loop-entries.result.now c.requires.sized.same c.in_ok-bounds.ensures
    c.as_slice-in-loop-entries.ensures.value in
    let next : IsNext (replicate count (member_count s)) c.loop-entries.members.items
    c.next_tuple.new.values =
    subst (λ bs. IsNext bs c.loop-entries.members.items c.next_tuple.new.values) bounds
    (subst (λ vs. IsNext c.as_slice-in-loop-entries.result.now vs c.next_tuple.new.values)
    c.deref_mut.ensures.value (c.next_tuple.ensures.next c.if-not-next_tuple.false)) in
    let long : length c.next_tuple.new.values ≡ c.loop-entries.members.len =
    omega (arith, c.next_tuple.auto.values, c.deref_mut.ensures.len) in
    let same = sym (refill-written c.loop-entries.members.len c.next_tuple.new.values
    c.loop-entries.members.items long) in
    record {
      below = subst (EachBelow (replicate count (member_count s))) same next.below;
      so_far =
          c.in_ok-append_block.ensures
          ∙ ap (λ members. c.loop-entries.entries
          ++ symbol_block s c.args.symbol.now c.args.f members) c.as_slice.ensures.value
          ∙ block_next (member_count s) c.requires.sized.fits.some count
          (symbol_block s c.args.symbol.now c.args.f) c.loop-entries.members.items
          c.loop-entries.entries c.loop-entries.invariant.below c.loop-entries.invariant.so_far
          c.next_tuple.new.values next
          ∙ ap (blocks_before (member_count s) count (symbol_block s c.args.symbol.now c.args.f)) same;
    }
