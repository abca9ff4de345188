use Rattle.std.proofs.Common.{ℕ, Bool, List, length, sym, ap, subst, ◌∙◌, arith, ◌≡◌, ◌<◌, ◌-◌, ◌*◌, replicate}
use Rattle.enc_base.specs.Tables.{EachBelow, tuple_count, place, begins}
use Rattle.enc_base.specs.Counts.{in_64_bits}
use Rattle.enc_base.specs.Tuples.{IsNext, IsLast}
use Rattle.enc_base.proofs.TupleOrder.{fewer_left}
use Rattle.enc_base.proofs.Lends.{refill-written}
use Rattle.tf_core.specs.Structures.{member_count}
use Rattle.structure_tables.specs.ParameterSets.{bounds_of}
use Rattle.structure_tables.specs.ParameterGroups.{kept_inside, is_kept, sizes_inside}
use Rattle.structure_tables.proofs.CountedBlocks.{count_first, counted_next, product_last, product_full}
use Rattle.structure_tables.proofs.CountedGroups.{only}
use Rattle.structure_tables.proofs.GroupWeights.{bounds_are, first_chosen, EachBelow-chosen}
use Rattle.structure_tables.proofs.group_counts.times_group.Goals as goal
use Rattle.structure_tables.proofs.group_counts.times_group.Goals.{then-product-via-then-product, then-product-via-else-product+then-not-next_tuple}

pub loop-members-init : goal.loop-members-init
loop-members-init g c =
    let s = g.S.TypedSource.structure c.args.source.now in
    let groups = c.args.groups.now.parameters in
    let kept = is_kept c.args.groups.now.uses in
    let among : ℕ → Bool = kept_inside kept groups (only c.args.group) in
    let bounds : List ℕ = bounds_of (member_count s) among c.args.symbol.now.parameters in
    let lengths : List ℕ → ℕ = λ members.
    tuple_count (sizes_inside s kept c.args.symbol.now.arguments groups (only c.args.group) members) in
    let are = bounds_are s among c.args.symbol.now.parameters (length groups) c.args.sizes.now
    c.in_ok-bounds.bounds c.as_slice.result.now c.requires.sized.same c.requires.groups.long
    c.in_ok-bounds.ensures c.as_slice.ensures in
    let zeros : c.in_ok-members.members.items ≡ replicate (length bounds) 0 =
    c.in_ok-members.ensures ∙ ap (λ bs. replicate (length bs) 0) are in
    record {
      below = subst (EachBelow bounds) (sym zeros)
          (first_chosen (member_count s) among c.args.symbol.now.parameters
          c.requires.sized.fits.some);
      so_far = count_first bounds lengths
          ∙ ap (λ members. in_64_bits (begins bounds lengths members)) (sym zeros);
    }

pub entries_of_members-requires-clause-members : goal.entries_of_members-requires-clause-members
entries_of_members-requires-clause-members g c =
    let s = g.S.TypedSource.structure c.args.source.now in
    let groups = c.args.groups.now.parameters in
    let kept = is_kept c.args.groups.now.uses in
    let among : ℕ → Bool = kept_inside kept groups (only c.args.group) in
    let bounds : List ℕ = bounds_of (member_count s) among c.args.symbol.now.parameters in
    let lengths : List ℕ → ℕ = λ members.
    tuple_count (sizes_inside s kept c.args.symbol.now.arguments groups (only c.args.group) members) in
    subst (EachBelow (replicate c.args.symbol.now.parameters (member_count s)))
    (sym c.as_slice-now.ensures.value)
    (EachBelow-chosen (member_count s) among c.args.symbol.now.parameters
    c.loop-members.members.items c.requires.sized.fits.some c.loop-members.invariant.below)

pub next_tuple-requires : goal.next_tuple-requires
next_tuple-requires g c =
    let s = g.S.TypedSource.structure c.args.source.now in
    let groups = c.args.groups.now.parameters in
    let kept = is_kept c.args.groups.now.uses in
    let among : ℕ → Bool = kept_inside kept groups (only c.args.group) in
    let bounds : List ℕ = bounds_of (member_count s) among c.args.symbol.now.parameters in
    let lengths : List ℕ → ℕ = λ members.
    tuple_count (sizes_inside s kept c.args.symbol.now.arguments groups (only c.args.group) members) in
    let are = bounds_are s among c.args.symbol.now.parameters (length groups) c.args.sizes.now
    c.in_ok-bounds.bounds c.as_slice-else-product.result.now c.requires.sized.same c.requires.groups.long
    c.in_ok-bounds.ensures c.as_slice-else-product.ensures in
    record { below = rw (are, c.deref_mut.ensures.value) c.loop-members.invariant.below }

pub returns-then-product : goal.returns-then-product
returns-then-product g c =
    let s = g.S.TypedSource.structure c.args.source.now in
    let groups = c.args.groups.now.parameters in
    let kept = is_kept c.args.groups.now.uses in
    let among : ℕ → Bool = kept_inside kept groups (only c.args.group) in
    let bounds : List ℕ = bounds_of (member_count s) among c.args.symbol.now.parameters in
    let lengths : List ℕ → ℕ = λ members.
    tuple_count (sizes_inside s kept c.args.symbol.now.arguments groups (only c.args.group) members) in
    let block = c.in_ok-block.ensures
    ∙ ap (λ members. in_64_bits (lengths members)) c.as_slice-now.ensures.value in
    let product = c.saturating_mul-product.ensures
    ∙ ap (λ n. in_64_bits (c.args.factor * n)) c.saturating_add-entries.ensures in
    elim c.then-product.branch [
      | then-product-via-then-product w ↦
          product
          ∙ product_full bounds lengths c.loop-members.members.items c.loop-members.entries
          c.in_ok-block.block c.loop-members.invariant.below c.loop-members.invariant.so_far block
          c.args.factor (sym product ∙ w.if-product.true)
      | then-product-via-else-product+then-not-next_tuple w ↦
          let are = bounds_are s among c.args.symbol.now.parameters (length groups) c.args.sizes.now
          c.in_ok-bounds.bounds w.as_slice-else-product.result.now c.requires.sized.same c.requires.groups.long
          c.in_ok-bounds.ensures w.as_slice-else-product.ensures in
          let last : IsLast bounds c.loop-members.members.items =
          subst (λ bs. IsLast bs c.loop-members.members.items) are
          (subst (IsLast w.as_slice-else-product.result.now) w.deref_mut.ensures.value
          (w.next_tuple.ensures.last w.if-not-next_tuple.true)) in
          product
          ∙ product_last bounds lengths c.loop-members.members.items c.loop-members.entries
          c.in_ok-block.block c.loop-members.invariant.below c.loop-members.invariant.so_far block
          c.args.factor last
    ]

pub loop-members-smaller : goal.loop-members-smaller
loop-members-smaller g c =
    let s = g.S.TypedSource.structure c.args.source.now in
    let groups = c.args.groups.now.parameters in
    let kept = is_kept c.args.groups.now.uses in
    let among : ℕ → Bool = kept_inside kept groups (only c.args.group) in
    let bounds : List ℕ = bounds_of (member_count s) among c.args.symbol.now.parameters in
    let lengths : List ℕ → ℕ = λ members.
    tuple_count (sizes_inside s kept c.args.symbol.now.arguments groups (only c.args.group) members) in
    let are = bounds_are s among c.args.symbol.now.parameters (length groups) c.args.sizes.now
    c.in_ok-bounds.bounds c.as_slice-else-product.result.now c.requires.sized.same c.requires.groups.long
    c.in_ok-bounds.ensures c.as_slice-else-product.ensures in
    let next : IsNext bounds c.loop-members.members.items c.next_tuple.new.values =
    subst (λ bs. IsNext bs c.loop-members.members.items c.next_tuple.new.values) are
    (subst (λ vs. IsNext c.as_slice-else-product.result.now vs c.next_tuple.new.values)
    c.deref_mut.ensures.value (c.next_tuple.ensures.next c.if-not-next_tuple.false)) in
    let long : length c.next_tuple.new.values ≡ c.loop-members.members.len =
    omega (arith, c.next_tuple.auto.values, c.deref_mut.ensures.len) in
    subst
    (λ vs. tuple_count bounds - place bounds vs
    < tuple_count bounds - place bounds c.loop-members.members.items)
    (sym (refill-written c.loop-members.members.len c.next_tuple.new.values
    c.loop-members.members.items long))
    (fewer_left bounds c.loop-members.members.items c.next_tuple.new.values next)

pub loop-members-preserved : goal.loop-members-preserved
loop-members-preserved g c =
    let s = g.S.TypedSource.structure c.args.source.now in
    let groups = c.args.groups.now.parameters in
    let kept = is_kept c.args.groups.now.uses in
    let among : ℕ → Bool = kept_inside kept groups (only c.args.group) in
    let bounds : List ℕ = bounds_of (member_count s) among c.args.symbol.now.parameters in
    let lengths : List ℕ → ℕ = λ members.
    tuple_count (sizes_inside s kept c.args.symbol.now.arguments groups (only c.args.group) members) in
    let are = bounds_are s among c.args.symbol.now.parameters (length groups) c.args.sizes.now
    c.in_ok-bounds.bounds c.as_slice-else-product.result.now c.requires.sized.same c.requires.groups.long
    c.in_ok-bounds.ensures c.as_slice-else-product.ensures in
    let next : IsNext bounds c.loop-members.members.items c.next_tuple.new.values =
    subst (λ bs. IsNext bs c.loop-members.members.items c.next_tuple.new.values) are
    (subst (λ vs. IsNext c.as_slice-else-product.result.now vs c.next_tuple.new.values)
    c.deref_mut.ensures.value (c.next_tuple.ensures.next c.if-not-next_tuple.false)) in
    let long : length c.next_tuple.new.values ≡ c.loop-members.members.len =
    omega (arith, c.next_tuple.auto.values, c.deref_mut.ensures.len) in
    let same = sym (refill-written c.loop-members.members.len c.next_tuple.new.values
    c.loop-members.members.items long) in
    record {
      below = subst (EachBelow bounds) same next.below;
      so_far =
          c.saturating_add-entries.ensures
          ∙ counted_next bounds lengths c.loop-members.members.items c.loop-members.entries
          c.in_ok-block.block c.loop-members.invariant.below c.loop-members.invariant.so_far
          (c.in_ok-block.ensures
          ∙ ap (λ members. in_64_bits (lengths members)) c.as_slice-now.ensures.value)
          c.next_tuple.new.values next
          ∙ ap (λ vs. in_64_bits (begins bounds lengths vs)) same;
    }
