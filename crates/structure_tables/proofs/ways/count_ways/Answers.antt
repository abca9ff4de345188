use Rattle.std.proofs.Common.{ℕ, List, length, map, replicate, sym, ap, subst, ◌∙◌, arith, ◌≡◌, ◌<◌, ◌-◌, ◌*◌, ◌+◌, slice_index}
use Rattle.std.proofs.lemmas.List.{length-replicate}
use Rattle.enc_base.specs.Tables.{EachBelow, tuple_count, place, begins}
use Rattle.enc_base.specs.Counts.{in_64_bits}
use Rattle.enc_base.specs.Tuples.{IsNext, IsLast}
use Rattle.enc_base.proofs.TupleOrder.{fewer_left}
use Rattle.enc_base.proofs.Lends.{refill-written}
use Rattle.structure_tables.specs.TypeWays.{one_at}
use Rattle.structure_tables.specs.CountedWays.{choices_of, choices_at, counts_at}
use Rattle.structure_tables.proofs.CountedWays.{first_choices, choices_below, nothing_counted, all_counted, next_counted}
use Rattle.structure_tables.proofs.ways.count_ways.Goals as goal

pub loop-chosen-init : goal.loop-chosen-init
loop-chosen-init g c =
    let members = c.args.members in
    let parts = c.args.parts.now in
    let f = g.F.TupleFunction.gives c.args.function.now in
    record {
      below = subst (EachBelow (map (choices_of members) parts)) (sym c.in_ok-numbers.ensures)
          (first_choices members parts c.requires.some);
      long = ap length c.in_ok-counts.ensures ∙ length-replicate members 0;
      so_far = λ member. nothing_counted members parts c.in_ok-counts.counts.items
          c.in_ok-numbers.numbers.items
          (λ choices. counts_at parts choices * one_at (f (choices_at parts choices)) member)
          c.in_ok-counts.ensures c.in_ok-numbers.ensures member;
    }

pub at-member-requires : goal.at-member-requires
at-member-requires g c =
    let parts = c.args.parts.now in
    c.requires.defined c.as_slice-in-loop-chosen.result.now
    (subst (EachBelow (replicate (length parts) c.args.members))
    (sym (c.as_slice-in-loop-chosen.ensures.value ∙ c.in_ok-more.ensures.chosen
    ∙ ap (choices_at parts) c.as_slice.ensures.value))
    (choices_below c.args.members parts c.loop-chosen.numbers.items c.requires.fit
    c.loop-chosen.invariant.below))

pub add_ways-requires : goal.add_ways-requires
add_ways-requires g c =
    let members = c.args.members in
    let parts = c.args.parts.now in
    let f = g.F.TupleFunction.gives c.args.function.now in
    let chosen = c.as_slice-in-loop-chosen.ensures.value ∙ c.in_ok-more.ensures.chosen
    ∙ ap (choices_at parts) c.as_slice.ensures.value in
    let within : c.at-member.result < members =
    subst (λ n. n < members) (sym (c.at-member.ensures ∙ ap f chosen))
    (c.requires.below (choices_at parts c.loop-chosen.numbers.items)
    (choices_below members parts c.loop-chosen.numbers.items c.requires.fit
    c.loop-chosen.invariant.below)) in
    subst (λ n. c.at-member.result < n)
    (sym (ap length c.deref_mut.ensures.value ∙ c.loop-chosen.invariant.long)) within

pub returns-then-not-next_tuple-clause-counted : goal.returns-then-not-next_tuple-clause-counted
returns-then-not-next_tuple-clause-counted g c =
    let members = c.args.members in
    let parts = c.args.parts.now in
    let f = g.F.TupleFunction.gives c.args.function.now in
    let bounds : List ℕ = map (choices_of members) parts in
    let chosen = c.as_slice-in-loop-chosen.ensures.value ∙ c.in_ok-more.ensures.chosen
    ∙ ap (choices_at parts) c.as_slice.ensures.value in
    let last : IsLast bounds c.loop-chosen.numbers.items =
    subst (λ bs. IsLast bs c.loop-chosen.numbers.items)
    (c.as_slice-in-loop-chosen-2.ensures.value ∙ c.in_ok-bounds.ensures)
    (subst (IsLast c.as_slice-in-loop-chosen-2.result.now) c.deref_mut-in-loop-chosen.ensures.value
    (c.next_tuple.ensures.last c.if-not-next_tuple.true)) in
    let long : length c.add_ways.new.counts ≡ c.loop-chosen.counts.len =
    omega (arith, c.add_ways.auto.counts, c.deref_mut.ensures.len) in
    λ member.
    ap (λ cs. slice_index cs member)
    (refill-written c.loop-chosen.counts.len c.add_ways.new.counts c.loop-chosen.counts.items long)
    ∙ all_counted members parts c.loop-chosen.counts.items c.loop-chosen.numbers.items f
    c.loop-chosen.invariant.below c.in_ok-more.more c.at-member.result c.add_ways.new.counts
    c.loop-chosen.invariant.so_far
    (c.in_ok-more.ensures.counted ∙ ap (λ ns. in_64_bits (counts_at parts ns)) c.as_slice.ensures.value)
    (c.at-member.ensures ∙ ap f chosen)
    (subst (λ cs. (other : ℕ) → slice_index c.add_ways.new.counts other
    ≡ in_64_bits (slice_index cs other + c.in_ok-more.more * one_at c.at-member.result other))
    c.deref_mut.ensures.value c.add_ways.ensures)
    last member

pub loop-chosen-smaller : goal.loop-chosen-smaller
loop-chosen-smaller g c =
    let members = c.args.members in
    let parts = c.args.parts.now in
    let bounds : List ℕ = map (choices_of members) parts in
    let next : IsNext bounds c.loop-chosen.numbers.items c.next_tuple.new.values =
    subst (λ bs. IsNext bs c.loop-chosen.numbers.items c.next_tuple.new.values)
    (c.as_slice-in-loop-chosen-2.ensures.value ∙ c.in_ok-bounds.ensures)
    (subst (λ vs. IsNext c.as_slice-in-loop-chosen-2.result.now vs c.next_tuple.new.values)
    c.deref_mut-in-loop-chosen.ensures.value (c.next_tuple.ensures.next c.if-not-next_tuple.false)) in
    let long : length c.next_tuple.new.values ≡ c.loop-chosen.numbers.len =
    omega (arith, c.next_tuple.auto.values, c.deref_mut-in-loop-chosen.ensures.len) in
    subst
    (λ vs. tuple_count bounds - place bounds vs
    < tuple_count bounds - place bounds c.loop-chosen.numbers.items)
    (sym (refill-written c.loop-chosen.numbers.len c.next_tuple.new.values
    c.loop-chosen.numbers.items long))
    (fewer_left bounds c.loop-chosen.numbers.items c.next_tuple.new.values next)

pub loop-chosen-preserved : goal.loop-chosen-preserved
loop-chosen-preserved g c =
    let members = c.args.members in
    let parts = c.args.parts.now in
    let f = g.F.TupleFunction.gives c.args.function.now in
    let bounds : List ℕ = map (choices_of members) parts in
    let chosen = c.as_slice-in-loop-chosen.ensures.value ∙ c.in_ok-more.ensures.chosen
    ∙ ap (choices_at parts) c.as_slice.ensures.value in
    let next : IsNext bounds c.loop-chosen.numbers.items c.next_tuple.new.values =
    subst (λ bs. IsNext bs c.loop-chosen.numbers.items c.next_tuple.new.values)
    (c.as_slice-in-loop-chosen-2.ensures.value ∙ c.in_ok-bounds.ensures)
    (subst (λ vs. IsNext c.as_slice-in-loop-chosen-2.result.now vs c.next_tuple.new.values)
    c.deref_mut-in-loop-chosen.ensures.value (c.next_tuple.ensures.next c.if-not-next_tuple.false)) in
    let numbers_long : length c.next_tuple.new.values ≡ c.loop-chosen.numbers.len =
    omega (arith, c.next_tuple.auto.values, c.deref_mut-in-loop-chosen.ensures.len) in
    let numbers_are = sym (refill-written c.loop-chosen.numbers.len c.next_tuple.new.values
    c.loop-chosen.numbers.items numbers_long) in
    let counts_long : length c.add_ways.new.counts ≡ c.loop-chosen.counts.len =
    omega (arith, c.add_ways.auto.counts, c.deref_mut.ensures.len) in
    let counts_are = refill-written c.loop-chosen.counts.len c.add_ways.new.counts
    c.loop-chosen.counts.items counts_long in
    record {
      below = subst (EachBelow bounds) numbers_are next.below;
      long = ap length counts_are ∙ c.add_ways.auto.counts ∙ ap length c.deref_mut.ensures.value
          ∙ c.loop-chosen.invariant.long;
      so_far = λ member.
          ap (λ cs. slice_index cs member) counts_are
          ∙ next_counted members parts c.loop-chosen.counts.items c.loop-chosen.numbers.items f
          c.loop-chosen.invariant.below c.in_ok-more.more c.at-member.result
          c.add_ways.new.counts c.loop-chosen.invariant.so_far
          (c.in_ok-more.ensures.counted
          ∙ ap (λ ns. in_64_bits (counts_at parts ns)) c.as_slice.ensures.value)
          (c.at-member.ensures ∙ ap f chosen)
          (subst (λ cs. (other : ℕ) → slice_index c.add_ways.new.counts other
          ≡ in_64_bits (slice_index cs other + c.in_ok-more.more * one_at c.at-member.result other))
          c.deref_mut.ensures.value c.add_ways.ensures)
          c.next_tuple.new.values next member
          ∙ ap (λ ns. in_64_bits (begins bounds
          (λ choices. counts_at parts choices * one_at (f (choices_at parts choices)) member) ns))
          numbers_are;
    }
