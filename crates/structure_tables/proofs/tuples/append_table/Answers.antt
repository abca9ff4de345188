use Rattle.std.proofs.Common.{length, sym, ap, subst, ◌∙◌, arith, ◌≡◌, ◌<◌, ◌-◌, ◌++◌, take}
use Rattle.enc_base.specs.Tables.{EachBelow, tuple_count, place, table}
use Rattle.enc_base.specs.Tuples.{IsNext, IsLast}
use Rattle.enc_base.proofs.TupleOrder.{fewer_left}
use Rattle.enc_base.proofs.Lends.{refill-written}
use Rattle.structure_tables.proofs.Tabling.{entry_first, entry_last, entry_next}
use Rattle.structure_tables.proofs.tuples.append_table.Goals as goal

pub loop-values-init : goal.loop-values-init
loop-values-init g c =
    record {
      below = subst (EachBelow c.args.bounds.now) (sym c.in_ok-values.ensures) c.requires.some;
      so_far = rw c.in_ok-values.ensures (entry_first c.args.bounds.now c.args.entries.now (g.F.TupleFunction.gives c.args.function.now));
    }

pub returns-then-not-next_tuple : goal.returns-then-not-next_tuple
returns-then-not-next_tuple g c =
    c.in_ok-push.ensures.ok
    ∙ entry_last c.args.bounds.now c.loop-values.values.items c.args.entries.now
    c.loop-values.entries (g.F.TupleFunction.gives c.args.function.now) c.at.result
    c.loop-values.invariant.below
    (c.at.ensures ∙ ap (g.F.TupleFunction.gives c.args.function.now) c.as_slice.ensures.value)
    c.loop-values.invariant.so_far
    (subst (IsLast c.args.bounds.now) c.deref_mut.ensures.value
    (c.next_tuple.ensures.last c.if-not-next_tuple.true))

pub loop-values-smaller : goal.loop-values-smaller
loop-values-smaller g c =
    let next : IsNext c.args.bounds.now c.loop-values.values.items c.next_tuple.new.values =
    subst (λ vs. IsNext c.args.bounds.now vs c.next_tuple.new.values) c.deref_mut.ensures.value
    (c.next_tuple.ensures.next c.if-not-next_tuple.false) in
    let long : length c.next_tuple.new.values ≡ c.loop-values.values.len =
    omega (arith, c.next_tuple.auto.values, c.deref_mut.ensures.len) in
    subst
    (λ vs. tuple_count c.args.bounds.now - place c.args.bounds.now vs
    < tuple_count c.args.bounds.now - place c.args.bounds.now c.loop-values.values.items)
    (sym (refill-written c.loop-values.values.len c.next_tuple.new.values c.loop-values.values.items long))
    (fewer_left c.args.bounds.now c.loop-values.values.items c.next_tuple.new.values next)

pub loop-values-preserved : goal.loop-values-preserved
loop-values-preserved g c =
    let next : IsNext c.args.bounds.now c.loop-values.values.items c.next_tuple.new.values =
    subst (λ vs. IsNext c.args.bounds.now vs c.next_tuple.new.values) c.deref_mut.ensures.value
    (c.next_tuple.ensures.next c.if-not-next_tuple.false) in
    let long : length c.next_tuple.new.values ≡ c.loop-values.values.len =
    omega (arith, c.next_tuple.auto.values, c.deref_mut.ensures.len) in
    let same = sym (refill-written c.loop-values.values.len c.next_tuple.new.values c.loop-values.values.items long) in
    record {
      below = subst (EachBelow c.args.bounds.now) same next.below;
      so_far =
          subst
          (λ vs. c.push.new.self ≡ c.args.entries.now
          ++ take (place c.args.bounds.now vs) (table c.args.bounds.now (g.F.TupleFunction.gives c.args.function.now)))
          same
          (c.in_ok-push.ensures.ok
          ∙ entry_next c.args.bounds.now c.loop-values.values.items c.args.entries.now
          c.loop-values.entries (g.F.TupleFunction.gives c.args.function.now) c.at.result
          c.loop-values.invariant.below
          (c.at.ensures ∙ ap (g.F.TupleFunction.gives c.args.function.now) c.as_slice.ensures.value)
          c.loop-values.invariant.so_far c.next_tuple.new.values next);
    }
