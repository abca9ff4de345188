use Rattle.std.proofs.Common.{ℕ, ◌≡◌, ◌≤◌, ◌+◌, ◌-◌, ◌∙◌, get_or, take, refl, sym, subst, arith}
use Rattle.std.proofs.lemmas.List.{length-set}
use Rattle.enc_base.proofs.TupleOrder.{IsStepping, stepping_none, stepping_last}
use Rattle.tf_core.specs.Occurrences.{occurs_in}
use Rattle.tf_models.specs.Search.{tried}
use Rattle.tf_models.proofs.NextTuple.{part_below, stepping_ends, stepping_more, same_read}
use Rattle.tf_models.proofs.Varying.{length-bounds_where, tuple_count-used, varying_higher, fixed_full, varying_full, varying_small}
use Rattle.tf_models.proofs.env.next_tuple.Goals as goal
use Rattle.tf_models.proofs.env.next_tuple.Goals.{else-index-bound-via-then-index-bound+else-varies, else-index-bound-via-else-index-bound}

pub loop-i-init : goal.loop-i-init
loop-i-init c = record {
  long = refl;
  so_far = stepping_none (tried c.args.bound c.args.formula.now c.args.count)
      (take c.args.count c.args.slots.now.items) c.args.used c.requires.below
      (tuple_count-used c.args.bound c.args.count c.args.used
      (λ i. occurs_in i c.args.formula.now) c.requires.used.none);
}

pub overflow_add-index : goal.overflow_add-index
overflow_add-index c =
    omega (
      arith,
      varying_small c.args.bound c.args.count (λ i. occurs_in i c.args.formula.now) (c.loop-i.i - 1)
          (omega (arith, c.loop-i-test.true, c.loop-i.auto.i, c.requires.used.within)) c.index.result.now
          (part_below
          (tried c.args.bound c.args.formula.now c.args.count)
          c.args.count c.loop-i.i (take c.args.count c.args.slots.now.items) c.loop-i.slots.items
          c.loop-i-test.true (omega (arith, c.loop-i.auto.i, c.requires.used.within))
          (length-bounds_where c.args.bound c.args.count (λ i. occurs_in i c.args.formula.now))
          (omega (arith, c.loop-i.invariant.long, c.requires.room)) c.loop-i.invariant.so_far
          c.index.result.now c.index.ensures) (omega arith),
    )

pub returns-then-varies-clause-next : goal.returns-then-varies-clause-next
returns-then-varies-clause-next c held =
    let same : c.index.result.now ≡ c.index_mut.result.now =
    same_read c.loop-i.slots.items (c.loop-i.i - 1) c.index.result.now c.index_mut.result.now
    (omega (
      arith,
      c.loop-i.invariant.long,
      c.requires.room,
      c.loop-i.auto.i,
      c.loop-i-test.true,
      c.requires.used.within,
    ))
    c.index.ensures c.index_mut.ensures.value in
    stepping_ends
    (tried c.args.bound c.args.formula.now c.args.count)
    c.args.count c.loop-i.i (take c.args.count c.args.slots.now.items) c.loop-i.slots.items
    c.loop-i-test.true (omega (arith, c.loop-i.auto.i, c.requires.used.within))
    (length-bounds_where c.args.bound c.args.count (λ i. occurs_in i c.args.formula.now))
    (omega (arith, c.loop-i.invariant.long, c.requires.room)) c.loop-i.invariant.so_far
    c.index_mut.result.now c.index_mut.ensures.value
    (varying_higher c.args.bound c.args.count (λ i. occurs_in i c.args.formula.now) (c.loop-i.i - 1)
    (omega (arith, c.loop-i-test.true, c.loop-i.auto.i, c.requires.used.within)) c.index_mut.result.now
    (sym c.varies.ensures.exact ∙ c.if-varies.true) (omega (arith, c.if-index-bound.true, same)))

pub loop-i-preserved : goal.loop-i-preserved
loop-i-preserved c =
    let full : get_or (tried c.args.bound c.args.formula.now c.args.count) (c.loop-i.i - 1) 0
    ≤ c.index.result.now + 1 =
    elim c.else-index-bound.branch [
      | else-index-bound-via-then-index-bound+else-varies w ↦
          fixed_full c.args.bound c.args.count (λ i. occurs_in i c.args.formula.now) (c.loop-i.i - 1)
          (omega (arith, c.loop-i-test.true, c.loop-i.auto.i, c.requires.used.within)) c.index.result.now
          (sym w.varies.ensures.exact ∙ w.if-varies.false)
      | else-index-bound-via-else-index-bound w ↦
          varying_full c.args.bound c.args.count (λ i. occurs_in i c.args.formula.now) (c.loop-i.i - 1)
          (omega (arith, c.loop-i-test.true, c.loop-i.auto.i, c.requires.used.within)) c.index.result.now
          (omega (arith, w.if-index-bound.false))
    ] in
    record {
      long = omega (arith, c.loop-i.invariant.long, length-set {A = ℕ});
      so_far = stepping_more
          (tried c.args.bound c.args.formula.now c.args.count)
          c.args.count c.loop-i.i (take c.args.count c.args.slots.now.items) c.loop-i.slots.items
          c.loop-i-test.true (omega (arith, c.loop-i.auto.i, c.requires.used.within))
          (length-bounds_where c.args.bound c.args.count (λ i. occurs_in i c.args.formula.now))
          (omega (arith, c.loop-i.invariant.long, c.requires.room)) c.loop-i.invariant.so_far
          c.index.result.now c.index.ensures full;
    }

pub returns-clause-last : goal.returns-clause-last
returns-clause-last c held =
    let none : c.loop-i.i ≡ 0 = omega (arith, c.loop-i-test.false) in
    stepping_last (tried c.args.bound c.args.formula.now c.args.count)
    (take c.args.count c.args.slots.now.items) (take c.args.count c.loop-i.slots.items)
    c.requires.below
    (subst
    (λ n. IsStepping (tried c.args.bound c.args.formula.now c.args.count)
    (take c.args.count c.args.slots.now.items) (take c.args.count c.loop-i.slots.items) n)
    none c.loop-i.invariant.so_far)
