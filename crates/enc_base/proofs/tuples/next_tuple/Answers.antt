use Rattle.std.proofs.Common.{refl, subst, arith, ◌≡◌, ◌-◌}
use Rattle.enc_base.proofs.Placing.{EachBelow-same_length}
use Rattle.enc_base.proofs.TupleOrder.{IsStepping, part_below, stepping_ends, stepping_more, stepping_last}
use Rattle.enc_base.proofs.tuples.next_tuple.Goals as goal

pub bounds-values-i : goal.bounds-values-i
bounds-values-i c =
    omega (
      arith,
      EachBelow-same_length c.args.bounds.now c.loop-i.values c.loop-i.invariant.below,
      c.loop-i-test.true,
      c.loop-i.auto.i,
    )

pub overflow_add-values : goal.overflow_add-values
overflow_add-values c =
    omega (
      arith,
      part_below c.args.bounds.now c.args.values.now c.loop-i.values c.loop-i.i c.loop-i-test.true
          c.loop-i.auto.i c.loop-i.invariant _ _ refl refl,
      c.type_inv.bounds (c.loop-i.i - 1),
    )

pub bounds-values-i-then-values-i : goal.bounds-values-i-then-values-i
bounds-values-i-then-values-i c =
    omega (
      arith,
      EachBelow-same_length c.args.bounds.now c.loop-i.values c.loop-i.invariant.below,
      c.loop-i-test.true,
      c.loop-i.auto.i,
    )

pub bounds-values-i-then-values-i-2 : goal.bounds-values-i-then-values-i-2
bounds-values-i-then-values-i-2 c =
    omega (
      arith,
      EachBelow-same_length c.args.bounds.now c.loop-i.values c.loop-i.invariant.below,
      c.loop-i-test.true,
      c.loop-i.auto.i,
    )

pub bounds-values-i-in-loop-i : goal.bounds-values-i-in-loop-i
bounds-values-i-in-loop-i c =
    omega (
      arith,
      EachBelow-same_length c.args.bounds.now c.loop-i.values c.loop-i.invariant.below,
      c.loop-i-test.true,
      c.loop-i.auto.i,
    )

pub returns-then-values-i-clause-next : goal.returns-then-values-i-clause-next
returns-then-values-i-clause-next c held =
    stepping_ends c.args.bounds.now c.args.values.now c.loop-i.values c.loop-i.i
    c.loop-i-test.true c.loop-i.auto.i c.loop-i.invariant _ _ refl refl c.if-values-i.true

pub loop-i-preserved : goal.loop-i-preserved
loop-i-preserved c =
    stepping_more c.args.bounds.now c.args.values.now c.loop-i.values c.loop-i.i
    c.loop-i-test.true c.loop-i.auto.i c.loop-i.invariant _ _ refl refl c.if-values-i.false

pub returns-clause-last : goal.returns-clause-last
returns-clause-last c held =
    let none : c.loop-i.i ≡ 0 = omega (arith, c.loop-i-test.false) in
    stepping_last c.args.bounds.now c.args.values.now c.loop-i.values c.requires.below
    (subst (IsStepping c.args.bounds.now c.args.values.now c.loop-i.values) none c.loop-i.invariant)
