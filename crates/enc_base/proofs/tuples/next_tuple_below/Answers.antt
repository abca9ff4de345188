use Rattle.std.proofs.Common.{ℕ, ◌≡◌, ◌≤◌, ◌<◌, ◌-◌, length, replicate, get_or, refl, sym, ap, subst, arith}
use Rattle.std.proofs.lemmas.List.{get_or-replicate, length-replicate, drop_all}
use Rattle.enc_base.specs.Tables.{tuple_count}
use Rattle.enc_base.proofs.TupleOrder.{IsStepping, stepping_none, part_below, stepping_ends, stepping_more, stepping_last}
use Rattle.enc_base.proofs.tuples.next_tuple_below.Goals as goal

inside : (count bound i : ℕ) → i ≤ count → i ≤ length (replicate count bound)
inside count bound i within = omega (arith, length-replicate count bound)

bound_at : (count bound i : ℕ) → 0 < i → i ≤ count →
    bound ≡ get_or (replicate count bound) (i - 1) 0
bound_at count bound i some within =
    sym (get_or-replicate count (i - 1) bound 0 (omega arith))

pub loop-i-init : goal.loop-i-init
loop-i-init c =
    stepping_none (replicate (length c.args.values.now) c.args.bound) c.args.values.now
    (length c.args.values.now) c.requires.below
    (ap tuple_count
    (drop_all (length c.args.values.now) (replicate (length c.args.values.now) c.args.bound)
    (omega (arith, length-replicate (length c.args.values.now) c.args.bound))))

pub overflow_add-values : goal.overflow_add-values
overflow_add-values c =
    omega (
      arith,
      part_below (replicate (length c.args.values.now) c.args.bound) c.args.values.now
          c.loop-i.values c.loop-i.i c.loop-i-test.true
          (inside (length c.args.values.now) c.args.bound c.loop-i.i c.loop-i.auto.i)
          c.loop-i.invariant _ _ refl
          (bound_at (length c.args.values.now) c.args.bound c.loop-i.i c.loop-i-test.true
          c.loop-i.auto.i),
      c.ranges.bound.fits,
    )

pub returns-then-values-i-clause-next : goal.returns-then-values-i-clause-next
returns-then-values-i-clause-next c held =
    stepping_ends (replicate (length c.args.values.now) c.args.bound) c.args.values.now
    c.loop-i.values c.loop-i.i c.loop-i-test.true
    (inside (length c.args.values.now) c.args.bound c.loop-i.i c.loop-i.auto.i)
    c.loop-i.invariant _ _ refl
    (bound_at (length c.args.values.now) c.args.bound c.loop-i.i c.loop-i-test.true c.loop-i.auto.i)
    c.if-values-i.true

pub loop-i-preserved : goal.loop-i-preserved
loop-i-preserved c =
    stepping_more (replicate (length c.args.values.now) c.args.bound) c.args.values.now
    c.loop-i.values c.loop-i.i c.loop-i-test.true
    (inside (length c.args.values.now) c.args.bound c.loop-i.i c.loop-i.auto.i)
    c.loop-i.invariant _ _ refl
    (bound_at (length c.args.values.now) c.args.bound c.loop-i.i c.loop-i-test.true c.loop-i.auto.i)
    c.if-values-i.false

pub returns-clause-last : goal.returns-clause-last
returns-clause-last c held =
    let none : c.loop-i.i ≡ 0 = omega (arith, c.loop-i-test.false) in
    stepping_last (replicate (length c.args.values.now) c.args.bound) c.args.values.now
    c.loop-i.values c.requires.below
    (subst
    (IsStepping (replicate (length c.args.values.now) c.args.bound) c.args.values.now
    c.loop-i.values)
    none c.loop-i.invariant)
