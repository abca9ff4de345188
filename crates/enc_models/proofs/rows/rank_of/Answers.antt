use Rattle.std.proofs.Common.{ℕ, arith, ◌+◌, ◌-◌, ◌/◌}
use Rattle.enc_models.proofs.PickedNumbers.{rank_above, rank_not_above, rank_within}
use Rattle.enc_models.proofs.rows.rank_of.Goals as goal

pub loop-low-init : goal.loop-low-init
loop-low-init c = record {
  ordered = omega arith;
  within = omega arith;
  above = λ test bound are inside. omega arith;
  below = λ test bound are inside. rank_within test bound c.args.picked.now are c.args.number inside;
}

pub loop-low-preserved-then-picked-middle : goal.loop-low-preserved-then-picked-middle
loop-low-preserved-then-picked-middle c =
    let so_far = c.loop-low.invariant in
    let middle : ℕ = c.loop-low.low + (c.loop-low.high - c.loop-low.low) / 2 in
    record {
      ordered = omega (arith, so_far.ordered, c.loop-low-test.true);
      within = so_far.within;
      above = λ test bound are inside.
          omega (
            arith,
            rank_above test bound c.args.picked.now are c.args.number middle
                (omega (arith, so_far.within, c.loop-low-test.true)) c.if-picked-middle.true,
          );
      below = λ test bound are inside. so_far.below test bound are inside;
    }

pub loop-low-preserved : goal.loop-low-preserved
loop-low-preserved c =
    let so_far = c.loop-low.invariant in
    let middle : ℕ = c.loop-low.low + (c.loop-low.high - c.loop-low.low) / 2 in
    record {
      ordered = omega (arith, so_far.ordered, c.loop-low-test.true);
      within = omega (arith, so_far.within, c.loop-low-test.true);
      above = λ test bound are inside. so_far.above test bound are inside;
      below = λ test bound are inside.
          omega (
            arith,
            rank_not_above test bound c.args.picked.now are c.args.number middle
                (omega (arith, so_far.within, c.loop-low-test.true))
                (λ smaller. omega (arith, smaller, c.if-picked-middle.false)),
          );
    }

pub returns : goal.returns
returns c =
    λ test bound are inside.
    omega (
      arith,
      c.loop-low.invariant.ordered,
      c.loop-low.invariant.above test bound are inside,
      c.loop-low.invariant.below test bound are inside,
      c.loop-low-test.false,
    )
