use Rattle.std.proofs.Common.{suc, ◌≡◌, ◌+◌, length, arith, ap}
use Rattle.tf_stamp.specs.Merged.{pairs_before}
use Rattle.tf_stamp.proofs.Filling.{pairs_before-zero, pairs_before-next, pairs_before-length}
use Rattle.tf_stamp.proofs.stamped.count_numbers.Goals as goal

pub loop-size-init : goal.loop-size-init
loop-size-init c =
    record { so_far = omega (arith, pairs_before-zero c.args.sizes.now); fits = omega arith }

pub loop-size-preserved : goal.loop-size-preserved
loop-size-preserved c =
    let sizes = c.args.sizes.now in
    let i = c.loop-size.size-index in
    let next : suc i ≡ i + 1 = omega arith in
    record {
      so_far = omega (
        arith,
        c.loop-size.invariant.so_far,
        ap (pairs_before sizes) next,
        pairs_before-next sizes i c.loop-size-test.true,
      );
      fits = omega (arith, c.loop-size.invariant.fits, c.type_inv.sizes i);
    }

pub returns : goal.returns
returns c =
    let sizes = c.args.sizes.now in
    let whole : c.loop-size.size-index ≡ length sizes =
    omega (arith, c.loop-size-test.false, c.loop-size.auto.size-index-end) in
    omega (
      arith,
      c.loop-size.invariant.so_far,
      ap (pairs_before sizes) whole,
      pairs_before-length sizes,
    )
