use Rattle.std.proofs.Common.{refl, slice_index}
use Rattle.enc_models.proofs.CollapsedSizes.{greatest-next}
use Rattle.enc_models.proofs.to_collapsed.greatest_or_count.Goals as goal

pub loop-own-preserved : goal.loop-own-preserved
loop-own-preserved c =
    greatest-next c.args.sizes.now c.loop-own.own-index
    (slice_index c.args.sizes.now c.loop-own.own-index) c.loop-own.size c.max-size.result
    c.loop-own-test.true c.loop-own.invariant refl c.max-size.ensures
