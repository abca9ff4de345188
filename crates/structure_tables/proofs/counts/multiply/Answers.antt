use Rattle.std.proofs.Common.{refl, ◌∙◌}
use Rattle.structure_tables.proofs.Counting.{factor_more}
use Rattle.structure_tables.proofs.counts.multiply.Goals as goal

pub loop-bound-preserved : goal.loop-bound-preserved
loop-bound-preserved c =
    c.saturating_mul-tuples.ensures
    ∙ factor_more c.args.bounds.now c.loop-bound.bound-index _ c.loop-bound.tuples
    c.loop-bound-test.true refl c.loop-bound.invariant
