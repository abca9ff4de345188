use Rattle.std.proofs.Common.{◌∙◌}
use Rattle.enc_models.proofs.SortSizes.{types-more}
use Rattle.enc_models.proofs.sort_sizes.greatest_of_types.Goals as goal

pub loop-ty-preserved : goal.loop-ty-preserved
loop-ty-preserved c =
    types-more c.args.model.now c.args.types.now c.loop-ty.ty-index c.ty-item.result
    c.loop-ty-test.true c.ty-item.is c.loop-ty.found c.measure.result.greatest
    c.max-found.result c.loop-ty.invariant c.measure.ensures.greatest_is
    c.max-found.ensures
