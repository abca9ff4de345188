use Rattle.std.proofs.Common.{◌∙◌}
use Rattle.tf_core.specs.Sorts.{declared_types}
use Rattle.enc_models.proofs.SortSizes.{items-more}
use Rattle.enc_models.proofs.sort_sizes.greatest_declared.Goals as goal

pub loop-symbol-preserved : goal.loop-symbol-preserved
loop-symbol-preserved c =
    items-more c.args.model.now declared_types c.args.symbols.now c.loop-symbol.symbol-index
    c.symbol-item.result c.loop-symbol-test.true c.symbol-item.is c.loop-symbol.found
    c.greatest_of_symbol.result c.max-found.result c.loop-symbol.invariant
    c.greatest_of_symbol.ensures c.max-found.ensures
