use Rattle.tf_core.specs.Sorts.{declared_types}
use Rattle.tf_naked.proofs.OnceListed.{Lists-more}
use Rattle.tf_naked.proofs.sort_list.list_symbols.Goals as goal

pub loop-symbol-preserved : goal.loop-symbol-preserved
loop-symbol-preserved c =
    Lists-more declared_types c.args.symbols.now c.loop-symbol.symbol-index c.symbol-item.result
    c.loop-symbol-test.true c.symbol-item.is c.args.listing.now c.loop-symbol.listing
    c.list_symbol.new.listing c.loop-symbol.invariant c.in_ok-list_symbol.ensures
