use Rattle.std.proofs.Common.{sym, subst}
use Rattle.std.specs.List.{AllByRecursion}
use Rattle.tf_core.specs.Typing.{IsSymbol}
use Rattle.tf_naked.proofs.Covers.{own_parameters_at}
use Rattle.tf_naked.proofs.cover.covers_of_symbols.Goals as goal

pub covers_of_symbol-requires : goal.covers_of_symbol-requires
covers_of_symbol-requires c =
    record {
      own = own_parameters_at c.args.signature.now c.as_slice-symbol-items.result.now
          c.loop-symbol.symbol-index c.symbol-item.result c.loop-symbol-test.true c.symbol-item.is
          (subst (AllByRecursion (IsSymbol c.args.signature.now))
          (sym c.as_slice-symbol-items.ensures) c.requires.typed);
    }
