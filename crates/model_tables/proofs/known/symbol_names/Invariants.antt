use Rattle.std.proofs.Common.{◌≡◌, map, take}
use Rattle.tf_core.specs.declared.signature.Symbol.{Symbol}
use Rattle.model_tables.specs.Held.{texts_of}
use Rattle.model_tables.proofs.known.symbol_names.Given as goal

abbrev pub invariant-loop-symbol : goal.invariant-loop-symbol
invariant-loop-symbol l =
    texts_of l.names.items ≡ map (λ (f : Symbol). f.name) (take l.symbol-index l.symbols)
