use Rattle.std.proofs.Common.{sym, subst}
use Rattle.tf_models.specs.Reading.{tables}
use Rattle.structure_tables.specs.Sources.{IsSized}
use Rattle.model_tables.specs.CountedTables.{without_symbols}
use Rattle.model_tables.proofs.CountedFacts.{counted_sized}
use Rattle.model_tables.proofs.counted.CountedTables.symbol_entries.Goals as goal

pub entries_of_symbol-requires-clause-sized : goal.entries_of_symbol-requires-clause-sized
entries_of_symbol-requires-clause-sized c =
    let it = c.args.self.now in
    subst (IsSized it.signature.now (without_symbols (tables it.structure.now)))
    (sym c.as_slice-sizes.ensures)
    (counted_sized it.signature.now it.structure.now c.requires.constructors c.requires.typed
    c.requires.few)
