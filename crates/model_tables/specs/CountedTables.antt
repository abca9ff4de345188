-- The structure by which the entries of a typed table are counted once its constructors are read.
use Rattle.std.specs.Prelude.{ℕ, List}
use Rattle.tf_core.specs.Structures.{Typed}
use Rattle.tf_core.specs.TypedTables.{TypedTables, constructor_entry}
use Rattle.tf_models.specs.Reading.{tables}
use Rattle.tf_models.specs.Fit.{ConstructorsFit}
use Rattle.model_tables.specs.declared.counted.CountedTables.{CountedTables}

-- the members and constructors of tables, with 0 for each symbol
abbrev pub without_symbols : TypedTables → Typed
without_symbols t = record {
  sizes = t.sizes;
  constructor_at = constructor_entry t;
  symbol_at = λ f members elements. 0;
}

-- the tables of the constructors are read
abbrev pub AreCounted : CountedTables → Type 0
AreCounted it = ConstructorsFit it.signature.now (tables it.structure.now)
