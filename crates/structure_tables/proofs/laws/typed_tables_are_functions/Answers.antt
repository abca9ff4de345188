use Rattle.structure_tables.proofs.TypedTabled.{constructor_at-tabled, symbol_at-tabled, IsWellFormed-tabled}
use Rattle.structure_tables.proofs.laws.typed_tables_are_functions.Goals as goal

pub returns : goal.returns
returns c = record {
  tables = IsWellFormed-tabled;
  constructors = constructor_at-tabled;
  symbols = λ g s f symbol members elements typed structure.
      symbol_at-tabled g s typed structure f symbol members elements;
}
