use Rattle.fof_models.proofs.Tabled.{IsStructure-reading, IsWellFormed-tabled, symbol_at-tabled}
use Rattle.fof_models.proofs.laws.tables_are_functions.Goals as goal

pub returns : goal.returns
returns c = record { functions = IsStructure-reading; tables = IsWellFormed-tabled; same = symbol_at-tabled }
