use Rattle.model_tables.proofs.TypedTables.{typed_tables_are_said}
use Rattle.model_tables.proofs.typed_laws.a_typed_table_is_said.Goals as goal

pub returns : goal.returns
returns c = typed_tables_are_said
