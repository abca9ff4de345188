use Rattle.model_tables.proofs.UntypedTables.{untyped_said}
use Rattle.model_tables.proofs.laws.an_untyped_table_is_said.Goals as goal

pub returns : goal.returns
returns c = untyped_said
