use Rattle.model_tables.proofs.UntypedTables.{untyped_not_refused}
use Rattle.model_tables.proofs.laws.an_untyped_table_is_not_refused.Goals as goal

pub returns : goal.returns
returns c = untyped_not_refused
