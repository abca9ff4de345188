use Rattle.model_tables.proofs.WrittenTables.{untyped_text_is_its_table}
use Rattle.model_tables.proofs.written_laws.untyped_text_is_its_table.Goals as goal

pub returns : goal.returns
returns c = untyped_text_is_its_table
