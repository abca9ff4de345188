use Rattle.model_tables.proofs.WrittenTables.{typed_text_is_its_table}
use Rattle.model_tables.proofs.written_laws.typed_text_is_its_table.Goals as goal

pub returns : goal.returns
returns c = typed_text_is_its_table
