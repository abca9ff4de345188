use Rattle.model_tables.proofs.TypedTexts.{typed_texts_are_tables}
use Rattle.model_tables.proofs.typed_laws.a_typed_text_is_a_table.Goals as goal

pub returns : goal.returns
returns c = typed_texts_are_tables
