use Rattle.model_tables.proofs.UntypedTexts.{untyped_table}
use Rattle.model_tables.proofs.laws.an_untyped_text_is_a_table.Goals as goal

pub returns : goal.returns
returns c = untyped_table
