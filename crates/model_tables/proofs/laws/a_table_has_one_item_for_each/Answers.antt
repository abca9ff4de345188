use Rattle.model_tables.proofs.CleanTexts.{items_are_one_for_each}
use Rattle.model_tables.proofs.laws.a_table_has_one_item_for_each.Goals as goal

pub returns : goal.returns
returns c = items_are_one_for_each
