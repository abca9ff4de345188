use Rattle.model_tables.proofs.OneStructure.{one_untyped}
use Rattle.model_tables.proofs.written_laws.one_untyped_structure.Goals as goal

pub returns : goal.returns
returns c = one_untyped
