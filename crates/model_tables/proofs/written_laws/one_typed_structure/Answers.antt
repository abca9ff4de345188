use Rattle.model_tables.proofs.OneStructure.{one_typed}
use Rattle.model_tables.proofs.written_laws.one_typed_structure.Goals as goal

pub returns : goal.returns
returns c = one_typed
