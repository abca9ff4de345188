use Rattle.tf_naked.proofs.SortTypes.{sorts_formed}
use Rattle.tf_naked.proofs.sort_laws.sorts_are_types.Goals as goal

pub returns : goal.returns
returns c = sorts_formed
