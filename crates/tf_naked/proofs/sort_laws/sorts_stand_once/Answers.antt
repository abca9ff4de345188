use Rattle.tf_naked.proofs.SortTypes.{stand_once}
use Rattle.tf_naked.proofs.sort_laws.sorts_stand_once.Goals as goal

pub returns : goal.returns
returns c = stand_once
