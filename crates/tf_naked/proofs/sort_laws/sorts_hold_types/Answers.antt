use Rattle.tf_naked.proofs.HeldTypes.{hold_types}
use Rattle.tf_naked.proofs.sort_laws.sorts_hold_types.Goals as goal

pub returns : goal.returns
returns c = hold_types
