use Rattle.tf_naked.proofs.NakedTypes.{naked_sorts}
use Rattle.tf_naked.proofs.naked_laws.naked_types_are_sorts.Goals as goal

pub returns : goal.returns
returns c = naked_sorts
