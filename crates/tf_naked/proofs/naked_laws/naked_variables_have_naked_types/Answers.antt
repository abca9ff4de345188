use Rattle.tf_naked.proofs.NakedTypes.{naked_types}
use Rattle.tf_naked.proofs.naked_laws.naked_variables_have_naked_types.Goals as goal

pub returns : goal.returns
returns c = naked_types
