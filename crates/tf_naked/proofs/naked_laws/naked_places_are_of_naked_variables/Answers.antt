use Rattle.tf_naked.proofs.NakedVariables.{of_naked_variables}
use Rattle.tf_naked.proofs.naked_laws.naked_places_are_of_naked_variables.Goals as goal

pub returns : goal.returns
returns c = of_naked_variables
