use Rattle.tf_core.proofs.Instances.{value-shift}
use Rattle.tf_core.proofs.laws.shifted_terms_have_values.Goals as goal

pub returns : goal.returns
returns c = value-shift
