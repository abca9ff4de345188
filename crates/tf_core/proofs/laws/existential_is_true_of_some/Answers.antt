use Rattle.tf_core.proofs.Quantified.{truth-exists-says, normal_truth-exists-says}
use Rattle.tf_core.proofs.laws.existential_is_true_of_some.Goals as goal

pub returns : goal.returns
returns c = record { formula = truth-exists-says; normal = normal_truth-exists-says }
