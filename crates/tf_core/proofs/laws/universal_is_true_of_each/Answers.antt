use Rattle.tf_core.proofs.Quantified.{truth-for_all-says, normal_truth-for_all-says}
use Rattle.tf_core.proofs.laws.universal_is_true_of_each.Goals as goal

pub returns : goal.returns
returns c = record { formula = truth-for_all-says; normal = normal_truth-for_all-says }
