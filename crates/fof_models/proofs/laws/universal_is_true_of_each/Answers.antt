use Rattle.fof_models.proofs.Quantified.{truth-for_all-says}
use Rattle.fof_models.proofs.laws.universal_is_true_of_each.Goals as goal

pub returns : goal.returns
returns c = truth-for_all-says
