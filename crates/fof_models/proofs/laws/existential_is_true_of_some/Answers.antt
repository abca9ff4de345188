use Rattle.fof_models.proofs.Quantified.{truth-exists-says}
use Rattle.fof_models.proofs.laws.existential_is_true_of_some.Goals as goal

pub returns : goal.returns
returns c = truth-exists-says
