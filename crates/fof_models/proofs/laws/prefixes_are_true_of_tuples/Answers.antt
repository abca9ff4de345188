use Rattle.fof_models.proofs.PrefixTruth.{truth-under_universals, truth-under_existentials-says}
use Rattle.fof_models.proofs.laws.prefixes_are_true_of_tuples.Goals as goal

pub returns : goal.returns
returns c =
    record { universal = truth-under_universals; existential = truth-under_existentials-says }
