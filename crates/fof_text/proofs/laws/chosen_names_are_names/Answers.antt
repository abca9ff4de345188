use Rattle.fof_text.proofs.Chosen.{names_are_names}
use Rattle.fof_text.proofs.laws.chosen_names_are_names.Goals as goal

pub returns : goal.returns
returns c = names_are_names
