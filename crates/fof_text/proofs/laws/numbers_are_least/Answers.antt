use Rattle.fof_text.proofs.Chosen.{numbers_least}
use Rattle.fof_text.proofs.laws.numbers_are_least.Goals as goal

pub returns : goal.returns
returns c = numbers_least
