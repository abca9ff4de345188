use Rattle.fof_text.proofs.Together.{models_together}
use Rattle.fof_text.proofs.laws.stated_problems_have_models_together.Goals as goal

pub returns : goal.returns
returns c = models_together
