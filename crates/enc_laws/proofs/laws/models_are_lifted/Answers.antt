use Rattle.enc_laws.proofs.SortSchemes.{models_lifted}
use Rattle.enc_laws.proofs.laws.models_are_lifted.Goals as goal

pub returns : goal.returns
returns _ = models_lifted
