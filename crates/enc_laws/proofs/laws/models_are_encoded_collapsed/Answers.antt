use Rattle.enc_laws.proofs.CollapsedModel.{models_encoded_collapsed}
use Rattle.enc_laws.proofs.laws.models_are_encoded_collapsed.Goals as goal

pub returns : goal.returns
returns _ = models_encoded_collapsed
