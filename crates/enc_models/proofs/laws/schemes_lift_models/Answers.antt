use Rattle.enc_models.proofs.KeepsModels.{lifts_models}
use Rattle.enc_models.proofs.laws.schemes_lift_models.Goals as goal

pub returns : goal.returns
returns _ which = lifts_models which
