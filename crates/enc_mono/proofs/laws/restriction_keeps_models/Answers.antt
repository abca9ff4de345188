use Rattle.enc_mono.proofs.RestrictedModel.{restricted_model}
use Rattle.enc_mono.proofs.laws.restriction_keeps_models.Goals as goal

pub returns : goal.returns
returns c = restricted_model
