use Rattle.enc_light.proofs.Models.{tags_keep}
use Rattle.enc_light.proofs.laws.tags_light_keeps_models.Goals as goal

pub returns : goal.returns
returns c = tags_keep
