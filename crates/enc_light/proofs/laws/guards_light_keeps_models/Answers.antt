use Rattle.enc_light.proofs.Models.{guards_keep}
use Rattle.enc_light.proofs.laws.guards_light_keeps_models.Goals as goal

pub returns : goal.returns
returns c = guards_keep
