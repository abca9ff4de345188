use Rattle.enc_feather.proofs.Models.{guards_keep}
use Rattle.enc_feather.proofs.laws.guards_feather_keeps_models.Goals as goal

pub returns : goal.returns
returns c = guards_keep
