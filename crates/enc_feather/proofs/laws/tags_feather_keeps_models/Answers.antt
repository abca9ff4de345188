use Rattle.enc_feather.proofs.Models.{tags_keep}
use Rattle.enc_feather.proofs.laws.tags_feather_keeps_models.Goals as goal

pub returns : goal.returns
returns c = tags_keep
