use Rattle.enc_models.proofs.KeepsModels.{tags_keep}
use Rattle.enc_tags.proofs.laws.tags_keep_models.Goals as goal

pub returns : goal.returns
returns c = tags_keep
