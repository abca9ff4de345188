use Rattle.enc_models.proofs.KeepsModels.{guards_cover_keep, tags_cover_keep}
use Rattle.enc_cover.proofs.laws.covers_keep_models.Goals as goal

pub returns-clause-guards : goal.returns-clause-guards
returns-clause-guards c = guards_cover_keep

pub returns-clause-tags : goal.returns-clause-tags
returns-clause-tags c = tags_cover_keep
