use Rattle.enc_models.proofs.KeepsModels.{merged_schemes_keep}
use Rattle.enc_models.proofs.laws.merged_schemes_keep_models.Goals as goal

pub returns : goal.returns
returns _ which merges = merged_schemes_keep which merges
