use Rattle.enc_models.proofs.KeepsModels.{guards_keep}
use Rattle.enc_guards.proofs.laws.guards_keep_models.Goals as goal

pub returns : goal.returns
returns c = guards_keep
