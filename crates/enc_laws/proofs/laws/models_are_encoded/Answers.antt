use Rattle.enc_laws.proofs.Schemes.{models_encoded}
use Rattle.enc_laws.proofs.laws.models_are_encoded.Goals as goal

pub returns : goal.returns
returns _ which normal s merged sound model = models_encoded which normal s merged sound model
