use Rattle.enc_models.proofs.KeepsModels.{collapsed_lower}
use Rattle.enc_models.proofs.laws.collapsed_schemes_lower_models.Goals as goal

pub returns : goal.returns
returns _ which collapses = collapsed_lower which collapses
