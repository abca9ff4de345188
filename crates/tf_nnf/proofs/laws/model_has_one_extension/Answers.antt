use Rattle.tf_nnf.proofs.Models.{model_has_one_extension}
use Rattle.tf_nnf.proofs.laws.model_has_one_extension.Goals as goal

pub returns : goal.returns
returns c = model_has_one_extension
