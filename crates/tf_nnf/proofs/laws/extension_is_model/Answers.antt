use Rattle.tf_nnf.proofs.Models.{extension_is_model}
use Rattle.tf_nnf.proofs.laws.extension_is_model.Goals as goal

pub returns : goal.returns
returns c = extension_is_model
