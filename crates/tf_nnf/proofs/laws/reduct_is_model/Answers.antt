use Rattle.tf_nnf.proofs.Models.{reduct_is_model}
use Rattle.tf_nnf.proofs.laws.reduct_is_model.Goals as goal

pub returns : goal.returns
returns c = reduct_is_model
