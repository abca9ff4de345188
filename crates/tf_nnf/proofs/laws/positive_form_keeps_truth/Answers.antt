use Rattle.tf_nnf.proofs.FormsTruth.{forms_keep}
use Rattle.tf_nnf.proofs.laws.positive_form_keeps_truth.Goals as goal

pub returns : goal.returns
returns c = λ s members elements f. (forms_keep s members f).positive elements
