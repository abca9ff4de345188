use Rattle.tf_nnf.proofs.FormsTruth.{forms_keep}
use Rattle.tf_nnf.proofs.laws.negative_form_turns_truth.Goals as goal

pub returns : goal.returns
returns c = λ s members elements f. (forms_keep s members f).negative elements
