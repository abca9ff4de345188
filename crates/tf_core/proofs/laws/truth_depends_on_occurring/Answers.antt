use Rattle.tf_core.proofs.Occurrences.{truth-agrees}
use Rattle.tf_core.proofs.laws.truth_depends_on_occurring.Goals as goal

pub returns : goal.returns
returns c = λ s members others elements body agree.
    truth-agrees s members others body elements agree
