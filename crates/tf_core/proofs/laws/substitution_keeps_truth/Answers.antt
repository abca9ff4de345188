use Rattle.std.proofs.Common.{length, refl}
use Rattle.tf_core.proofs.Instances.{truth-substitute_types}
use Rattle.tf_core.proofs.laws.substitution_keeps_truth.Goals as goal

pub returns : goal.returns
returns c = λ g s members instances context p elements typed.
    truth-substitute_types s members instances g (length instances) context p typed refl elements
