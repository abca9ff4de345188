use Rattle.std.proofs.Common.{length, refl}
use Rattle.tf_core.proofs.Instances.{type_value-instantiate}
use Rattle.tf_core.proofs.laws.instances_have_values.Goals as goal

pub returns : goal.returns
returns c = λ g constructor_at members instances ty formed.
    type_value-instantiate constructor_at members instances g (length instances) ty formed refl
