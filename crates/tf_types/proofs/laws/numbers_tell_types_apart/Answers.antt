use Rattle.tf_types.proofs.Numbers.{numbers_tell_types_apart}
use Rattle.tf_types.proofs.laws.numbers_tell_types_apart.Goals as goal

pub returns : goal.returns
returns c = numbers_tell_types_apart
