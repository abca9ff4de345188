use Rattle.tf_types.proofs.Numbers.{numbers_keep_their_types}
use Rattle.tf_types.proofs.laws.numbers_keep_their_types.Goals as goal

pub returns : goal.returns
returns c = numbers_keep_their_types
