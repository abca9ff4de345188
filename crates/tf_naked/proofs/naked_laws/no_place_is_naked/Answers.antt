use Rattle.tf_naked.proofs.NakedTypes.{no_place}
use Rattle.tf_naked.proofs.naked_laws.no_place_is_naked.Goals as goal

pub returns : goal.returns
returns c = no_place
