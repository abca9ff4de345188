use Rattle.tf_types.proofs.MatchLaws.{matches_bind_what_occurs}
use Rattle.tf_types.proofs.laws.matches_bind_what_occurs.Goals as goal

pub returns : goal.returns
returns c = matches_bind_what_occurs
