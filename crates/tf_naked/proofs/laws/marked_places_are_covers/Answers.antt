use Rattle.tf_naked.proofs.Positions.{covers-marked}
use Rattle.tf_naked.proofs.laws.marked_places_are_covers.Goals as goal

pub returns : goal.returns
returns c = covers-marked
