use Rattle.tptp_syntax.specs.FileSizes.{type_nodes}
use Rattle.tf_check.proofs.types.+profile_of.Given as goal

abbrev pub decreases-profile_of : goal.decreases-profile_of
decreases-profile_of l = type_nodes l.body.now
