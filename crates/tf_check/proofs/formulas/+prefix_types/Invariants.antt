use Rattle.tptp_syntax.specs.FileSizes.{formula_nodes}
use Rattle.tf_check.proofs.formulas.+prefix_types.Given as goal

abbrev pub decreases-prefix_types : goal.decreases-prefix_types
decreases-prefix_types l = formula_nodes l.raw.now
