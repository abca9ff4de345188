use Rattle.tf_naked.proofs.Universals.{told_binders}
use Rattle.tf_naked.proofs.naked_laws.binders_are_told.Goals as goal

pub returns : goal.returns
returns c = told_binders
