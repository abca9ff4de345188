use Rattle.tf_check.specs.Types.{individuals}
use Rattle.tf_check.proofs.AnswerLemmas.{answers-good}
use Rattle.tf_check.proofs.formulas.variable_type.Goals as goal

pub returns-in-None : goal.returns-in-None
returns-in-None c = rw (c.in-None.is, c.individuals.ensures) (answers-good individuals)
