use Rattle.fof_text.proofs.Stated.{states}
use Rattle.fof_text.proofs.laws.text_states_its_problem.Goals as goal

pub returns : goal.returns
returns c = states
