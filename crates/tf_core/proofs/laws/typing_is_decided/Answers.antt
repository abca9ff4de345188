use Rattle.tf_core.proofs.Typed.{is_signature-says}
use Rattle.tf_core.proofs.TypedProblems.{is_problem-says, is_normal-says}
use Rattle.tf_core.proofs.laws.typing_is_decided.Goals as goal

pub returns : goal.returns
returns c = record { signature = is_signature-says; problem = is_problem-says; normal = is_normal-says }
