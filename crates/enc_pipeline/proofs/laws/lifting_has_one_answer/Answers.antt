use Rattle.enc_pipeline.proofs.OneAnswer.{lifting_has_one_answer}
use Rattle.enc_pipeline.proofs.laws.lifting_has_one_answer.Goals as goal

pub returns : goal.returns
returns c = lifting_has_one_answer
