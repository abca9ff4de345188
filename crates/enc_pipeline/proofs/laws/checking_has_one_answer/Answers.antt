use Rattle.enc_pipeline.proofs.OneAnswer.{checking_has_one_answer}
use Rattle.enc_pipeline.proofs.laws.checking_has_one_answer.Goals as goal

pub returns : goal.returns
returns c = checking_has_one_answer
