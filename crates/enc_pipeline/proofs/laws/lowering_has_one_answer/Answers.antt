use Rattle.enc_pipeline.proofs.OneAnswer.{lowering_has_one_answer}
use Rattle.enc_pipeline.proofs.laws.lowering_has_one_answer.Goals as goal

pub returns : goal.returns
returns c = lowering_has_one_answer
