use Rattle.enc_pipeline.proofs.Rewritten.{lowered_tables_are_of_models}
use Rattle.enc_pipeline.proofs.laws.lowered_tables_are_of_models.Goals as goal

pub returns : goal.returns
returns c = lowered_tables_are_of_models
