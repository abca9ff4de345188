use Rattle.enc_pipeline.proofs.Rewritten.{lifted_tables_are_of_models}
use Rattle.enc_pipeline.proofs.laws.lifted_tables_are_of_models.Goals as goal

pub returns : goal.returns
returns c = lifted_tables_are_of_models
