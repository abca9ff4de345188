use Rattle.enc_mono.proofs.RestrictedTables.{restricted_tables_model}
use Rattle.enc_mono.proofs.laws.restricted_tables_keep_models.Goals as goal

pub returns : goal.returns
returns c = restricted_tables_model
