use Rattle.model_tables.proofs.OneVerdict.{one_verdict}
use Rattle.model_tables.proofs.laws.a_text_has_one_verdict.Goals as goal

pub returns : goal.returns
returns c = one_verdict
