use Rattle.tptp_syntax.proofs.Verdicts.{one_verdict}
use Rattle.tptp_syntax.proofs.laws.one_verdict.Goals as goal

pub returns : goal.returns
returns c = record { exact = one_verdict }
