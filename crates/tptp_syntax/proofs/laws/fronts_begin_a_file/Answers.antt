use Rattle.tptp_syntax.proofs.Verdicts.{fronts_begin}
use Rattle.tptp_syntax.proofs.laws.fronts_begin_a_file.Goals as goal

pub returns : goal.returns
returns c = record { exact = fronts_begin }
