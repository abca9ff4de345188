use Rattle.tptp_syntax.proofs.OneAnswer.{one_file}
use Rattle.tptp_syntax.proofs.laws.a_text_spells_one_file.Goals as goal

pub returns : goal.returns
returns c = record { exact = one_file }
