use Rattle.tptp_syntax.proofs.OneAnswer.{one_file_of}
use Rattle.tptp_syntax.proofs.laws.words_derive_one_file.Goals as goal

pub returns : goal.returns
returns c = record { exact = one_file_of }
