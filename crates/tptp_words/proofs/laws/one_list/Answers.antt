use Rattle.tptp_words.proofs.OneText.{one_text}
use Rattle.tptp_words.proofs.laws.one_list.Goals as goal

pub returns : goal.returns
returns c = record { exact = one_text }
