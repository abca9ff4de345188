use Rattle.tptp_words.proofs.Spaced as spaced
use Rattle.tptp_words.proofs.laws.spaced_words_are_read.Goals as goal

pub returns : goal.returns
returns c = record { exact = spaced.spaced_words_are_read }
