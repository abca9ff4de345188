use Rattle.tptp_syntax.proofs.NestingFiles.{deriving_nests, beginning_nests, next_word_nests, deep_words_are_refused}
use Rattle.tptp_syntax.proofs.laws.depth_is_nesting.Goals as goal

pub returns : goal.returns
returns c = record { derived = deriving_nests; begun = beginning_nests; next = next_word_nests; refused = deep_words_are_refused }
