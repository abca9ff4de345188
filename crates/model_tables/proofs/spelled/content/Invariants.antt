use Rattle.std.proofs.Common.{◌≡◌, ◌++◌, length}
use Rattle.tptp_words.specs.Words.{content, unescaped}
use Rattle.model_tables.proofs.spelled.content.Given as goal

-- what is found so far, and then the content of what is left
abbrev pub invariant-bytes : goal.invariant-bytes
invariant-bytes l =
    content l.spelling ≡ l.found.items ++ unescaped l.quote l.after_backslash l.left

abbrev pub decreases-bytes : goal.decreases-bytes
decreases-bytes l = length l.left
