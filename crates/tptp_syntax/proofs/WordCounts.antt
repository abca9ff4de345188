-- How many words a text has.
use Rattle.std.proofs.Common.{◌≡◌, ℕ, ◌+◌, ◌≤◌, List, [], ◌∷◌, length}
use Rattle.std.proofs.Common.{Option, ap, arith, ◌∙◌, length-append}
use Rattle.tptp_words.specs.declared.word.WordError.{WordError}
use Rattle.tptp_words.specs.Text.{Placed, tokens, IsText}
use Rattle.tptp_words.proofs.Gaps.{gap_bytes}
use Rattle.tptp_words.proofs.Lists.{spelled_some}

-- each word has a byte of its own
pub words_within : (total : ℕ) (text : List ℕ) (ws : List Placed) (fault : Option WordError)
    → IsText total text ws fault → length (tokens ws) ≤ length text
words_within total text [] fault h = omega arith
words_within total text (w ∷ ws) fault (start, rest, gap, word, at, others) =
    let before = gap_bytes gap in
    let first : length text ≡ length before.0 + length start
    = ap length before.1 ∙ length-append before.0 start in
    let second : length start ≡ length w.token.spelling + length rest
    = ap length word.is ∙ length-append w.token.spelling rest in
    let some = spelled_some w.token.kind w.token.spelling word.spells in
    let more = words_within total rest ws fault others in
    omega (arith, first, second, some, more)
