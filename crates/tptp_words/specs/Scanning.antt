-- How a text is gone through from its front. This need not be believed: that it finds the words of
-- the text is proved.
use Rattle.std.specs.Prelude.{ℕ, zero, suc, ◌+◌, Bool, true, false, ◌||◌, ◌&&◌, ◌==◌}
use Rattle.std.specs.Prelude.{if◌then◌else◌, List, [], ◌∷◌, length, take, drop, slice_index, codes}
use Rattle.std.specs.Prelude.{Some, None}
use Rattle.std.specs.List.{prefix_len}
use Rattle.std.specs.Char.{is_ascii_lowercase, is_ascii_uppercase, is_ascii_digit}
use Rattle.tptp_words.specs.Bytes.{plus, minus, capital_e, small_e, less, greater, equals}
use Rattle.tptp_words.specs.Bytes.{exclamation, tilde, ampersand, bar}
use Rattle.tptp_words.specs.declared.word.WordKind.{WordKind}
use Rattle.tptp_words.specs.declared.word.WordKind.TheVariants.{Lower, Upper, Quoted, Distinct}
use Rattle.tptp_words.specs.declared.word.WordKind.TheVariants.{Dollar, System, Number, Mark}
use Rattle.tptp_words.specs.declared.word.WordError.TheVariants.{BadByte, Unclosed}
use Rattle.tptp_words.specs.declared.piece.Piece.{Piece}
use Rattle.tptp_words.specs.declared.piece.Piece.TheVariants as piece
use Rattle.tptp_words.specs.Text.{Placed, is_name, is_blank, is_printable, not_feed, is_quote}
use Rattle.tptp_words.specs.Text.{single_quote, backslash, percent, slash, star, dollar_sign, point}
use Rattle.tptp_words.specs.Text.{place}
pub use Rattle.tptp_words.specs.Steps.{Left, behind}

-- ---- one piece

-- behind `/*` and n bytes more: up to the first `*/`
abbrev pub block_from : ℕ → List ℕ → Piece
block_from n [] = piece.Open
block_from n (b ∷ text) =
    if b == star && slice_index text 0 == slash then piece.Gap (n + 2)
    else block_from (n + 1) text

-- a block comment behind its slash, or a slash that begins nothing
abbrev pub block_at : List ℕ → Piece
block_at rest =
    if slice_index rest 0 == star then block_from 2 (drop 1 rest) else piece.Bad 0

-- the kind of a word between these quotes
abbrev pub quoted_kind : ℕ → WordKind
quoted_kind quote = if quote == single_quote then Quoted else Distinct

-- quoted text of n bytes, the quotes with them
abbrev pub closed_at : ℕ → ℕ → Piece
closed_at quote n =
    if quote == single_quote && n == 2 then piece.Bad 1 else piece.Word (quoted_kind quote) n

-- n bytes from the opening quote on, and maybe behind a backslash
abbrev pub quoted_from : ℕ → ℕ → Bool → List ℕ → Piece
quoted_from quote n false [] = piece.Open
quoted_from quote n true [] = piece.Bad n
quoted_from quote n true (b ∷ text) =
    if b == quote || b == backslash then quoted_from quote (n + 2) false text else piece.Bad n
quoted_from quote n false (b ∷ text) =
    if b == quote then closed_at quote (n + 1)
    else if b == backslash then quoted_from quote n true text
    else if is_printable b then quoted_from quote (n + 1) false text
    else piece.Bad n

-- a word behind its first dollar, or a dollar that begins none
abbrev pub dollar_at : List ℕ → Piece
dollar_at rest =
    if is_ascii_lowercase (slice_index rest 0) then piece.Word Dollar (1 + prefix_len is_name rest)
    else if slice_index rest 0 == dollar_sign && is_ascii_lowercase (slice_index rest 1)
    then piece.Word System (2 + prefix_len is_name (drop 1 rest))
    else piece.Bad 0

-- `+` or `-`
abbrev pub is_sign : ℕ → Bool
is_sign b = b == plus || b == minus

-- how long the sign in front is, if there is one
abbrev pub sign_len : List ℕ → ℕ
sign_len text = if is_sign (slice_index text 0) then 1 else 0

-- how many digits stand in front
abbrev pub digits_len : List ℕ → ℕ
digits_len text = prefix_len is_ascii_digit text

-- what stands before digits and these, where there are some
abbrev pub with_digits : ℕ → ℕ → ℕ
with_digits before count = if count == 0 then 0 else before + count

-- a byte and digits behind it, where both stand in front
unfoldable pub part_len : ℕ → List ℕ → ℕ
part_len byte text =
    if slice_index text 0 == byte then with_digits 1 (digits_len (drop 1 text)) else 0

-- `E` or `e`
abbrev pub is_e : ℕ → Bool
is_e b = b == capital_e || b == small_e

-- an exponent whose sign is so long, or 0 without digits
abbrev pub exponent_of : ℕ → List ℕ → ℕ
exponent_of sign text = with_digits (1 + sign) (digits_len (drop (1 + sign) text))

-- how long the exponent in front is, if there is one
unfoldable pub exponent_len : List ℕ → ℕ
exponent_len text =
    if is_e (slice_index text 0) then exponent_of (sign_len (drop 1 text)) text else 0

-- a fraction of this length and the exponent behind it
abbrev pub decimal_len : ℕ → List ℕ → ℕ
decimal_len fraction text = fraction + exponent_len (drop fraction text)

-- what follows a number's first digits, where a slash and digits are so long
abbrev pub tail_of : ℕ → List ℕ → ℕ
tail_of ratio text =
    if ratio == 0 then decimal_len (part_len point text) text else ratio

-- how long what follows a number's first digits is
unfoldable pub tail_len : List ℕ → ℕ
tail_len text = tail_of (part_len slash text) text

-- a number whose sign and digits have these lengths
abbrev pub number_of : ℕ → ℕ → List ℕ → Piece
number_of sign count text =
    if count == 0 then piece.Bad 0
    else piece.Word Number (sign + count + tail_len (drop (sign + count) text))

-- a number whose sign is so long
abbrev pub number_with : ℕ → List ℕ → Piece
number_with sign text = number_of sign (digits_len (drop sign text)) text

-- the number in front, or a first byte that begins none
unfoldable pub number_at : List ℕ → Piece
number_at text = number_with (sign_len text) text

-- the length of the longest mark that `<` and these two bytes begin
abbrev pub less_len : ℕ → ℕ → ℕ
less_len second third =
    if second == equals then (if third == greater then 3 else 2)
    else if second == tilde && third == greater then 3
    else 0

-- the byte is one of these
abbrev pub is_in : List ℕ → ℕ → Bool
is_in [] b = false
is_in (m ∷ ms) b = b == m || is_in ms b

-- the length of the longest mark that begins with these three bytes
abbrev pub mark_len : ℕ → ℕ → ℕ → ℕ
mark_len first second third =
    if first == less then less_len second third
    else if first == exclamation then (if second == equals || second == greater then 2 else 1)
    else if first == equals then (if second == greater then 2 else 1)
    else if first == tilde then (if second == ampersand || second == bar then 2 else 1)
    else if is_in (codes "()[],.:&|?>*") first then 1
    else 0

-- a mark of n bytes, or a first byte that begins none
abbrev pub mark_of : ℕ → Piece
mark_of n = if n == 0 then piece.Bad 0 else piece.Word Mark n

-- the mark in front, or a first byte that begins none
unfoldable pub mark_at : List ℕ → Piece
mark_at text = mark_of (mark_len (slice_index text 0) (slice_index text 1) (slice_index text 2))

-- a digit or a sign
abbrev pub is_number_start : ℕ → Bool
is_number_start b = is_ascii_digit b || is_sign b

-- the piece that a byte and what is behind it begin with
unfoldable pub begun : ℕ → List ℕ → Piece
begun b rest =
    if is_blank b then piece.Gap 1
    else if is_ascii_lowercase b then piece.Word Lower (1 + prefix_len is_name rest)
    else if is_ascii_uppercase b then piece.Word Upper (1 + prefix_len is_name rest)
    else if b == percent then piece.Gap (2 + prefix_len not_feed rest)
    else if b == slash then block_at rest
    else if is_quote b then quoted_from b 1 false rest
    else if b == dollar_sign then dollar_at rest
    else if is_number_start b then number_at (b ∷ rest)
    else mark_at (b ∷ rest)

-- the piece at the front of a text
abbrev pub piece_at : List ℕ → Piece
piece_at [] = piece.End
piece_at (b ∷ rest) = begun b rest

-- ---- a whole text

-- the word of n bytes in front of what is left
abbrev pub word_at : ℕ → List ℕ → WordKind → ℕ → Placed
word_at total text kind n =
    record { token = record { kind = kind; spelling = take n text }; from = place total text }

-- what is left where this piece is in front, `more` being what is left behind it
abbrev pub turn : ℕ → (List ℕ → Left) → List ℕ → Piece → Left
turn total more text piece.End = record { words = []; fault = None }
turn total more text (piece.Gap n) = more (drop n text)
turn total more text (piece.Word kind n) =
    behind (word_at total text kind n) (more (drop n text))
turn total more text (piece.Bad n) =
    record { words = []; fault = Some (BadByte (place total (drop n text))) }
turn total more text piece.Open =
    record { words = []; fault = Some (Unclosed (place total text)) }

-- the number bounds the pieces, and the count of the bytes is always enough
unfoldable pub left_from : ℕ → ℕ → List ℕ → Left
left_from total zero text = record { words = []; fault = None }
left_from total (suc n) text = turn total (left_from total n) text (piece_at text)

-- the words of what is left of a text of `total` bytes
unfoldable pub left : ℕ → List ℕ → Left
left total text = left_from total (length text) text
