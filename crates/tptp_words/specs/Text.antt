-- A text is gaps and words, each word the longest spelling at its place.
use Rattle.std.specs.Prelude.{◌≡◌, ℕ, ◌-◌, ◌≤◌, ◌⊎◌, Bool, true, false, not, ◌||◌, ◌&&◌, ◌==◌}
use Rattle.std.specs.Prelude.{if◌then◌else◌, List, [], ◌∷◌, ◌++◌, map, length, slice_index, leb}
use Rattle.std.specs.Prelude.{codes, Option, Some, None}
use Rattle.std.specs.Char.{is_ascii_alphanumeric, is_ascii_lowercase, is_ascii_uppercase}
use Rattle.std.specs.Char.{is_ascii_digit}
pub use Rattle.tptp_words.specs.Bytes.{line_feed, single_quote, double_quote, backslash, percent}
pub use Rattle.tptp_words.specs.Bytes.{slash, star, dollar_sign, point}
use Rattle.tptp_words.specs.Bytes.{space, tab, carriage_return, underscore, tilde}
use Rattle.tptp_words.specs.Bytes.{capital_e, small_e}
use Rattle.tptp_words.specs.declared.word.WordKind.{WordKind}
use Rattle.tptp_words.specs.declared.word.WordKind.TheVariants.{Lower, Upper, Quoted, Distinct}
use Rattle.tptp_words.specs.declared.word.WordKind.TheVariants.{Dollar, System, Number, Mark}
use Rattle.tptp_words.specs.declared.word.WordError.{WordError}
use Rattle.tptp_words.specs.declared.word.WordError.TheVariants.{BadByte, Unclosed}

-- a word without its place: what grammars speak of
pub record Token : Type 0 where
  pub kind : WordKind
  pub spelling : List ℕ

-- a word of a text, with the place of its first byte, counted from 0
pub record Placed : Type 0 where
  pub token : Token
  pub from : ℕ

-- the words of a text without their places
abbrev pub tokens : List Placed → List Token
tokens placed = map (λ (p : Placed). p.token) placed

-- ---- bytes

-- a letter, a digit or `_`
abbrev pub is_name : ℕ → Bool
is_name b = is_ascii_alphanumeric b || b == underscore

-- a space, a tab, a carriage return or a line feed
abbrev pub is_blank : ℕ → Bool
is_blank b = b == space || b == tab || b == carriage_return || b == line_feed

-- a byte from the space to the tilde: it may stand between quotes, with a backslash before it where
-- it is the quote or a backslash
abbrev pub is_printable : ℕ → Bool
is_printable b = leb space b && leb b tilde

-- each byte passes the test
abbrev pub AllPass : (ℕ → Bool) → List ℕ → Type 0
AllPass p [] = Unit {0}
AllPass p (b ∷ bs) = (p b ≡ true) × AllPass p bs

-- there is at least one byte
abbrev pub some_bytes : List ℕ → Bool
some_bytes [] = false
some_bytes (b ∷ bs) = true

-- ---- spellings

-- a byte that p passes, and then letters, digits and `_`
abbrev pub IsNameFrom : (ℕ → Bool) → List ℕ → Type 0
IsNameFrom p [] = ⊥
IsNameFrom p (b ∷ bs) = (p b ≡ true) × AllPass is_name bs

-- the bytes are one of the texts
abbrev pub OneOf : List ℕ → List (List ℕ) → Type 0
OneOf s [] = ⊥
OneOf s (m ∷ ms) = (s ≡ m) ⊎ OneOf s ms

-- brackets, separators and connectives
abbrev pub marks : List (List ℕ)
marks =
    codes "(" ∷ codes ")" ∷ codes "[" ∷ codes "]" ∷ codes "," ∷ codes "." ∷ codes ":"
    ∷ codes "=" ∷ codes "!=" ∷ codes "~" ∷ codes "&" ∷ codes "|" ∷ codes "=>" ∷ codes "<="
    ∷ codes "<=>" ∷ codes "<~>" ∷ codes "~&" ∷ codes "~|" ∷ codes "!" ∷ codes "?" ∷ codes "!>"
    ∷ codes ">" ∷ codes "*" ∷ []

-- the bytes with a backslash before each of these quotes and before each backslash
abbrev pub escaped : ℕ → List ℕ → List ℕ
escaped quote [] = []
escaped quote (b ∷ bs) =
    if b == quote || b == backslash then backslash ∷ b ∷ escaped quote bs
    else b ∷ escaped quote bs

-- the spelling of quoted text with this content
abbrev pub in_quotes : ℕ → List ℕ → List ℕ
in_quotes quote content = quote ∷ (escaped quote content ++ quote ∷ [])

-- one or more digits
abbrev pub IsDigits : List ℕ → Type 0
IsDigits ds = AllPass is_ascii_digit ds × (some_bytes ds ≡ true)

-- nothing, `+` or `-`
abbrev pub IsSign : List ℕ → Type 0
IsSign s = (s ≡ []) ⊎ (s ≡ codes "+") ⊎ (s ≡ codes "-")

-- nothing, or `.` and digits
abbrev pub IsFraction : List ℕ → Type 0
IsFraction s = (s ≡ []) ⊎ ((ds : List ℕ) × IsDigits ds × (s ≡ point ∷ ds))

abbrev pub IsE : ℕ → Type 0
IsE b = (b ≡ capital_e) ⊎ (b ≡ small_e)

-- `E` or `e`, a sign or none, and digits
abbrev pub IsPower : List ℕ → Type 0
IsPower s =
    (e : ℕ) × (sign ds : List ℕ) × IsE e × IsSign sign × IsDigits ds × (s ≡ e ∷ (sign ++ ds))

-- nothing, or a power
abbrev pub IsExponent : List ℕ → Type 0
IsExponent s = (s ≡ []) ⊎ IsPower s

-- `/` and digits
abbrev pub IsRatio : List ℕ → Type 0
IsRatio s = (ds : List ℕ) × IsDigits ds × (s ≡ slash ∷ ds)

-- an optional fraction, and then an optional exponent
abbrev pub IsDecimal : List ℕ → Type 0
IsDecimal s =
    (fraction exponent : List ℕ) × IsFraction fraction × IsExponent exponent
    × (s ≡ fraction ++ exponent)

-- what may follow a number's first digits
abbrev pub IsTail : List ℕ → Type 0
IsTail s = IsRatio s ⊎ IsDecimal s

-- the bytes spell a word of this kind
abbrev pub Spells : WordKind → List ℕ → Type 0
Spells Lower s = IsNameFrom is_ascii_lowercase s
Spells Upper s = IsNameFrom is_ascii_uppercase s
Spells Quoted s =
    (content : List ℕ) × AllPass is_printable content × (some_bytes content ≡ true)
    × (s ≡ in_quotes single_quote content)
Spells Distinct s =
    (content : List ℕ) × AllPass is_printable content × (s ≡ in_quotes double_quote content)
Spells Dollar s = (name : List ℕ) × IsNameFrom is_ascii_lowercase name × (s ≡ dollar_sign ∷ name)
Spells System s =
    (name : List ℕ) × IsNameFrom is_ascii_lowercase name
    × (s ≡ dollar_sign ∷ dollar_sign ∷ name)
Spells Number s =
    (sign ds tail : List ℕ) × IsSign sign × IsDigits ds × IsTail tail × (s ≡ sign ++ ds ++ tail)
Spells Mark s = OneOf s marks

-- The bytes from `start` up to `rest` are the word, and no longer word begins at `start`.
pub record IsLongest (start : List ℕ) (word : Token) (rest : List ℕ) : Type 0 where
  pub is : start ≡ word.spelling ++ rest
  pub spells : Spells word.kind word.spelling
  pub longest : (other : WordKind) (s after : List ℕ) → start ≡ s ++ after → Spells other s
      → length s ≤ length word.spelling

-- no word begins here
abbrev pub NoWord : List ℕ → Type 0
NoWord start = (kind : WordKind) (s after : List ℕ) → start ≡ s ++ after → Spells kind s → ⊥

-- ---- gaps

-- any byte but a line feed
abbrev pub not_feed : ℕ → Bool
not_feed b = not (b == line_feed)

-- a star and then a slash stand somewhere in the bytes
abbrev pub has_close : List ℕ → Bool
has_close [] = false
has_close (b ∷ bs) = (b == star && slice_index bs 0 == slash) || has_close bs

-- The bytes from the first list up to the second are blanks and comments. A comment from `%` runs
-- to the next line feed or to the end of the text, one from `/*` to the next `*/`.
pub data Gap : List ℕ → List ℕ → Type 0 where
  none : {rest : List ℕ} → Gap rest rest
  blank : {b : ℕ} {text rest : List ℕ} → is_blank b ≡ true → Gap text rest → Gap (b ∷ text) rest
  comment : (body : List ℕ) {text rest : List ℕ} → AllPass not_feed body → Gap text rest
      → Gap (percent ∷ (body ++ line_feed ∷ text)) rest
  last_comment : (body : List ℕ) → AllPass not_feed body → Gap (percent ∷ body) []
  block : (body : List ℕ) {text rest : List ℕ} → has_close body ≡ false → Gap text rest
      → Gap (slash ∷ star ∷ (body ++ star ∷ slash ∷ text)) rest

-- ---- errors

-- one of the two quotes
abbrev pub is_quote : ℕ → Bool
is_quote b = b == single_quote || b == double_quote

-- a blank or a comment begins with this byte and what is after it
abbrev pub begins_gap : ℕ → List ℕ → Bool
begins_gap b after = is_blank b || b == percent || (b == slash && slice_index after 0 == star)

-- the byte begins no word, no quoted text and no gap
abbrev pub IsStray : List ℕ → Type 0
IsStray [] = ⊥
IsStray (b ∷ after) =
    (is_quote b ≡ false) × (begins_gap b after ≡ false) × NoWord (b ∷ after)

-- a quote and content that may stand behind it lead from the first list to the second
pub record IsOpened (quote : ℕ) (content start rest : List ℕ) : Type 0 where
  pub quotes : is_quote quote ≡ true
  pub is : start ≡ quote ∷ (escaped quote content ++ rest)
  pub printable : AllPass is_printable content

-- what is behind a backslash makes no escape with it
abbrev pub NoEscape : ℕ → List ℕ → Type 0
NoEscape quote [] = Unit {0}
NoEscape quote (b ∷ after) = (b == quote || b == backslash) ≡ false

-- Behind a quote and this content the byte may not stand: it is no printable one, or a backslash
-- that begins no escape, or the second quote of `''`.
abbrev pub IsForbidden : ℕ → List ℕ → List ℕ → Type 0
IsForbidden quote content [] = ⊥
IsForbidden quote content (b ∷ after) =
    (is_printable b ≡ false)
    ⊎ ((b ≡ backslash) × NoEscape quote after)
    ⊎ ((b ≡ single_quote) × (quote ≡ single_quote) × (content ≡ []))

-- from the quote that `start` begins with, the first byte that may not stand there is that of `rest`
abbrev pub IsBadInQuotes : List ℕ → List ℕ → Type 0
IsBadInQuotes start rest =
    (quote : ℕ) × (content : List ℕ) × IsOpened quote content start rest
    × IsForbidden quote content rest

-- from `start`, where a word should begin, the first byte that can neither begin nor continue one
-- is that of `rest`
abbrev pub IsBadByte : List ℕ → List ℕ → Type 0
IsBadByte start rest = ((start ≡ rest) × IsStray start) ⊎ IsBadInQuotes start rest

-- a block comment begins here, and the text ends before it does
abbrev pub IsOpenComment : List ℕ → Type 0
IsOpenComment start =
    (body : List ℕ) × (start ≡ slash ∷ star ∷ body) × (has_close body ≡ false)

-- quoted text begins here, and the text ends before it does
abbrev pub IsOpenQuote : List ℕ → Type 0
IsOpenQuote start = (quote : ℕ) × (content : List ℕ) × IsOpened quote content start []

-- what begins here has no end
abbrev pub IsUnclosed : List ℕ → Type 0
IsUnclosed start = IsOpenComment start ⊎ IsOpenQuote start

-- ---- texts

-- where in a text of `total` bytes the place is at which `rest` is left
abbrev pub place : ℕ → List ℕ → ℕ
place total rest = total - length rest

-- why there is no word after a gap: the text ends, or has this error
abbrev pub Stops : ℕ → List ℕ → Option WordError → Type 0
Stops total start None = start ≡ []
Stops total start (Some (BadByte at)) =
    (rest : List ℕ) × IsBadByte start rest × (at ≡ place total rest)
Stops total start (Some (Unclosed at)) = IsUnclosed start × (at ≡ place total start)

-- From here on, in a text of `total` bytes, these are the words, and then the text ends or has this
-- error.
abbrev pub IsText : ℕ → List ℕ → List Placed → Option WordError → Type 0
IsText total text [] fault = (start : List ℕ) × Gap text start × Stops total start fault
IsText total text (w ∷ ws) fault =
    (start rest : List ℕ) × Gap text start × IsLongest start w.token rest
    × (w.from ≡ place total start) × IsText total rest ws fault
