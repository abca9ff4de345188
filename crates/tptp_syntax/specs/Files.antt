-- What it means that a text spells a file, and where and why a text that spells none is refused.
use Rattle.std.specs.Prelude.{◌≡◌, ℕ, ◌≤◌, ◌<◌, List, [], ◌∷◌, ◌++◌, length, Option, Some, None}
use Rattle.std.specs.Prelude.{Result, Ok, Err}
use Rattle.tptp_words.specs.declared.word.WordError.{WordError}
use Rattle.tptp_words.specs.declared.word.WordError.TheVariants as w
use Rattle.tptp_words.specs.Text.{Token, Placed, tokens, IsText}
use Rattle.tptp_syntax.specs.declared.entry.File.{File}
use Rattle.tptp_syntax.specs.declared.error.ReadError.{ReadError}
use Rattle.tptp_syntax.specs.declared.error.ReadError.TheVariants as r
use Rattle.tptp_syntax.specs.Strays.{Stray, OfLanguage, OfRole, OfNumber, OfDistinctObject, OfInclude}
use Rattle.tptp_syntax.specs.Grammar.{Kind, file}

-- ---- the limits

-- how many bytes a text may have
abbrev pub most_bytes : ℕ
most_bytes = 16777216

-- how deep a word may nest
abbrev pub most_nesting : ℕ
most_nesting = 400

-- ---- files

-- the grammar itself, of files that nest no deeper than n
abbrev pub strict : ℕ → Kind
strict n = record { depth = n; stray = None }

-- the grammar that takes stray words of the kind
abbrev pub taking : Stray → ℕ → Kind
taking kind n = record { depth = n; stray = Some kind }

-- the words derive the file, and nest no deeper than n
abbrev pub DeriveWithin : ℕ → List Token → File → Type 0
DeriveWithin n ws f = (file (strict n)).derives ws [] f

-- the words derive the file
abbrev pub Derive : List Token → File → Type 0
Derive ws f = (n : ℕ) × DeriveWithin n ws f

-- the text spells the file, and its words nest no deeper than n
abbrev pub SpellsWithin : ℕ → List ℕ → File → Type 0
SpellsWithin n text f =
    (ws : List Placed) × IsText (length text) text ws None × DeriveWithin n (tokens ws) f

-- the text spells the file; this knows no limits
abbrev pub Spells : List ℕ → File → Type 0
Spells text f = (ws : List Placed) × IsText (length text) text ws None × Derive (tokens ws) f

-- ---- beginnings

-- the words before `rest` begin a file, and nest no deeper than n
abbrev pub BeginWithin : ℕ → List Token → List Token → Type 0
BeginWithin n ws rest = (file (strict n)).begins ws rest

-- the words before `rest` begin a file
abbrev pub Begin : List Token → List Token → Type 0
Begin ws rest = (n : ℕ) × BeginWithin n ws rest

-- the words before `rest` begin a file in which stray words of the kind are taken
abbrev pub BeginTaking : Stray → List Token → List Token → Type 0
BeginTaking kind ws rest = (n : ℕ) × (file (taking kind n)).begins ws rest

-- the words before `rest` begin no file, but they begin one in which strays of the kind are taken
abbrev pub IsStrayOf : Stray → List Token → List Token → Type 0
IsStrayOf kind ws rest = (Begin ws rest → ⊥) × BeginTaking kind ws rest

-- ---- refusals

-- The refusal of a word at the place `at`, behind which `after` is left: the words up to and with it
-- begin no file within the limit.
abbrev pub WordRefused : List Token → List Token → ℕ → ReadError → Type 0
WordRefused ws after at (r.TooDeep place) = (place ≡ at) × Begin ws after
WordRefused ws after at (r.Language place) = (place ≡ at) × IsStrayOf OfLanguage ws after
WordRefused ws after at (r.Include place) = (place ≡ at) × IsStrayOf OfInclude ws after
WordRefused ws after at (r.Role place) = (place ≡ at) × IsStrayOf OfRole ws after
WordRefused ws after at (r.Number place) = (place ≡ at) × IsStrayOf OfNumber ws after
WordRefused ws after at (r.DistinctObject place) =
    (place ≡ at) × IsStrayOf OfDistinctObject ws after
WordRefused ws after at (r.Syntax place) =
    (place ≡ at) × (Begin ws after → ⊥) × ((kind : Stray) → BeginTaking kind ws after → ⊥)
WordRefused ws after at _ = ⊥

-- The refusal of a text of `total` bytes where `rest` is left of its words: of the next word, or of
-- the byte because of which there is none, or of the end of a text whose words derive no file.
abbrev pub RefusedAt : ℕ → List Token → List Placed → Option WordError → ReadError → Type 0
RefusedAt total ws [] (Some (w.BadByte at)) e = e ≡ r.BadByte at
RefusedAt total ws [] (Some (w.Unclosed at)) e = e ≡ r.Unclosed at
RefusedAt total ws [] None e =
    (e ≡ r.Syntax total) × ((f : File) → DeriveWithin most_nesting ws f → ⊥)
RefusedAt total ws (next ∷ after) fault e =
    (BeginWithin most_nesting ws (tokens after) → ⊥)
    × WordRefused ws (tokens after) next.from e

-- The text is refused behind the words `front`, which begin a file within the limit.
pub record IsRefused (text : List ℕ) (e : ReadError) : Type 0 where
  pub front : List Placed
  pub rest : List Placed
  pub fault : Option WordError
  pub is_text : IsText (length text) text (front ++ rest) fault
  pub begun : BeginWithin most_nesting (tokens (front ++ rest)) (tokens rest)
  pub refused : RefusedAt (length text) (tokens (front ++ rest)) rest fault e

-- What is said of a text: it spells the file within the limits, or it is too long, or refused.
abbrev pub Verdict : List ℕ → Result File ReadError → Type 0
Verdict text (Ok f) = (length text ≤ most_bytes) × SpellsWithin most_nesting text f
Verdict text (Err r.Memory) = ⊥
Verdict text (Err (r.TooLong bytes)) = (most_bytes < length text) × (bytes ≡ length text)
Verdict text (Err e) = (length text ≤ most_bytes) × IsRefused text e

-- ---- laws

-- a text has at most one verdict: one file, or one refusal at one place
abbrev pub OneVerdict : Type 0
OneVerdict = (text : List ℕ) (a b : Result File ReadError) → Verdict text a → Verdict text b → a ≡ b

-- a text spells at most one file, however deep it nests
abbrev pub OneFile : Type 0
OneFile = (text : List ℕ) (f g : File) → Spells text f → Spells text g → f ≡ g

-- words derive at most one file, however deep it nests
abbrev pub OneDerivation : Type 0
OneDerivation = (ws : List Token) (f g : File) → Derive ws f → Derive ws g → f ≡ g

-- where words begin a file, the words before each of them do
abbrev pub FrontsBegin : Type 0
FrontsBegin = (n : ℕ) (front ws rest : List Token) → BeginWithin n (front ++ (ws ++ rest)) rest
    → BeginWithin n (front ++ (ws ++ rest)) (ws ++ rest)
