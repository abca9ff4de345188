-- What a text says as a table of which something is asked, and where and why it is refused.
use Rattle.std.specs.Prelude.{◌≡◌, ℕ, ◌≤◌, ◌<◌, ◌⊎◌, List, [], ◌∷◌, ◌++◌, length, Option, Some, None}
use Rattle.std.specs.Prelude.{Result, Ok, Err}
use Rattle.tptp_words.specs.declared.word.WordError.{WordError}
use Rattle.tptp_words.specs.declared.word.WordError.TheVariants as w
use Rattle.tptp_words.specs.Text.{Token, Placed, tokens, IsText}
use Rattle.model_tables.specs.declared.error.TableError.{TableError}
use Rattle.model_tables.specs.declared.error.TableError.TheVariants as e
use Rattle.model_tables.specs.Grammar.{Table, table}
use Rattle.model_tables.specs.Places.{Place, Reaches}
use Rattle.model_tables.specs.Faults.{Asked, faults, first_missing}

-- ---- faults in order of the text

-- this fault is the first that stands at the last word before `rest`
abbrev pub FaultAt : Asked → List Token → List Token → TableError → Type 0
FaultAt asked ws rest fault =
    (place : Place) × (more : List TableError) × Reaches asked.form ws rest place
    × (faults asked place ≡ fault ∷ more)

-- no fault stands at a word before the last that was taken
abbrev pub IsCleanBefore : Asked → List Token → List Token → Type 0
IsCleanBefore asked ws rest = (mid : List Token) (place : Place) →
    Reaches asked.form ws mid place → length rest < length mid → faults asked place ≡ []

-- no fault stands at a word before `rest`
abbrev pub IsClean : Asked → List Token → List Token → Type 0
IsClean asked ws rest = (mid : List Token) (place : Place) → Reaches asked.form ws mid place →
    length rest ≤ length mid → faults asked place ≡ []

-- ---- syntax

-- the words before `rest` begin a table
abbrev pub Begin : Asked → List Token → List Token → Type 0
Begin asked ws rest = (table asked.form).begins ws rest

-- the words derive the table
abbrev pub Derive : Asked → List Token → Table → Type 0
Derive asked ws t = (table asked.form).derives ws [] t

-- the place of a word's error
abbrev pub place_of : WordError → ℕ
place_of (w.BadByte at) = at
place_of (w.Unclosed at) = at

-- The refusal where `rest` is left of the words of a text of `total` bytes: of the next word, with
-- which the words begin no table; or of the byte because of which there is no word; or at the end
-- of the text, whose words derive no table, or one with an item missing.
abbrev pub StopsAt : Asked → ℕ → List Token → List Placed → Option WordError → TableError → Type 0
StopsAt asked total ws (next ∷ after) error fault =
    (fault ≡ e.TableSyntax next.from) × (Begin asked ws (tokens after) → ⊥)
StopsAt asked total ws [] (Some error) fault = fault ≡ e.TableSyntax (place_of error)
StopsAt asked total ws [] None fault =
    ((fault ≡ e.TableSyntax total) × ((t : Table) → Derive asked ws t → ⊥))
    ⊎ ((t : Table) × (name : List ℕ) × Derive asked ws t
    × (first_missing asked.wants t.items ≡ Some name) × (fault ≡ e.Missing name))

-- ---- texts

-- The text is refused at the end of the words `front`: the fault is the first that stands at the
-- last of them, and none stands at an earlier word; or none stands in them, they begin a table, and
-- the next word is refused, or that there is none.
pub record IsRefused (asked : Asked) (text : List ℕ) (fault : TableError) : Type 0 where
  pub front : List Placed
  pub rest : List Placed
  pub error : Option WordError
  pub is_text : IsText (length text) text (front ++ rest) error
  pub refused :
      (IsCleanBefore asked (tokens (front ++ rest)) (tokens rest)
      × FaultAt asked (tokens (front ++ rest)) (tokens rest) fault)
      ⊎ (IsClean asked (tokens (front ++ rest)) (tokens rest)
      × Begin asked (tokens (front ++ rest)) (tokens rest)
      × StopsAt asked (length text) (tokens (front ++ rest)) rest error fault)

-- The text says the table: no fault stands in it, and nothing is missing.
pub record Says (asked : Asked) (text : List ℕ) (t : Table) : Type 0 where
  pub words : List Placed
  pub is_text : IsText (length text) text words None
  pub derives : Derive asked (tokens words) t
  pub clean : IsClean asked (tokens words) []
  pub complete : first_missing asked.wants t.items ≡ None

-- what is said of a text: the table that it says, or why it is refused
abbrev pub Verdict : Asked → List ℕ → Result Table TableError → Type 0
Verdict asked text (Ok t) = Says asked text t
Verdict asked text (Err fault) = IsRefused asked text fault
