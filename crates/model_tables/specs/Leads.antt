-- How parts of a table are read, and where that leads.
use Rattle.std.specs.Prelude.{◌≡◌, ◌≢◌, ℕ, List, [], ◌∷◌, ◌++◌, Option, Some, None, Result, Ok, Err}
use Rattle.tptp_words.specs.declared.word.WordError.{WordError}
use Rattle.tptp_words.specs.Text.{Token, Placed}
use Rattle.tptp_words.specs.Words.{keyword}
use Rattle.tptp_words.specs.Scanning.{Left}
use Rattle.tptp_phrases.specs.Readers.{take_word, seq, give, ◌>>=◌, ◌>>◌}
use Rattle.model_tables.specs.declared.error.TableError.{TableError}
use Rattle.model_tables.specs.declared.error.TableError.TheVariants as e
use Rattle.model_tables.specs.declared.form.Form.{Form}
use Rattle.model_tables.specs.declared.form.Kind.{Kind}
use Rattle.model_tables.specs.Grammar.{Table, form_word, size_word, format, stop, equals, number}
use Rattle.model_tables.specs.Grammar.{item_kind, item_name}
use Rattle.model_tables.specs.Faults.{Asked}
use Rattle.model_tables.specs.Steps.{State, faults_at, unless_fault, answer_from}
use Rattle.model_tables.specs.Ahead.{Read, Reads, place_left}

-- ---- parts

-- up to the first size
abbrev pub opening_at : Form → Reads ℕ
opening_at form = do
  take_word (keyword (form_word form))
  take_word format
  take_word stop
  take_word (keyword (size_word form))
  take_word number

-- the first two words of an item
abbrev pub heading_at : Form → Reads (Kind × List ℕ)
heading_at form = do
  kind ← take_word (item_kind form)
  name ← take_word (item_name kind)
  give (kind, name)

abbrev pub by_number : {A : Type 0} → Option ℕ → A → (ℕ → A) → A
by_number None other next = other
by_number (Some n) other next = next n

-- numbers behind those that are found
abbrev pub numbers_from : List ℕ → List Placed → Option WordError → Read (List ℕ)
numbers_from found [] fault = Ok (found, record { words = []; fault = fault })
numbers_from found (w ∷ ws) fault =
    by_number (number w.token) (Ok (found, record { words = w ∷ ws; fault = fault }))
    (λ n. numbers_from (found ++ n ∷ []) ws fault)

unfoldable pub numbers_at : List ℕ → Reads (List ℕ)
numbers_at found = λ s. numbers_from found s.words s.fault

-- the entries of an item
abbrev pub entries_at : Reads (List ℕ)
entries_at = do
  take_word equals
  entries ← numbers_at []
  take_word stop
  give entries

-- ---- answers

-- the answer from a state on
abbrev pub lead : Asked → ℕ → State → Left → Result Table TableError
lead asked total s left = answer_from asked total s left.words left.fault

-- the answer from a state on whose faults come first
abbrev pub arrive : Asked → ℕ → State → Left → Result Table TableError
arrive asked total s left = unless_fault (faults_at asked s) (lead asked total s left)

-- the refusal where this is left
abbrev pub refused_at : ℕ → Left → TableError
refused_at total left = e.TableSyntax (place_left total left.words left.fault)

-- where the outcome of a reader leads
abbrev pub Led : {A : Type 0} → Asked → ℕ → Result Table TableError → Read A → (A → State) → Type 0
Led asked total whole (Ok x) go = whole ≡ arrive asked total (go x.0) x.1
Led asked total whole (Err x) go = whole ≡ Err (refused_at total x.1)

-- what a function says of the answer: it goes on so, or that is it
abbrev pub Goes : {A : Type 0} → Result Table TableError → Result A TableError
    → (A → Result Table TableError) → Type 0
Goes whole (Ok a) next = whole ≡ next a
Goes whole (Err fault) next = fault ≢ e.Memory → whole ≡ Err fault

-- what a function says of the answer where it changes what it is lent: with this it goes on, or that
-- is it
abbrev pub GoesOn : {A : Type 0} → Result Table TableError → Result A TableError → Type 0 → Type 0
GoesOn whole (Ok a) Next = Next
GoesOn whole (Err fault) Next = fault ≢ e.Memory → whole ≡ Err fault
