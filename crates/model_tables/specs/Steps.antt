-- How a table is read word by word.
use Rattle.std.specs.Prelude.{ℕ, List, [], ◌∷◌, ◌++◌, Option, Some, None, Result, Ok, Err}
use Rattle.std.specs.Option.{option_map}
use Rattle.tptp_words.specs.declared.word.WordError.{WordError}
use Rattle.tptp_words.specs.Text.{Token, Placed}
use Rattle.tptp_words.specs.Words.{keyword}
use Rattle.model_tables.specs.declared.error.TableError.{TableError}
use Rattle.model_tables.specs.declared.error.TableError.TheVariants as e
use Rattle.model_tables.specs.declared.form.Form.{Form}
use Rattle.model_tables.specs.declared.form.Form.TheVariants.{Typed, Untyped}
use Rattle.model_tables.specs.declared.form.Kind.{Kind}
use Rattle.model_tables.specs.Grammar.{Item, Table, form_word, size_word, format, stop, equals}
use Rattle.model_tables.specs.Grammar.{number, item_kind, item_name}
use Rattle.model_tables.specs.Places.{Place, AtSize, AtSizesEnd, AtName, AtItemEnd}
use Rattle.model_tables.specs.Faults.{Asked, faults, first_missing}
use Rattle.model_tables.specs.Refusals.{place_of}

-- what the words so far have said
pub data State : Type 0 where
  Start AtFormat AtStop AtSizeWord AtFirstSize : State
  Stands : Place → State
  HasKind : Table → Kind → State
  Filling : Table → Kind → List ℕ → List ℕ → State

-- an item behind the others
abbrev pub with_item : Table → Item → Table
with_item t it = record { sizes = t.sizes; items = t.items ++ it ∷ [] }

abbrev pub with_no_items : List ℕ → Table
with_no_items sizes = record { sizes = sizes; items = [] }

-- the first of the two, or else the second
abbrev pub first_some : {A : Type 0} → Option A → Option A → Option A
first_some (Some a) other = Some a
first_some None other = other

-- one more size, where there may be several
abbrev pub more_size : Form → List ℕ → Token → Option State
more_size Typed sizes w = option_map (λ n. Stands (AtSize (sizes ++ n ∷ []))) (number w)
more_size Untyped sizes w = None

-- what is said with one word more
abbrev pub step : Form → State → Token → Option State
step form Start w = option_map (λ _. AtFormat) (keyword (form_word form) w)
step form AtFormat w = option_map (λ _. AtStop) (format w)
step form AtStop w = option_map (λ _. AtSizeWord) (stop w)
step form AtSizeWord w = option_map (λ _. AtFirstSize) (keyword (size_word form) w)
step form AtFirstSize w = option_map (λ n. Stands (AtSize (n ∷ []))) (number w)
step form (Stands (AtSize sizes)) w =
    first_some (option_map (λ _. Stands (AtSizesEnd sizes)) (stop w)) (more_size form sizes w)
step form (Stands (AtSizesEnd sizes)) w =
    option_map (λ kind. HasKind (with_no_items sizes) kind) (item_kind form w)
step form (Stands (AtItemEnd before it)) w =
    option_map (λ kind. HasKind (with_item before it) kind) (item_kind form w)
step form (HasKind before kind) w =
    option_map (λ name. Stands (AtName before kind name)) (item_name kind w)
step form (Stands (AtName before kind name)) w =
    option_map (λ _. Filling before kind name []) (equals w)
step form (Filling before kind name entries) w = first_some
    (option_map (λ _. Stands (AtItemEnd before
    (record { kind = kind; name = name; entries = entries }))) (stop w))
    (option_map (λ n. Filling before kind name (entries ++ n ∷ [])) (number w))

-- what follows from something that is there
abbrev pub bind : {A B : Type 0} → Option A → (A → Option B) → Option B
bind None f = None
bind (Some a) f = f a

-- what is said behind these words
abbrev pub run : Form → State → List Token → Option State
run form s [] = Some s
run form s (w ∷ ws) = bind (step form s w) (λ t. run form t ws)

-- ---- what a text is answered

-- the table that is said, where it may end here
abbrev pub table_at : State → Option Table
table_at (Stands (AtSizesEnd sizes)) = Some (with_no_items sizes)
table_at (Stands (AtItemEnd before it)) = Some (with_item before it)
table_at s = None

-- the faults that stand at the last word
abbrev pub faults_at : Asked → State → List TableError
faults_at asked (Stands place) = faults asked place
faults_at asked s = []

abbrev pub unless_missing : Table → Option (List ℕ) → Result Table TableError
unless_missing t None = Ok t
unless_missing t (Some name) = Err (e.Missing name)

-- the answer at the end of a text of `total` bytes
abbrev pub answer_at_end : Asked → ℕ → Option Table → Result Table TableError
answer_at_end asked total None = Err (e.TableSyntax total)
answer_at_end asked total (Some t) = unless_missing t (first_missing asked.wants t.items)

-- the answer where there is no further word
abbrev pub answer_at_last : Asked → ℕ → State → Option WordError → Result Table TableError
answer_at_last asked total s None = answer_at_end asked total (table_at s)
answer_at_last asked total s (Some error) = Err (e.TableSyntax (place_of error))

abbrev pub unless_fault : {A : Type 0} → List TableError → Result A TableError → Result A TableError
unless_fault [] answer = answer
unless_fault (fault ∷ more) answer = Err fault

-- the answer behind a word at this place, which says so much
abbrev pub answer_behind : Asked → ℕ → Option State → (State → Result Table TableError)
    → Result Table TableError
answer_behind asked at None next = Err (e.TableSyntax at)
answer_behind asked at (Some t) next = unless_fault (faults_at asked t) (next t)

-- the answer where these words are left
abbrev pub answer_from : Asked → ℕ → State → List Placed → Option WordError
    → Result Table TableError
answer_from asked total s [] error = answer_at_last asked total s error
answer_from asked total s (w ∷ ws) error =
    answer_behind asked w.from (step asked.form s w.token)
    (λ t. answer_from asked total t ws error)
