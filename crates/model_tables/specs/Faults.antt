-- What is at fault at a place of a table. Where several faults stand at one place, they come in the
-- order in which they refuse.
use Rattle.std.specs.Prelude.{ℕ, zero, suc, ◌+◌, ◌-◌, ◌^◌, ◌==◌, Bool, true, false, not, ◌&&◌, ◌||◌}
use Rattle.std.specs.Prelude.{if◌then◌else◌, List, [], ◌∷◌, ◌++◌, length, ltb, min, Option, Some, None}
use Rattle.std.specs.Prelude.{is_some}
use Rattle.std.specs.List.{list_any}
use Rattle.enc_base.specs.Counts.{most_entries, in_64_bits}
use Rattle.tptp_words.specs.Words.{same}
use Rattle.model_tables.specs.declared.error.TableError.{TableError}
use Rattle.model_tables.specs.declared.error.TableError.TheVariants as e
use Rattle.model_tables.specs.declared.form.Form.{Form}
use Rattle.model_tables.specs.declared.form.Kind.{Kind}
use Rattle.model_tables.specs.declared.form.Kind.TheVariants.{Constructor, Symbol, Function, Predicate}
use Rattle.model_tables.specs.Grammar.{Item, Table, size_word}
use Rattle.model_tables.specs.Places.{Place, AtSize, AtSizesEnd, AtName, AtItemEnd}

-- ---- what is asked of a table

-- a constructor or symbol, which wants an item of its own
pub record Want : Type 0 where
  pub kind : Kind
  pub name : List ℕ

-- how many entries an item has to have, and the bound of each by its place, counted from 0
pub record Shape : Type 0 where
  pub count : ℕ
  pub bound : ℕ → ℕ

-- What is asked of a table.
pub record Asked : Type 0 where
  pub form : Form
  -- what wants an item, in order
  pub wants : List Want
  -- how many entries are known to be there, once the sizes are
  pub entries_by_sizes : List ℕ → ℕ
  -- the shape of an item of a kind and a name, by what stands before it
  pub shape : Table → Kind → List ℕ → Shape
  -- how many entries the structure has, where it is known from this item on, by what stands before
  pub entries_by_item : Table → Item → Option ℕ

-- ---- items by their kinds and names

abbrev pub same_kind : Kind → Kind → Bool
same_kind Constructor Constructor = true
same_kind Symbol Symbol = true
same_kind Function Function = true
same_kind Predicate Predicate = true
same_kind _ _ = false

-- whether a kind and a name are these
abbrev pub is_of : Kind → List ℕ → Kind → List ℕ → Bool
is_of kind name other_kind other_name = same_kind kind other_kind && same name other_name

-- the entries of the first item of a kind with a name
abbrev pub entries_of : Kind → List ℕ → List Item → Option (List ℕ)
entries_of kind name [] = None
entries_of kind name (it ∷ items) =
    if is_of kind name it.kind it.name then Some it.entries else entries_of kind name items

-- whether a constructor or symbol of the kind has the name
abbrev pub is_wanted : Kind → List ℕ → List Want → Bool
is_wanted kind name [] = false
is_wanted kind name (w ∷ wants) = is_of kind name w.kind w.name || is_wanted kind name wants

-- the name of the first that has no item
abbrev pub first_missing : List Want → List Item → Option (List ℕ)
first_missing [] items = None
first_missing (w ∷ wants) items =
    if is_some (entries_of w.kind w.name items) then first_missing wants items else Some w.name

-- the constructors among them
abbrev pub constructors_among : List Want → List Want
constructors_among [] = []
constructors_among (w ∷ wants) =
    if same_kind w.kind Constructor then w ∷ constructors_among wants else constructors_among wants

-- what has to have its item before an item of this kind: for a symbol of a typed table each
-- constructor
abbrev pub wanted_before : Kind → List Want → List Want
wanted_before Symbol wants = constructors_among wants
wanted_before _ wants = []

-- ---- faults

-- this one, where the test says so
abbrev pub fault_if : Bool → TableError → List TableError
fault_if true fault = fault ∷ []
fault_if false fault = []

-- more entries than the limit
abbrev pub limit_faults : ℕ → List TableError
limit_faults entries = fault_if (ltb most_entries entries) (e.TooLarge (in_64_bits entries))

abbrev pub limit_faults_of : Option ℕ → List TableError
limit_faults_of None = []
limit_faults_of (Some entries) = limit_faults entries

-- a 0 among the sizes
abbrev pub size_faults : Form → List ℕ → List TableError
size_faults form sizes = fault_if (list_any (λ n. n == 0) sizes) (e.OutOfRange (size_word form) 0)

-- the item that is missing, if there is one
abbrev pub missing_faults : Option (List ℕ) → List TableError
missing_faults None = []
missing_faults (Some name) = e.Missing name ∷ []

-- an item's name: unknown, or else repeated, or else too early
abbrev pub name_faults : List Want → List Item → Kind → List ℕ → List TableError
name_faults wants items kind name =
    fault_if (not (is_wanted kind name wants)) (e.UnknownSymbol name)
    ++ fault_if (is_some (entries_of kind name items)) (e.Repeated name)
    ++ missing_faults (first_missing (wanted_before kind wants) items)

-- another number of entries than there have to be
abbrev pub length_faults : List ℕ → ℕ → ℕ → List TableError
length_faults name expected found =
    fault_if (not (expected == found)) (e.WrongLength name expected found)

-- the first entry that is not below its bound, the entries being those from the i-th on
abbrev pub first_over : (ℕ → ℕ) → ℕ → List ℕ → Option ℕ
first_over bound i [] = None
first_over bound i (entry ∷ entries) =
    if ltb entry (bound i) then first_over bound (suc i) entries else Some entry

abbrev pub range_faults : List ℕ → Option ℕ → List TableError
range_faults name None = []
range_faults name (Some value) = e.OutOfRange name value ∷ []

-- an item's entries, by the shape that they have to have
abbrev pub entry_faults : Shape → Item → List TableError
entry_faults shape it =
    length_faults it.name shape.count (length it.entries)
    ++ range_faults it.name (first_over shape.bound 0 it.entries)

-- the faults that stand at a place
abbrev pub faults : Asked → Place → List TableError
faults asked (AtSize sizes) = size_faults asked.form sizes
faults asked (AtSizesEnd sizes) = limit_faults (asked.entries_by_sizes sizes)
faults asked (AtName before kind name) = name_faults asked.wants before.items kind name
faults asked (AtItemEnd before it) =
    entry_faults (asked.shape before it.kind it.name) it
    ++ limit_faults_of (asked.entries_by_item before it)
