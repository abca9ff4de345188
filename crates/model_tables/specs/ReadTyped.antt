-- How a typed table is read item by item, and what is kept of it meanwhile.
use Rattle.std.specs.Prelude.{◌≡◌, ℕ, ◌+◌, ◌≤◌, true, List, [], length, get_or, set, slice_get, Option, Some, None}
use Rattle.std.specs.Prelude.{Result, Ok, OnOk}
use Rattle.enc_base.specs.Counts.{most_entries}
use Rattle.tptp_words.specs.Scanning.{Left}
use Rattle.fof_text.specs.Names.{AllDiffer}
use Rattle.tf_core.specs.declared.signature.Constructor.{Constructor}
use Rattle.tf_core.specs.declared.signature.Signature.{Signature}
use Rattle.tf_core.specs.Typing.{IsSignature}
use Rattle.tf_models.specs.declared.structure.TypedStructure.{TypedStructure}
use Rattle.tf_models.specs.Fit.{IsInhabited, IsTable}
use Rattle.tf_models.specs.Reading.{tables}
use Rattle.model_tables.specs.declared.error.TableError.{TableError}
use Rattle.model_tables.specs.declared.form.Kind.{Kind}
use Rattle.model_tables.specs.declared.form.Kind.TheVariants as kind
use Rattle.model_tables.specs.declared.partial.Partial.{Partial}
use Rattle.model_tables.specs.declared.known.Known.{Known}
use Rattle.model_tables.specs.Grammar.{Item, Table}
use Rattle.model_tables.specs.Places.{AtName, AtItemEnd}
use Rattle.model_tables.specs.Faults.{faults}
use Rattle.model_tables.specs.Refusals.{Says}
use Rattle.model_tables.specs.Steps.{State, Stands, table_at, with_item}
use Rattle.model_tables.specs.Leads.{lead, arrive, GoesOn}
use Rattle.model_tables.specs.Checks.{Checks}
use Rattle.model_tables.specs.Typed.{typed, typed_structure, constructor_entries, typed_entries}
use Rattle.model_tables.specs.Writable.{constructor_names, symbol_names}
use Rattle.model_tables.specs.Marks.{marks_of, missing_among}

-- the signature is well typed, its names are in the indexes, and those of a kind differ
pub record AreKnown (known : Known) : Type 0 where
  pub typed : IsSignature known.signature.now
  pub constructors : known.constructors ≡ constructor_names known.signature.now
  pub symbols : known.symbols ≡ symbol_names known.signature.now
  pub constructors_differ : AllDiffer (constructor_names known.signature.now)
  pub symbols_differ : AllDiffer (symbol_names known.signature.now)

-- There are members, each with an element, which with the constructors' tables are within the
-- limit on entries. There is a place for each table, and the constructors' tables that are read
-- are tables of members.
pub record IsPart (g : Signature) (part : Partial) : Type 0 where
  pub inhabited : IsInhabited part.structure.sizes
  pub small : constructor_entries g part.structure.sizes ≤ most_entries
  pub constructor_count : length part.structure.constructors ≡ length g.constructors
  pub symbol_count : length part.structure.symbols ≡ length g.symbols
  pub constructor_marks : length part.constructors ≡ length g.constructors
  pub symbol_marks : length part.symbols ≡ length g.symbols
  pub fit : (c : ℕ) (constructor : Constructor) → slice_get g.constructors c ≡ Some constructor →
      slice_get part.constructors c ≡ Some true →
      IsTable (length part.structure.sizes) constructor.arity (get_or part.structure.constructors c [])

-- one table more, at its place

abbrev pub with_constructor : Partial → ℕ → List ℕ → Partial
with_constructor part at entries = record {
  structure = record {
    sizes = part.structure.sizes;
    constructors = set part.structure.constructors at entries;
    symbols = part.structure.symbols;
  };
  constructors = set part.constructors at true;
  symbols = part.symbols;
}

abbrev pub with_symbol : Partial → ℕ → List ℕ → Partial
with_symbol part at entries = record {
  structure = record {
    sizes = part.structure.sizes;
    constructors = part.structure.constructors;
    symbols = set part.structure.symbols at entries;
  };
  constructors = part.constructors;
  symbols = set part.symbols at true;
}

-- once all constructors' tables are read, the structure is within the limit on entries
abbrev pub IsLimited : Signature → Partial → Type 0
IsLimited g part =
    missing_among part.constructors ≡ 0 → typed_entries g (tables part.structure) ≤ most_entries

-- how many tables are missing
abbrev pub missing_in : Partial → ℕ
missing_in part = missing_among part.constructors + missing_among part.symbols

-- what is read of the structure is what the table says
pub record IsSaid (g : Signature) (t : Table) (part : Partial) : Type 0 where
  pub structure : part.structure ≡ typed_structure g t
  pub constructors : part.constructors ≡ marks_of kind.Constructor (constructor_names g) t.items
  pub symbols : part.symbols ≡ marks_of kind.Symbol (symbol_names g) t.items

-- what is kept: so much of a structure, within the limit
pub record IsKept (g : Signature) (part : Partial) : Type 0 where
  pub fits : IsPart g part
  pub limited : IsLimited g part

-- ---- what readers do

-- what a text is answered
abbrev pub Answer : Type 0
Answer = Result Table TableError

abbrev pub constructor_item : List ℕ → List ℕ → Item
constructor_item name entries = record { kind = kind.Constructor; name = name; entries = entries }

abbrev pub symbol_item : List ℕ → List ℕ → Item
symbol_item name entries = record { kind = kind.Symbol; name = name; entries = entries }

-- The end of an item is checked, and where no fault stands there, the table has the item.
pub record TakesItem (g : Signature) (before : Table) (it : Item) (part : Partial)
    (result : Result (Unit {0}) TableError) : Type 0 where
  pub checks : Checks (faults (typed g) (AtItemEnd before it)) result
  pub said : OnOk result (IsSaid g (with_item before it) part)

-- the answer is that from here on, where an item or the end of the text may stand
pub record IsReading (g : Signature) (total : ℕ) (whole : Answer) (left : Left) (part : Partial) :
    Type 0 where
  pub state : State
  pub before : Table
  pub at : table_at state ≡ Some before
  pub said : IsSaid g before part
  pub goes : whole ≡ lead (typed g) total state left

-- what is read from the name of an item on
abbrev pub ReadsItem : Signature → ℕ → Kind → List ℕ → Left → Partial → Left → Partial
    → Result (Unit {0}) TableError → Type 0
ReadsItem g total k name left part new_left new_part result = (whole : Answer) (before : Table) →
    IsSaid g before part → whole ≡ arrive (typed g) total (Stands (AtName before k name)) left →
    GoesOn whole result (IsReading g total whole new_left new_part)

-- what is read from an item on
abbrev pub ReadsOn : Signature → ℕ → Left → Partial → Left → Partial
    → Result (Unit {0}) TableError → Type 0
ReadsOn g total left part new_left new_part result = (whole : Answer) →
    IsReading g total whole left part →
    GoesOn whole result (IsReading g total whole new_left new_part)

-- what was read is all: the answer is the table that gives the structure
pub record IsRead (g : Signature) (whole : Answer) (part : Partial) : Type 0 where
  pub table : Table
  pub said : IsSaid g table part
  pub answer : whole ≡ Ok table

-- the text says a table without a fault, which gives the structure
abbrev pub SaysTyped : Signature → List ℕ → TypedStructure → Type 0
SaysTyped g text s = (t : Table) × Says (typed g) text t × (s ≡ typed_structure g t)
