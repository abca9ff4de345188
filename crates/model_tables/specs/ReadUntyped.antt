-- How an untyped table is read item by item, and what is kept of it meanwhile.
use Rattle.std.specs.Prelude.{◌≡◌, ◌≢◌, ℕ, ◌≤◌, List, [], ◌∷◌, length, slice_get, Option, Some, None, false}
use Rattle.std.specs.Prelude.{Result, Ok, Err}
use Rattle.enc_base.specs.Counts.{most_entries}
use Rattle.tptp_words.specs.Scanning.{Left}
use Rattle.fof_text.specs.Names.{AllDiffer}
use Rattle.fof_models.specs.declared.problem.FofSymbol.{FofSymbol}
use Rattle.fof_models.specs.declared.structure.Structure.{Structure}
use Rattle.model_tables.specs.declared.error.TableError.{TableError}
use Rattle.model_tables.specs.declared.error.TableError.TheVariants as e
use Rattle.model_tables.specs.declared.form.Kind.{Kind}
use Rattle.model_tables.specs.declared.symbols.Symbols.{Symbols}
use Rattle.model_tables.specs.Grammar.{Table}
use Rattle.model_tables.specs.Faults.{Want, Asked, is_wanted}
use Rattle.model_tables.specs.Steps.{State, table_at}
use Rattle.model_tables.specs.Leads.{lead}
use Rattle.model_tables.specs.Held.{slots_of}
use Rattle.model_tables.specs.Untyped.{untyped, symbol_wants, all_entries, untyped_structure}
use Rattle.model_tables.specs.Refusals.{Says}

-- each symbol has a name of its own, and a structure of this size is within the limit on entries
pub record IsReady (signature : List FofSymbol) (names : List (List ℕ)) (size : ℕ) : Type 0 where
  pub one_each : length names ≡ length signature
  pub differ : AllDiffer names
  pub few : all_entries signature size ≤ most_entries

-- the symbols of a reader are ready, and what they want and what is asked of a table of theirs

abbrev pub AreReady : Symbols → Type 0
AreReady symbols = IsReady symbols.signature.now symbols.names symbols.size

abbrev pub wants_of : Symbols → List Want
wants_of symbols = symbol_wants symbols.signature.now symbols.names

abbrev pub asked_of : Symbols → Asked
asked_of symbols = untyped symbols.signature.now symbols.names

-- a place of what wants an item of a kind with a name, if there is one
abbrev pub IsWantedAt : List Want → Kind → List ℕ → Option ℕ → Type 0
IsWantedAt wants kind name None = is_wanted kind name wants ≡ false
IsWantedAt wants kind name (Some i) =
    slice_get wants i ≡ Some (record { kind = kind; name = name })

-- So far the text says a table with these sizes, whose items gave these entries, and this is left
-- of it: the answer to the whole text is the answer from here on.
pub record IsReadSoFar (asked : Asked) (total : ℕ) (whole : Result Table TableError)
    (sizes : List ℕ) (slots : List (Option (List ℕ))) (left : Left) : Type 0 where
  pub state : State
  pub table : Table
  pub stands : table_at state ≡ Some table
  pub sizes_are : table.sizes ≡ sizes
  pub slots_are : slots ≡ slots_of asked.wants table.items
  pub leads : whole ≡ lead asked total state left

abbrev pub ReadSoFar : Symbols → ℕ → Result Table TableError → List (Option (List ℕ)) → Left → Type 0
ReadSoFar symbols total whole slots left =
    IsReadSoFar (asked_of symbols) total whole (symbols.size ∷ []) slots left

-- the structure of the table that is the answer, or why there is none, unless memory fails
abbrev pub IsAnswer : List FofSymbol → List (List ℕ) → Result Table TableError
    → Result Structure TableError → Type 0
IsAnswer signature names whole (Ok s) =
    (t : Table) × (whole ≡ Ok t) × (s ≡ untyped_structure signature names t)
IsAnswer signature names whole (Err fault) = fault ≢ e.Memory → whole ≡ Err fault

-- the text says a table without a fault, and the table gives the structure
abbrev pub SaysStructure : List FofSymbol → List (List ℕ) → List ℕ → Structure → Type 0
SaysStructure signature names text s =
    (t : Table) × Says (untyped signature names) text t × (s ≡ untyped_structure signature names t)
