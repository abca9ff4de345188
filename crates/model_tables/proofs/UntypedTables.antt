-- An untyped table of a structure within the limit on entries says a table without a fault.
use Rattle.std.proofs.Common.{◌≡◌, ℕ, suc, ◌≤◌, ◌<◌, List, [], ◌∷◌, ◌++◌}
use Rattle.std.proofs.Common.{Some, None, Bool, true, false, ◌||◌, refl, sym, ap, ◌∙◌, subst, arith}
use Rattle.std.proofs.Common.{Ok, Err, slice_get, get_or, ◌==◌}
use Rattle.std.specs.Prelude.{if◌then◌else◌, IsTrue}
use Rattle.std.specs.List.{AllByRecursion, list_any}
use Rattle.std.proofs.lemmas.Bool.{ne_eqb}
use Rattle.enc_base.specs.Counts.{most_entries}
use Rattle.tptp_words.specs.Text.{tokens}
use Rattle.fof_models.specs.declared.problem.FofSymbol.{FofSymbol}
use Rattle.fof_models.specs.declared.problem.FofProblem.{FofProblem}
use Rattle.fof_models.specs.declared.structure.Structure.{Structure}
use Rattle.fof_models.specs.Structures.{IsTable}
use Rattle.model_tables.specs.declared.error.TableError.{TableError}
use Rattle.model_tables.specs.declared.form.Form.TheVariants.{Untyped}
use Rattle.model_tables.specs.declared.form.Kind.{Kind}
use Rattle.model_tables.specs.declared.form.Kind.TheVariants.{Constructor, Symbol, Function}
use Rattle.model_tables.specs.declared.form.Kind.TheVariants.{Predicate}
use Rattle.model_tables.specs.Grammar.{Item, Table}
use Rattle.model_tables.specs.Places.{AtItemEnd}
use Rattle.model_tables.specs.Faults.{Asked, faults, same_kind, is_of, is_wanted, entries_of}
use Rattle.model_tables.specs.Faults.{entry_faults, constructors_among, first_missing}
use Rattle.model_tables.specs.Faults.{wanted_before}
use Rattle.model_tables.specs.Faults.{size_faults}
use Rattle.model_tables.specs.Items.{OnceBehind, HaveTables}
use Rattle.model_tables.specs.Untyped.{untyped, symbol_kind, symbol_want, symbol_wants, symbol_of}
use Rattle.model_tables.specs.Untyped.{symbol_shape, all_entries, untyped_structure, IsUntypedTable}
use Rattle.model_tables.specs.Untyped.{structure_entries}
use Rattle.model_tables.specs.Laws.{UntypedTablesAreSaid, UntypedTablesAreNotRefused}
use Rattle.model_tables.specs.Refusals.{Says, IsRefused}
use Rattle.model_tables.proofs.Fronts.{HasNoFaults, clean_of_parts}
use Rattle.model_tables.proofs.NoFaults.{is_of-same, no_size_faults, no_limit_faults}
use Rattle.model_tables.proofs.NoFaults.{no_name_faults}
use Rattle.model_tables.proofs.NoFaults.{no_entry_faults, all_at, new_at, found_at, nothing_missing}
use Rattle.model_tables.proofs.NoFaults.{tables_given}
use Rattle.model_tables.proofs.OneVerdict.{one_verdict}
use Rattle.model_tables.proofs.UntypedTexts.{known_entries}

-- ---- the symbol of an item

-- The first symbol of a kind with a name, and its place: its table is that of the items.
record IsFirst (signature : List FofSymbol) (names : List (List ℕ)) (kind : Kind) (name : List ℕ) :
    Type 0 where
  place : ℕ
  symbol : FofSymbol
  at : slice_get signature place ≡ Some symbol
  is : symbol_of kind name signature names ≡ Some symbol
  has : (items : List Item) (tables : List (List ℕ))
      → HaveTables items (symbol_wants signature names) tables
      → entries_of kind name items ≡ Some (get_or tables place [])

first_symbol : (signature : List FofSymbol) (names : List (List ℕ)) (kind : Kind) (name : List ℕ)
    → is_wanted kind name (symbol_wants signature names) ≡ true → IsFirst signature names kind name
first_symbol [] names kind name wanted = cc
first_symbol (symbol ∷ symbols) [] kind name wanted = cc
first_symbol (symbol ∷ symbols) (n ∷ names) kind name wanted =
    by (is_of kind name (symbol_kind symbol) n) refl wanted (first_symbol symbols names kind name)
  where
    by : (t : Bool) → is_of kind name (symbol_kind symbol) n ≡ t
        → (t || is_wanted kind name (symbol_wants symbols names)) ≡ true
        → (is_wanted kind name (symbol_wants symbols names) ≡ true
        → IsFirst symbols names kind name)
        → IsFirst (symbol ∷ symbols) (n ∷ names) kind name
    by true same found next =
        let equal = is_of-same kind name (symbol_kind symbol) n same in
        record {
          place = 0;
          symbol = symbol;
          at = refl;
          is = ap (λ t. if t then Some symbol else symbol_of kind name symbols names) same;
          has = here equal.0 equal.1;
        }
      where
        here : kind ≡ symbol_kind symbol → name ≡ n → (items : List Item) (tables : List (List ℕ))
            → HaveTables items (symbol_wants (symbol ∷ symbols) (n ∷ names)) tables
            → entries_of kind name items ≡ Some (get_or tables 0 [])
        here kinds spelt items [] have = absurd have
        here kinds spelt items (entries ∷ tables) have =
            ap (λ k. entries_of k name items) kinds
            ∙ ap (λ z. entries_of (symbol_kind symbol) z items) spelt ∙ have.0
    by false other found next =
        let more = next found in
        record {
          place = suc more.place;
          symbol = more.symbol;
          at = more.at;
          is = ap (λ t. if t then Some symbol else symbol_of kind name symbols names) other
              ∙ more.is;
          has = behind more;
        }
      where
        behind : (more : IsFirst symbols names kind name) (items : List Item)
            (tables : List (List ℕ))
            → HaveTables items (symbol_wants (symbol ∷ symbols) (n ∷ names)) tables
            → entries_of kind name items ≡ Some (get_or tables (suc more.place) [])
        behind more items [] have = absurd have
        behind more items (entries ∷ tables) have = more.has items tables have.1

no_constructors : (signature : List FofSymbol) (names : List (List ℕ))
    → constructors_among (symbol_wants signature names) ≡ []
no_constructors [] names = refl
no_constructors (symbol ∷ symbols) [] = refl
no_constructors (symbol ∷ symbols) (n ∷ names) =
    by symbol.predicate ∙ no_constructors symbols names
  where
    by : (p : Bool)
        → (if same_kind (if p then Predicate else Function) Constructor
        then symbol_want symbol n ∷ constructors_among (symbol_wants symbols names)
        else constructors_among (symbol_wants symbols names))
        ≡ constructors_among (symbol_wants symbols names)
    by true = refl
    by false = refl

-- no item of an untyped table has to stand behind others
none_before : (signature : List FofSymbol) (names : List (List ℕ)) (kind : Kind) (items : List Item)
    → first_missing (wanted_before kind (symbol_wants signature names)) items ≡ None
none_before signature names Symbol items =
    ap (λ z. first_missing z items) (no_constructors signature names)
none_before signature names _ items = refl

-- ---- the table of a structure

module _ (text : List ℕ) (problem : FofProblem) (names : List (List ℕ)) (s : Structure)
    (is : IsUntypedTable text problem names s) (few : structure_entries s ≤ most_entries)
  where
    abbrev asked : Asked
    asked = untyped problem.signature names

    abbrev whole : Table
    whole = record { sizes = s.size ∷ []; items = is.items }

    inhabited : (n : ℕ) → 0 < n → list_any (λ m. m == 0) (n ∷ []) ≡ false
    inhabited n some =
        ap (λ t. t || false) (ne_eqb n 0 (λ none. omega (arith, some, none)))

    within : all_entries problem.signature s.size ≤ most_entries
    within =
        subst (λ z. z ≤ most_entries) (known_entries problem.signature s is.well_formed) few

    wanted : (before more : List Item) (it : Item) → is.items ≡ before ++ it ∷ more
        → is_wanted it.kind it.name (symbol_wants problem.signature names) ≡ true
    wanted before more it split =
        all_at (λ z. is_wanted z.kind z.name (symbol_wants problem.signature names) ≡ true) before
        more it (subst (λ z. AllByRecursion
        (λ (i : Item). IsTrue (is_wanted i.kind i.name (symbol_wants problem.signature names))) z)
        split is.tables.known)

    once : (before more : List Item) (it : Item) → is.items ≡ before ++ it ∷ more
        → OnceBehind [] (before ++ it ∷ more)
    once before more it split = subst (λ z. OnceBehind [] z) split is.tables.once

    fitting : (before more : List Item) (it : Item) → is.items ≡ before ++ it ∷ more
        → (symbol : FofSymbol)
        × (symbol_of it.kind it.name problem.signature names ≡ Some symbol)
        × IsTable symbol s.size it.entries
    fitting before more it split =
        let first = first_symbol problem.signature names it.kind it.name
        (wanted before more it split) in
        let own = found_at before more it (once before more it split) in
        let has : entries_of it.kind it.name is.items ≡ Some (get_or s.tables first.place []) =
        first.has is.items s.tables is.tables.each in
        let same : Some (get_or s.tables first.place []) ≡ Some it.entries =
        sym has ∙ ap (entries_of it.kind it.name) split ∙ own in
        let entries : get_or s.tables first.place [] ≡ it.entries = cc same in (
          first.symbol,
          first.is,
          subst (λ z. IsTable first.symbol s.size z) entries
              (is.well_formed.tables first.place first.symbol first.at),
        )

    no_faults_at_end : (before more : List Item) (it : Item) → is.items ≡ before ++ it ∷ more
        → faults asked (AtItemEnd (record { sizes = s.size ∷ []; items = before }) it) ≡ []
    no_faults_at_end before more it split =
        let fit = fitting before more it split in
        ap (λ o. entry_faults (symbol_shape s.size o) it ++ []) fit.1
        ∙ ap (λ z. z ++ [])
        (no_entry_faults (symbol_shape s.size (Some fit.0)) it fit.2.count fit.2.below)

    no_faults : HasNoFaults asked whole
    no_faults = record {
      at_size = sized;
      at_sizes_end = no_limit_faults (all_entries problem.signature s.size) within;
      at_name = λ before more it split.
          no_name_faults (symbol_wants problem.signature names) before it.kind it.name
          (wanted before more it split) (new_at before more it (once before more it split))
          (none_before problem.signature names it.kind before);
      at_item_end = no_faults_at_end;
    }
      where
        sized : (sizes more : List ℕ) → s.size ∷ [] ≡ sizes ++ more
            → size_faults Untyped sizes ≡ []
        sized [] more split = refl
        sized (n ∷ []) more split =
            let same : s.size ≡ n = cc in
            no_size_faults Untyped (n ∷ [])
            (inhabited n (subst (λ z. 0 < z) same is.well_formed.inhabited))
        sized (n ∷ m ∷ sizes) more split = cc

    says : Says asked text whole
    says = record {
      words = is.words;
      is_text = is.is_text;
      derives = is.derives;
      clean = clean_of_parts asked whole no_faults (tokens is.words) is.derives;
      complete = nothing_missing (symbol_wants problem.signature names) is.items s.tables
          is.tables.each;
    }

    pub said : (t : Table) × Says asked text t × (untyped_structure problem.signature names t ≡ s)
    said = (
      whole,
      says,
      ap (λ z. record { size = s.size; tables = z })
          (tables_given (symbol_wants problem.signature names) is.items s.tables is.tables.each),
    )

    pub not_refused : (fault : TableError) → IsRefused asked text fault → ⊥
    not_refused fault refused =
        let same = one_verdict asked text (Ok whole) (Err fault) says refused in cc

pub untyped_said : UntypedTablesAreSaid
untyped_said = said

pub untyped_not_refused : UntypedTablesAreNotRefused
untyped_not_refused text problem names s fault is few =
    not_refused text problem names s is few fault
