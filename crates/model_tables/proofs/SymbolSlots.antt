-- The symbols of an untyped problem and their slots.
use Rattle.std.proofs.Common.{◌≡◌, ℕ, zero, suc, ◌+◌, ◌≤◌, ◌<◌, ◌^◌, List, [], ◌∷◌, ◌++◌, length, map, Option}
use Rattle.std.proofs.Common.{Some, None, Bool, true, false, ◌||◌, ◌&&◌, refl, sym, ap, ◌∙◌, subst, arith}
use Rattle.std.proofs.Common.{slice_get, get_or, is_some, not, replicate, append-nil}
use Rattle.std.specs.Prelude.{if◌then◌else◌, ltb}
use Rattle.std.proofs.lemmas.Bool.{ltb-true, ltb-false}
use Rattle.std.proofs.lemmas.List.Sums.{sum-map, get_or-le-sum_by}
use Rattle.std.proofs.lemmas.Option.{slice_get_within, get_or_from_slice_get, same_Some}
use Rattle.enc_base.specs.Counts.{most_entries, in_64_bits}
use Rattle.tptp_words.specs.Words.{same}
use Rattle.fof_text.specs.Names.{AllDiffer, place_of}
use Rattle.fof_text.proofs.Places.{same_is}
use Rattle.fof_models.specs.declared.problem.FofSymbol.{FofSymbol}
use Rattle.structure_tables.specs.EntryCounts.{untyped_count}
use Rattle.model_tables.specs.declared.form.Kind.{Kind}
use Rattle.model_tables.specs.declared.form.Kind.TheVariants.{Constructor, Symbol, Function, Predicate}
use Rattle.model_tables.specs.Grammar.{Item}
use Rattle.model_tables.specs.Faults.{Want, is_of, same_kind, is_wanted, entries_of, first_missing}
use Rattle.model_tables.specs.Faults.{constructors_among, wanted_before, name_faults, fault_if}
use Rattle.model_tables.specs.Faults.{missing_faults}
use Rattle.model_tables.specs.declared.error.TableError.{TableError}
use Rattle.model_tables.specs.declared.error.TableError.TheVariants as e
use Rattle.model_tables.specs.Untyped.{symbol_kind, symbol_want, symbol_wants, symbol_entries, all_entries}
use Rattle.model_tables.specs.Held.{IsPlace, slots_of, first_empty}
use Rattle.model_tables.specs.ReadUntyped.{IsWantedAt}
use Rattle.model_tables.proofs.NoFaults.{is_of-same}
use Rattle.model_tables.proofs.ItemsWritten.{place_of-at}
use Rattle.model_tables.proofs.Slots.{AreApart, wanted_at, slot_at}

no_and : (a : Bool) → (a && false) ≡ false
no_and true = refl
no_and false = refl

-- ---- names of symbols

-- a name that isn't among the names is no symbol's
pub far_unwanted : (kind : Kind) (name : List ℕ) (symbols : List FofSymbol) (names : List (List ℕ))
    → length names ≤ place_of names name → is_wanted kind name (symbol_wants symbols names) ≡ false
far_unwanted kind name [] names far = refl
far_unwanted kind name (s ∷ symbols) [] far = refl
far_unwanted kind name (s ∷ symbols) (n ∷ names) far =
    by (same name n) refl far (far_unwanted kind name symbols names)
  where
    by : (t : Bool) → same name n ≡ t
        → length (n ∷ names) ≤ (if t then 0 else suc (place_of names name))
        → (length names ≤ place_of names name
        → is_wanted kind name (symbol_wants symbols names) ≡ false)
        → (is_of kind name (symbol_kind s) n || is_wanted kind name (symbol_wants symbols names))
        ≡ false
    by true is more next = absurd (omega arith)
    by false is more next =
        let other : is_of kind name (symbol_kind s) n ≡ false =
        ap (λ b. same_kind kind (symbol_kind s) && b) is ∙ no_and (same_kind kind (symbol_kind s)) in
        ap (λ b. b || is_wanted kind name (symbol_wants symbols names)) other
        ∙ next (omega arith)

-- symbols whose names differ are apart
pub symbols_apart : (symbols : List FofSymbol) (names : List (List ℕ)) → AllDiffer names
    → AreApart (symbol_wants symbols names)
symbols_apart [] names differ = tt
symbols_apart (s ∷ symbols) [] differ = tt
symbols_apart (s ∷ symbols) (n ∷ names) differ =
    (far_unwanted (symbol_kind s) n symbols names differ.0, symbols_apart symbols names differ.1)

-- the place of a name that is there
place_within : (names : List (List ℕ)) (name : List ℕ) → place_of names name < length names
    → slice_get names (place_of names name) ≡ Some name
place_within [] name within = absurd (omega arith)
place_within (n ∷ names) name within = by (same name n) refl within (place_within names name)
  where
    by : (t : Bool) → same name n ≡ t
        → (if t then 0 else suc (place_of names name)) < length (n ∷ names)
        → (place_of names name < length names
        → slice_get names (place_of names name) ≡ Some name)
        → slice_get (n ∷ names) (if t then 0 else suc (place_of names name)) ≡ Some name
    by true is less next = ap Some (sym (same_is name n is))
    by false is less next = next (omega arith)

-- a name that has no place is no symbol's
pub unplaced_unwanted : (kind : Kind) (name : List ℕ) (symbols : List FofSymbol)
    (names : List (List ℕ)) → IsPlace names name None
    → is_wanted kind name (symbol_wants symbols names) ≡ false
unplaced_unwanted kind name symbols names unplaced =
    by (ltb (place_of names name) (length names)) refl
  where
    by : (t : Bool) → ltb (place_of names name) (length names) ≡ t
        → is_wanted kind name (symbol_wants symbols names) ≡ false
    by false is = far_unwanted kind name symbols names (ltb-false _ _ is)
    by true is =
        absurd (unplaced (place_of names name) (place_within names name (ltb-true _ _ is)))

-- a name of a symbol of another kind is no symbol's
pub other_kind_unwanted : (kind : Kind) (name : List ℕ) (symbols : List FofSymbol)
    (names : List (List ℕ)) (i : ℕ) (symbol : FofSymbol) → AllDiffer names
    → slice_get symbols i ≡ Some symbol → slice_get names i ≡ Some name
    → same_kind kind (symbol_kind symbol) ≡ false
    → is_wanted kind name (symbol_wants symbols names) ≡ false
other_kind_unwanted kind name [] names i symbol differ at named other = refl
other_kind_unwanted kind name (s ∷ symbols) [] i symbol differ at named other = refl
other_kind_unwanted kind name (s ∷ symbols) (n ∷ names) zero symbol differ at named other =
    let here : s ≡ symbol = cc in
    let its : n ≡ name = cc in
    let no : same_kind kind (symbol_kind s) ≡ false =
    ap (λ (z : FofSymbol). same_kind kind (symbol_kind z)) here ∙ other in
    ap (λ b. (b && same name n) || is_wanted kind name (symbol_wants symbols names)) no
    ∙ far_unwanted kind name symbols names
    (subst (λ z. length names ≤ place_of names z) its differ.0)
other_kind_unwanted kind name (s ∷ symbols) (n ∷ names) (suc i) symbol differ at named other =
    by (is_of kind name (symbol_kind s) n) refl
    (other_kind_unwanted kind name symbols names i symbol differ.1 at named other)
  where
    by : (t : Bool) → is_of kind name (symbol_kind s) n ≡ t
        → is_wanted kind name (symbol_wants symbols names) ≡ false
        → (t || is_wanted kind name (symbol_wants symbols names)) ≡ false
    by false is none = none
    by true is none =
        let equal = (is_of-same kind name (symbol_kind s) n is).1 in
        let within = place_of-at names i n (named ∙ ap Some equal) in
        absurd (omega (arith, differ.0, within))

-- ---- places of symbols

-- the want of a symbol with a name
pub wanted_symbol : (symbols : List FofSymbol) (names : List (List ℕ)) (i : ℕ) (symbol : FofSymbol)
    (name : List ℕ) → slice_get symbols i ≡ Some symbol → slice_get names i ≡ Some name
    → IsWantedAt (symbol_wants symbols names) (symbol_kind symbol) name (Some i)
wanted_symbol [] names i symbol name at named = cc
wanted_symbol (s ∷ symbols) [] i symbol name at named = cc
wanted_symbol (s ∷ symbols) (n ∷ names) zero symbol name at named = cc
wanted_symbol (s ∷ symbols) (n ∷ names) (suc i) symbol name at named =
    wanted_symbol symbols names i symbol name at named

-- the symbol and the name at the place of a want
pub symbol_wanted : (symbols : List FofSymbol) (names : List (List ℕ)) (i : ℕ) (kind : Kind)
    (name : List ℕ) → IsWantedAt (symbol_wants symbols names) kind name (Some i)
    → (symbol : FofSymbol) × (slice_get symbols i ≡ Some symbol) × (slice_get names i ≡ Some name)
    × (symbol_kind symbol ≡ kind)
symbol_wanted [] names i kind name at = cc
symbol_wanted (s ∷ symbols) [] i kind name at = cc
symbol_wanted (s ∷ symbols) (n ∷ names) zero kind name at =
    let here = same_Some (symbol_want s n) (record { kind = kind; name = name }) at in
    (s, refl, ap (λ (w : Want). Some w.name) here, ap (λ (w : Want). w.kind) here)
symbol_wanted (s ∷ symbols) (n ∷ names) (suc i) kind name at =
    symbol_wanted symbols names i kind name at

pub symbol_wants-length : (symbols : List FofSymbol) (names : List (List ℕ))
    → length names ≡ length symbols → length (symbol_wants symbols names) ≡ length symbols
symbol_wants-length [] names counted = refl
symbol_wants-length (s ∷ symbols) [] counted = absurd (omega arith)
symbol_wants-length (s ∷ symbols) (n ∷ names) counted =
    let more = symbol_wants-length symbols names (omega arith) in omega arith

-- no constructor is among them
pub no_constructors : (symbols : List FofSymbol) (names : List (List ℕ))
    → constructors_among (symbol_wants symbols names) ≡ []
no_constructors [] names = refl
no_constructors (s ∷ symbols) [] = refl
no_constructors (s ∷ symbols) (n ∷ names) = by s.predicate (no_constructors symbols names)
  where
    by : (predicate : Bool) → constructors_among (symbol_wants symbols names) ≡ []
        → (if same_kind (if predicate then Predicate else Function) Constructor
        then (record { kind = symbol_kind s; name = n }) ∷ constructors_among (symbol_wants symbols names)
        else constructors_among (symbol_wants symbols names)) ≡ []
    by true none = none
    by false none = none

-- nothing has to stand before an item
pub none_before : (kind : Kind) (symbols : List FofSymbol) (names : List (List ℕ))
    → wanted_before kind (symbol_wants symbols names) ≡ []
none_before Constructor symbols names = refl
none_before Symbol symbols names = no_constructors symbols names
none_before Function symbols names = refl
none_before Predicate symbols names = refl

-- ---- empty slots

-- slots before any item
pub slots_of-none : (wants : List Want) → slots_of wants [] ≡ replicate (length wants) None
slots_of-none [] = refl
slots_of-none (w ∷ wants) = ap (λ z. None ∷ z) (slots_of-none wants)

-- the first empty slot is that of the first symbol that has no item
pub first_empty-missing : (symbols : List FofSymbol) (names : List (List ℕ)) (items : List Item)
    → length names ≡ length symbols
    → first_empty names (slots_of (symbol_wants symbols names) items)
    ≡ first_missing (symbol_wants symbols names) items
first_empty-missing [] [] items counted = refl
first_empty-missing [] (n ∷ names) items counted = absurd (omega arith)
first_empty-missing (s ∷ symbols) [] items counted = absurd (omega arith)
first_empty-missing (s ∷ symbols) (n ∷ names) items counted =
    by (entries_of (symbol_kind s) n items) (first_empty-missing symbols names items (omega arith))
  where
    by : (o : Option (List ℕ))
        → first_empty names (slots_of (symbol_wants symbols names) items)
        ≡ first_missing (symbol_wants symbols names) items
        → first_empty (n ∷ names) (o ∷ slots_of (symbol_wants symbols names) items)
        ≡ (if is_some o then first_missing (symbol_wants symbols names) items else Some n)
    by None next = refl
    by (Some entries) next = next

-- ---- counts

-- the entries of a structure are counted alike
pub counted_entries : (size : ℕ) (symbols : List FofSymbol)
    → untyped_count size symbols ≡ all_entries symbols size
counted_entries size symbols = ap (λ z. size + z) (sym (sum-map (symbol_entries size) symbols))

-- a symbol has no more entries than all
pub symbol_entries-few : (size : ℕ) (symbols : List FofSymbol) (i : ℕ) (symbol : FofSymbol)
    → slice_get symbols i ≡ Some symbol → symbol_entries size symbol ≤ all_entries symbols size
symbol_entries-few size symbols i symbol at =
    let within = slice_get_within symbols i symbol at in
    let here : symbol_entries size (get_or symbols i symbol)
    ≡ symbol_entries size symbol = ap (symbol_entries size)
    (get_or_from_slice_get symbols i symbol symbol at) in
    omega (
      arith,
      get_or-le-sum_by (symbol_entries size) symbols i symbol within,
      here,
      sum-map (symbol_entries size) symbols,
    )

-- ---- faults

-- the faults of a name that is wanted
pub name_faults-wanted : (symbols : List FofSymbol) (names : List (List ℕ)) (items : List Item)
    (kind : Kind) (name : List ℕ) (i : ℕ)
    → IsWantedAt (symbol_wants symbols names) kind name (Some i)
    → name_faults (symbol_wants symbols names) items kind name
    ≡ fault_if (is_some (entries_of kind name items)) (e.Repeated name)
name_faults-wanted symbols names items kind name i at =
    ap (λ b. fault_if (not b) (e.UnknownSymbol name)
    ++ fault_if (is_some (entries_of kind name items)) (e.Repeated name)
    ++ missing_faults (first_missing (wanted_before kind (symbol_wants symbols names)) items))
    (wanted_at (symbol_wants symbols names) i kind name at)
    ∙ ap (λ wants. fault_if (is_some (entries_of kind name items)) (e.Repeated name)
    ++ missing_faults (first_missing wants items)) (none_before kind symbols names)
    ∙ append-nil (fault_if (is_some (entries_of kind name items)) (e.Repeated name))

-- what stands in the slot of what is wanted
pub slot_said : (wants : List Want) (items : List Item) (slots : List (Option (List ℕ)))
    (kind : Kind) (name : List ℕ) (i : ℕ) (slot : Option (List ℕ)) → slots ≡ slots_of wants items
    → IsWantedAt wants kind name (Some i) → slice_get slots i ≡ Some slot
    → slot ≡ entries_of kind name items
slot_said wants items slots kind name i slot slots_are at here =
    let said = ap (λ z. slice_get z i) slots_are ∙ slot_at wants items i kind name at in
    same_Some slot (entries_of kind name items) (sym here ∙ said)

-- so its slot tells the faults of its name
pub name_faults-slot : (symbols : List FofSymbol) (names : List (List ℕ)) (items : List Item)
    (slots : List (Option (List ℕ))) (kind : Kind) (name : List ℕ) (i : ℕ)
    (slot : Option (List ℕ)) → slots ≡ slots_of (symbol_wants symbols names) items
    → IsWantedAt (symbol_wants symbols names) kind name (Some i) → slice_get slots i ≡ Some slot
    → name_faults (symbol_wants symbols names) items kind name
    ≡ fault_if (is_some slot) (e.Repeated name)
name_faults-slot symbols names items slots kind name i slot slots_are at here =
    name_faults-wanted symbols names items kind name i at
    ∙ ap (λ o. fault_if (is_some o) (e.Repeated name)) (sym (slot_said (symbol_wants symbols names)
    items slots kind name i slot slots_are at here))

-- an empty slot
pub no_entries : {A : Type 0} (slot : Option A) (fault : TableError)
    → fault_if (is_some slot) fault ≡ [] → slot ≡ None
no_entries None fault none = refl
no_entries (Some entries) fault none = cc
