-- Where the answer goes on from the checks of a typed table.
use Rattle.std.proofs.Common.{◌≡◌, ◌≢◌, ℕ, ◌+◌, ◌≤◌, ◌<◌, List, [], ◌∷◌, ◌++◌, length, Option, Some, None}
use Rattle.std.proofs.Common.{Result, Ok, Err, Bool, true, false, refl, sym, ap, ◌∙◌, subst, arith}
use Rattle.std.proofs.Common.{is_some, not, slice_get, ◌||◌, OnOk}
use Rattle.tptp_words.specs.Scanning.{Left}
use Rattle.std.proofs.lemmas.List.{length-map}
use Rattle.std.proofs.lemmas.Option.{slice_get_within}
use Rattle.tf_core.specs.declared.signature.Constructor.{Constructor}
use Rattle.tf_core.specs.declared.signature.Symbol.{Symbol}
use Rattle.tf_core.specs.declared.signature.Signature.{Signature}
use Rattle.model_tables.specs.declared.error.TableError.{TableError}
use Rattle.model_tables.specs.declared.error.TableError.TheVariants as e
use Rattle.model_tables.specs.declared.form.Kind.{Kind}
use Rattle.model_tables.specs.declared.form.Kind.TheVariants as kind
use Rattle.model_tables.specs.declared.partial.Partial.{Partial}
use Rattle.model_tables.specs.Grammar.{Item, Table}
use Rattle.model_tables.specs.Places.{Place, AtSizesEnd, AtName, AtItemEnd}
use Rattle.model_tables.specs.Faults.{Asked, same_kind, is_wanted, entries_of, first_missing, fault_if}
use Rattle.model_tables.specs.Faults.{constructors_among, wanted_before}
use Rattle.model_tables.specs.Faults.{missing_faults, name_faults, limit_faults, faults}
use Rattle.model_tables.specs.Steps.{Stands, table_at, with_item, with_no_items, unless_missing}
use Rattle.model_tables.specs.Steps.{answer_at_end}
use Rattle.model_tables.specs.Leads.{lead, arrive, GoesOn}
use Rattle.model_tables.specs.Held.{IsPlace}
use Rattle.model_tables.specs.Checks.{first_fault, Checks}
use Rattle.model_tables.specs.Typed.{typed, constructor_wants, symbol_wants, constructor_entries}
use Rattle.model_tables.specs.Writable.{constructor_names, symbol_names}
use Rattle.model_tables.specs.Marks.{first_unmarked, missing_among}
use Rattle.model_tables.specs.ReadTyped.{Answer, IsSaid, IsReading, IsRead, IsPart, TakesItem}
use Rattle.model_tables.proofs.Checked.{unless-none, unless-some, both_none, first_fault-front}
use Rattle.model_tables.proofs.Checked.{first_fault-behind}
use Rattle.model_tables.proofs.Answered.{none_missing, missing_right, missing_wrong}
use Rattle.model_tables.proofs.MarkedNames.{wants_named, constructors_named, symbols_named, missing_named}
use Rattle.model_tables.proofs.MarkedNames.{missing_both, missing_first, wanted_both, wanted_at}
use Rattle.model_tables.proofs.MarkedNames.{wanted_nowhere, wanted_other, constructors_first}
use Rattle.model_tables.proofs.MarkedNames.{first_unmarked-some}
use Rattle.model_tables.proofs.PartFacts.{constructor_mark, symbol_mark}

-- ---- the answer from a place on, by a check of its faults

module _ (asked : Asked) (total : ℕ) (whole : Answer) (place : Place) (left : Left)
    (goes : whole ≡ arrive asked total (Stands place) left)
  where
    pub goes_clean : faults asked place ≡ [] → whole ≡ lead asked total (Stands place) left
    goes_clean none =
        goes ∙ unless-none (faults asked place) (lead asked total (Stands place) left) none

    pub goes_refused : (fault : TableError) → first_fault (faults asked place) ≡ Some fault
        → whole ≡ Err fault
    goes_refused fault is =
        goes ∙ unless-some (faults asked place) (lead asked total (Stands place) left) fault is

-- behind the sizes, where no item is read
pub reading_first : (g : Signature) (total : ℕ) (whole : Answer) (sizes : List ℕ) (left : Left)
    (part : Partial) → whole ≡ arrive (typed g) total (Stands (AtSizesEnd sizes)) left
    → limit_faults (constructor_entries g sizes) ≡ [] → IsSaid g (with_no_items sizes) part
    → IsReading g total whole left part
reading_first g total whole sizes left part goes none said = record {
  state = Stands (AtSizesEnd sizes);
  before = with_no_items sizes;
  at = refl;
  said = said;
  goes = goes_clean (typed g) total whole (AtSizesEnd sizes) left goes none;
}

-- an item whose end is checked
pub item_taken : (g : Signature) (total : ℕ) (whole : Answer) (before : Table) (it : Item) (left : Left)
    (part : Partial) (r : Result (Unit {0}) TableError)
    → whole ≡ arrive (typed g) total (Stands (AtItemEnd before it)) left
    → TakesItem g before it part r → GoesOn whole r (IsReading g total whole left part)
item_taken g total whole before it left part (Ok u) goes takes = record {
  state = Stands (AtItemEnd before it);
  before = with_item before it;
  at = refl;
  said = takes.said;
  goes = goes_clean (typed g) total whole (AtItemEnd before it) left goes takes.checks;
}
item_taken g total whole before it left part (Err fault) goes takes = λ some.
    goes_refused (typed g) total whole (AtItemEnd before it) left goes fault (takes.checks some)

-- ---- the faults of a name

wants_of : (g : Signature)
    → constructor_wants g ++ symbol_wants g
    ≡ wants_named kind.Constructor (constructor_names g) ++ wants_named kind.Symbol (symbol_names g)
wants_of g =
    ap (λ z. z ++ symbol_wants g) (constructors_named g.constructors)
    ∙ ap (λ z. wants_named kind.Constructor (constructor_names g) ++ z) (symbols_named g.symbols)

or_none : (b : Bool) → (b || false) ≡ b
or_none true = refl
or_none false = refl

wanted_place : (k : Kind) (names : List (List ℕ)) (name : List ℕ) (place : Option ℕ)
    → IsPlace names name place → is_wanted k name (wants_named k names) ≡ is_some place
wanted_place k names name None nowhere = wanted_nowhere k names name nowhere
wanted_place k names name (Some i) at = wanted_at k names i name at

module _ (g : Signature) (name : List ℕ) (place : Option ℕ) where
  constructor_wanted : IsPlace (constructor_names g) name place
      → is_wanted kind.Constructor name (constructor_wants g ++ symbol_wants g) ≡ is_some place
  constructor_wanted is =
      ap (is_wanted kind.Constructor name) (wants_of g)
      ∙ wanted_both kind.Constructor name (wants_named kind.Constructor (constructor_names g))
      (wants_named kind.Symbol (symbol_names g))
      ∙ ap (λ b. is_wanted kind.Constructor name (wants_named kind.Constructor (constructor_names g))
      || b) (wanted_other kind.Constructor kind.Symbol (symbol_names g) name refl)
      ∙ or_none (is_wanted kind.Constructor name (wants_named kind.Constructor (constructor_names g)))
      ∙ wanted_place kind.Constructor (constructor_names g) name place is

  symbol_wanted : IsPlace (symbol_names g) name place
      → is_wanted kind.Symbol name (constructor_wants g ++ symbol_wants g) ≡ is_some place
  symbol_wanted is =
      ap (is_wanted kind.Symbol name) (wants_of g)
      ∙ wanted_both kind.Symbol name (wants_named kind.Constructor (constructor_names g))
      (wants_named kind.Symbol (symbol_names g))
      ∙ ap (λ b. b || is_wanted kind.Symbol name (wants_named kind.Symbol (symbol_names g)))
      (wanted_other kind.Symbol kind.Constructor (constructor_names g) name refl)
      ∙ wanted_place kind.Symbol (symbol_names g) name place is

-- no constructor and no symbol has an item of another kind
pub other_unknown : (g : Signature) (items : List Item) (k : Kind) (name : List ℕ)
    → same_kind k kind.Constructor ≡ false → same_kind k kind.Symbol ≡ false
    → first_fault (name_faults (constructor_wants g ++ symbol_wants g) items k name)
    ≡ Some (e.UnknownSymbol name)
other_unknown g items k name one other =
    let unknown : is_wanted k name (constructor_wants g ++ symbol_wants g) ≡ false =
    ap (is_wanted k name) (wants_of g)
    ∙ wanted_both k name (wants_named kind.Constructor (constructor_names g))
    (wants_named kind.Symbol (symbol_names g))
    ∙ ap (λ b. b || is_wanted k name (wants_named kind.Symbol (symbol_names g)))
    (wanted_other k kind.Constructor (constructor_names g) name one)
    ∙ wanted_other k kind.Symbol (symbol_names g) name other in
    ap (λ b. first_fault (fault_if (not b) (e.UnknownSymbol name)
    ++ fault_if (is_some (entries_of k name items)) (e.Repeated name)
    ++ missing_faults (first_missing (wanted_before k
    (constructor_wants g ++ symbol_wants g)) items))) unknown

-- where a name has no mark, its item is missing
pub all_marked_by : (names : List (List ℕ)) (marks : List Bool) (r : Result (Unit {0}) TableError)
    → length marks ≡ length names → (missing_among marks ≡ 0 → ⊥)
    → Checks (missing_faults (first_unmarked names marks)) r → OnOk r (missing_among marks ≡ 0)
all_marked_by names marks (Err fault) long some checks = tt
all_marked_by names marks (Ok u) long some checks =
    let more : 0 < missing_among marks = omega (arith, some) in
    let first = first_unmarked-some names marks long more in
    absurd (by first.0 (sym (ap missing_faults first.1) ∙ checks))
  where
    by : (name : List ℕ) → missing_faults (Some name) ≡ [] → ⊥
    by name none = cc

-- ---- places

-- the name at a place that is found
pub place_found : (names own : List (List ℕ)) (name : List ℕ) (place : Option ℕ) (at : ℕ)
    → names ≡ own → IsPlace names name place → place ≡ Some at → slice_get own at ≡ Some name
place_found names own name place at same is found =
    subst (IsPlace own name) found (subst (λ z. IsPlace z name place) same is)

module _ (g : Signature) (part : Partial) (is_part : IsPart g part) (at : ℕ) (name : List ℕ) where
  pub constructor_within : slice_get (constructor_names g) at ≡ Some name
      → at < length part.constructors
  constructor_within named =
      omega (
        arith,
        slice_get_within (constructor_names g) at name named,
        length-map g.constructors (λ (c : Constructor). c.name),
        is_part.constructor_marks,
      )

  pub symbol_within : slice_get (symbol_names g) at ≡ Some name → at < length part.symbols
  symbol_within named =
      omega (
        arith,
        slice_get_within (symbol_names g) at name named,
        length-map g.symbols (λ (f : Symbol). f.name),
        is_part.symbol_marks,
      )

-- ---- the faults of a name, check by check

-- the faults by whether the name is wanted, whether it has an item, and what is missing
abbrev three_faults : List ℕ → Bool → Bool → Option (List ℕ) → List TableError
three_faults name wanted repeated missing =
    fault_if (not wanted) (e.UnknownSymbol name) ++ fault_if repeated (e.Repeated name)
    ++ missing_faults missing

module _ (name : List ℕ) (repeated : Bool) (missing : Option (List ℕ)) where
  three_unknown : (wanted : Bool) (fault : TableError)
      → first_fault (fault_if (not wanted) (e.UnknownSymbol name)) ≡ Some fault
      → first_fault (three_faults name wanted repeated missing) ≡ Some fault
  three_unknown wanted fault is =
      first_fault-front (fault_if (not wanted) (e.UnknownSymbol name)
      ++ fault_if repeated (e.Repeated name)) (missing_faults missing) fault
      (first_fault-front (fault_if (not wanted) (e.UnknownSymbol name))
      (fault_if repeated (e.Repeated name)) fault is)

  three_repeated : (fault : TableError)
      → first_fault (fault_if repeated (e.Repeated name)) ≡ Some fault
      → first_fault (three_faults name true repeated missing) ≡ Some fault
  three_repeated fault is =
      first_fault-front (fault_if repeated (e.Repeated name)) (missing_faults missing) fault is

module _ (g : Signature) (before : Table) (part : Partial) (said : IsSaid g before part)
    (name : List ℕ)
  where
    abbrev pub constructor_name_faults : List TableError
    constructor_name_faults =
        name_faults (constructor_wants g ++ symbol_wants g) before.items kind.Constructor name

    abbrev pub symbol_name_faults : List TableError
    symbol_name_faults =
        name_faults (constructor_wants g ++ symbol_wants g) before.items kind.Symbol name

    pub constructor_unknown : (place : Option ℕ) (fault : TableError)
        → IsPlace (constructor_names g) name place
        → first_fault (fault_if (not (is_some place)) (e.UnknownSymbol name)) ≡ Some fault
        → first_fault constructor_name_faults ≡ Some fault
    constructor_unknown place fault at is =
        three_unknown name (is_some (entries_of kind.Constructor name before.items)) None
        (is_wanted kind.Constructor name (constructor_wants g ++ symbol_wants g)) fault
        (ap (λ b. first_fault (fault_if (not b) (e.UnknownSymbol name)))
        (constructor_wanted g name place at) ∙ is)

    pub symbol_unknown : (place : Option ℕ) (fault : TableError)
        → IsPlace (symbol_names g) name place
        → first_fault (fault_if (not (is_some place)) (e.UnknownSymbol name)) ≡ Some fault
        → first_fault symbol_name_faults ≡ Some fault
    symbol_unknown place fault at is =
        three_unknown name (is_some (entries_of kind.Symbol name before.items))
        (first_missing (constructors_among (constructor_wants g ++ symbol_wants g)) before.items)
        (is_wanted kind.Symbol name (constructor_wants g ++ symbol_wants g)) fault
        (ap (λ b. first_fault (fault_if (not b) (e.UnknownSymbol name)))
        (symbol_wanted g name place at) ∙ is)

    mark_is : (b c : Bool) (marks : Option Bool) → marks ≡ Some b → marks ≡ Some c → b ≡ c
    mark_is b c marks one other = let both : Some b ≡ Some c = sym one ∙ other in cc

    module _ (at : ℕ) (named : slice_get (constructor_names g) at ≡ Some name) (mark : Bool)
        (marked : slice_get part.constructors at ≡ Some mark)
      where
        constructor_faults : constructor_name_faults ≡ three_faults name true mark None
        constructor_faults =
            ap (λ b. three_faults name b (is_some (entries_of kind.Constructor name before.items)) None)
            (constructor_wanted g name (Some at) named)
            ∙ ap (λ b. three_faults name true b None)
            (mark_is (is_some (entries_of kind.Constructor name before.items)) mark
            (slice_get part.constructors at) (constructor_mark g before part said at name named)
            marked)

        pub constructor_repeated : (fault : TableError)
            → first_fault (fault_if mark (e.Repeated name)) ≡ Some fault
            → first_fault constructor_name_faults ≡ Some fault
        constructor_repeated fault is =
            ap first_fault constructor_faults ∙ three_repeated name mark None fault is

        pub constructor_clean : fault_if mark (e.Repeated name) ≡ [] → constructor_name_faults ≡ []
        constructor_clean none =
            constructor_faults
            ∙ both_none (fault_if mark (e.Repeated name)) [] none refl

    -- the first constructor that is missing
    missing_here : first_missing (constructors_among (constructor_wants g ++ symbol_wants g))
        before.items ≡ first_unmarked (constructor_names g) part.constructors
    missing_here =
        ap (λ z. first_missing (constructors_among z) before.items) (wants_of g)
        ∙ ap (λ z. first_missing z before.items)
        (constructors_first (constructor_names g) (symbol_names g))
        ∙ missing_named kind.Constructor (constructor_names g) before.items
        ∙ ap (first_unmarked (constructor_names g)) (sym said.constructors)

    module _ (at : ℕ) (named : slice_get (symbol_names g) at ≡ Some name) (mark : Bool)
        (marked : slice_get part.symbols at ≡ Some mark)
      where
        symbol_faults : symbol_name_faults
            ≡ three_faults name true mark (first_unmarked (constructor_names g) part.constructors)
        symbol_faults =
            ap (λ b. three_faults name b (is_some (entries_of kind.Symbol name before.items))
            (first_missing (constructors_among (constructor_wants g ++ symbol_wants g)) before.items))
            (symbol_wanted g name (Some at) named)
            ∙ ap (λ b. three_faults name true b
            (first_missing (constructors_among (constructor_wants g ++ symbol_wants g)) before.items))
            (mark_is (is_some (entries_of kind.Symbol name before.items)) mark
            (slice_get part.symbols at) (symbol_mark g before part said at name named) marked)
            ∙ ap (three_faults name true mark) missing_here

        pub symbol_repeated : (fault : TableError)
            → first_fault (fault_if mark (e.Repeated name)) ≡ Some fault
            → first_fault symbol_name_faults ≡ Some fault
        symbol_repeated fault is =
            ap first_fault symbol_faults
            ∙ three_repeated name mark (first_unmarked (constructor_names g) part.constructors) fault is

        pub symbol_missing : (fault : TableError) → fault_if mark (e.Repeated name) ≡ []
            → first_fault (missing_faults (first_unmarked (constructor_names g) part.constructors))
            ≡ Some fault
            → first_fault symbol_name_faults ≡ Some fault
        symbol_missing fault none is =
            ap first_fault symbol_faults
            ∙ first_fault-behind (fault_if mark (e.Repeated name))
            (missing_faults (first_unmarked (constructor_names g) part.constructors)) fault none is

        pub symbol_clean : fault_if mark (e.Repeated name) ≡ []
            → missing_faults (first_unmarked (constructor_names g) part.constructors) ≡ []
            → symbol_name_faults ≡ []
        symbol_clean none complete =
            symbol_faults
            ∙ both_none (fault_if mark (e.Repeated name))
            (missing_faults (first_unmarked (constructor_names g) part.constructors)) none complete

-- ---- the end of the text

module _ (g : Signature) (total : ℕ) (whole : Answer) (left : Left) (part : Partial)
    (reading : IsReading g total whole left part)
    (ends : lead (typed g) total reading.state left
    ≡ answer_at_end (typed g) total (table_at reading.state))
  where
    at_end : whole
        ≡ unless_missing reading.before
        (first_missing (constructor_wants g ++ symbol_wants g) reading.before.items)
    at_end = reading.goes ∙ ends ∙ ap (answer_at_end (typed g) total) reading.at

    constructors_missing : first_missing (constructor_wants g) reading.before.items
        ≡ first_unmarked (constructor_names g) part.constructors
    constructors_missing =
        ap (λ z. first_missing z reading.before.items) (constructors_named g.constructors)
        ∙ missing_named kind.Constructor (constructor_names g) reading.before.items
        ∙ ap (first_unmarked (constructor_names g)) (sym reading.said.constructors)

    symbols_missing : first_missing (symbol_wants g) reading.before.items
        ≡ first_unmarked (symbol_names g) part.symbols
    symbols_missing =
        ap (λ z. first_missing z reading.before.items) (symbols_named g.symbols)
        ∙ missing_named kind.Symbol (symbol_names g) reading.before.items
        ∙ ap (first_unmarked (symbol_names g)) (sym reading.said.symbols)

    pub constructor_missing : (fault : TableError)
        → first_fault (missing_faults (first_unmarked (constructor_names g) part.constructors))
        ≡ Some fault
        → whole ≡ Err fault
    constructor_missing fault is =
        at_end
        ∙ by (first_unmarked (constructor_names g) part.constructors) constructors_missing is
      where
        by : (o : Option (List ℕ)) → first_missing (constructor_wants g) reading.before.items ≡ o
            → first_fault (missing_faults o) ≡ Some fault
            → unless_missing reading.before
            (first_missing (constructor_wants g ++ symbol_wants g) reading.before.items) ≡ Err fault
        by None missing same = cc
        by (Some name) missing same =
            ap (unless_missing reading.before)
            (missing_first (constructor_wants g) (symbol_wants g) reading.before.items name missing)
            ∙ missing_wrong reading.before (Some name) fault same

    no_constructor : missing_faults (first_unmarked (constructor_names g) part.constructors) ≡ []
        → first_missing (constructor_wants g) reading.before.items ≡ None
    no_constructor clean =
        constructors_missing
        ∙ none_missing (first_unmarked (constructor_names g) part.constructors) clean

    rest_missing : missing_faults (first_unmarked (constructor_names g) part.constructors) ≡ []
        → whole ≡ unless_missing reading.before (first_unmarked (symbol_names g) part.symbols)
    rest_missing clean =
        at_end
        ∙ ap (unless_missing reading.before)
        (missing_both (constructor_wants g) (symbol_wants g) reading.before.items
        (no_constructor clean) ∙ symbols_missing)

    pub all_read : (r : Result (Unit {0}) TableError)
        → missing_faults (first_unmarked (constructor_names g) part.constructors) ≡ []
        → Checks (missing_faults (first_unmarked (symbol_names g) part.symbols)) r
        → GoesOn whole r (IsRead g whole part)
    all_read (Ok u) clean checks = record {
      table = reading.before;
      said = reading.said;
      answer = rest_missing clean
          ∙ missing_right reading.before (first_unmarked (symbol_names g) part.symbols) checks;
    }
    all_read (Err fault) clean checks = λ some.
        rest_missing clean
        ∙ missing_wrong reading.before (first_unmarked (symbol_names g) part.symbols) fault (checks some)
