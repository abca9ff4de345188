-- The items of a text that says a typed table: those of constructors, and behind them those of
-- symbols.
use Rattle.std.proofs.Common.{◌≡◌, ℕ, List, [], ◌∷◌, ◌++◌, ◌⊎◌, inl, inr, map, Option, Some, None}
use Rattle.std.proofs.Common.{Bool, true, false, ◌||◌, refl, sym, ap, ◌∙◌, subst, is_some}
use Rattle.std.proofs.Common.{append_assoc, append-nil}
use Rattle.std.specs.Prelude.{IsTrue, if◌then◌else◌}
use Rattle.std.specs.List.{AllByRecursion}
use Rattle.tf_core.specs.declared.signature.Constructor.{Constructor}
use Rattle.tf_core.specs.declared.signature.Symbol.{Symbol}
use Rattle.tf_core.specs.declared.signature.Signature.{Signature}
use Rattle.model_tables.specs.declared.form.Kind.{Kind}
use Rattle.model_tables.specs.declared.form.Kind.TheVariants as variant
use Rattle.model_tables.specs.Grammar.{Item, Table}
use Rattle.model_tables.specs.Faults.{Want, is_of, is_wanted, entries_of, first_missing}
use Rattle.model_tables.specs.Faults.{constructors_among, wanted_before}
use Rattle.model_tables.specs.Items.{OnceBehind, HaveTables, AreItems, tables_by}
use Rattle.model_tables.specs.Typed.{typed, constructor_want, symbol_want, constructor_wants}
use Rattle.model_tables.specs.Typed.{symbol_wants}
use Rattle.model_tables.specs.Refusals.{Says}
use Rattle.model_tables.proofs.CleanTexts.{name_clean, have_tables, items_are_one_for_each}
use Rattle.model_tables.proofs.ItemsWritten.{NoneOf, found_behind}
use Rattle.model_tables.proofs.OneStructure.{no_symbols}
use Rattle.model_tables.proofs.NoFaults.{is_of-same}
use Rattle.model_tables.proofs.Faultless.{faultless_at, none_missing_still}
use Rattle.model_tables.proofs.Faultless.{same_tables_still, none_missing_first, none_missing_last}

-- ---- what is wanted

-- the constructors among what is wanted

none_among : (symbols : List Symbol) → constructors_among (map symbol_want symbols) ≡ []
none_among [] = refl
none_among (f ∷ symbols) = none_among symbols

all_among : (constructors : List Constructor) (wants : List Want)
    → constructors_among (map constructor_want constructors ++ wants)
    ≡ map constructor_want constructors ++ constructors_among wants
all_among [] wants = refl
all_among (c ∷ constructors) wants =
    ap (λ z. constructor_want c ∷ z) (all_among constructors wants)

pub constructors_wanted : (g : Signature)
    → wanted_before variant.Symbol (constructor_wants g ++ symbol_wants g) ≡ constructor_wants g
constructors_wanted g =
    all_among g.constructors (symbol_wants g)
    ∙ ap (λ z. constructor_wants g ++ z) (none_among g.symbols)
    ∙ append-nil (constructor_wants g)

-- of what is wanted, an item is of one part or the other
wanted_in : (kind : Kind) (name : List ℕ) (wants more : List Want)
    → is_wanted kind name (wants ++ more) ≡ true
    → (is_wanted kind name wants ≡ true) ⊎ (is_wanted kind name more ≡ true)
wanted_in kind name [] more wanted = inr wanted
wanted_in kind name (w ∷ wants) more wanted =
    by (is_of kind name w.kind w.name) wanted (wanted_in kind name wants more)
  where
    by : (t : Bool) → (t || is_wanted kind name (wants ++ more)) ≡ true
        → (is_wanted kind name (wants ++ more) ≡ true
        → (is_wanted kind name wants ≡ true) ⊎ (is_wanted kind name more ≡ true))
        → ((t || is_wanted kind name wants) ≡ true) ⊎ (is_wanted kind name more ≡ true)
    by true found next = inl refl
    by false found next = next found

-- the kind of what a constructor wants, and of what a symbol does

pub constructor_kind : (constructors : List Constructor) (kind : Kind) (name : List ℕ)
    → is_wanted kind name (map constructor_want constructors) ≡ true → kind ≡ variant.Constructor
constructor_kind [] kind name wanted = cc
constructor_kind (c ∷ constructors) kind name wanted =
    by (is_of kind name variant.Constructor c.name) refl wanted
    (constructor_kind constructors kind name)
  where
    by : (t : Bool) → is_of kind name variant.Constructor c.name ≡ t
        → (t || is_wanted kind name (map constructor_want constructors)) ≡ true
        → (is_wanted kind name (map constructor_want constructors) ≡ true
        → kind ≡ variant.Constructor)
        → kind ≡ variant.Constructor
    by true is found next = (is_of-same kind name variant.Constructor c.name is).0
    by false is found next = next found

pub symbol_kind : (symbols : List Symbol) (kind : Kind) (name : List ℕ)
    → is_wanted kind name (map symbol_want symbols) ≡ true → kind ≡ variant.Symbol
symbol_kind [] kind name wanted = cc
symbol_kind (f ∷ symbols) kind name wanted =
    by (is_of kind name variant.Symbol f.name) refl wanted (symbol_kind symbols kind name)
  where
    by : (t : Bool) → is_of kind name variant.Symbol f.name ≡ t
        → (t || is_wanted kind name (map symbol_want symbols)) ≡ true
        → (is_wanted kind name (map symbol_want symbols) ≡ true → kind ≡ variant.Symbol)
        → kind ≡ variant.Symbol
    by true is found next = (is_of-same kind name variant.Symbol f.name is).0
    by false is found next = next found

-- what is wanted where none is missing has its item
not_new : (wants : List Want) (items : List Item) (kind : Kind) (name : List ℕ)
    → first_missing wants items ≡ None → is_wanted kind name wants ≡ true
    → entries_of kind name items ≡ None → ⊥
not_new [] items kind name none wanted new = cc
not_new (w ∷ wants) items kind name none wanted new =
    by (entries_of w.kind w.name items) refl none (is_of kind name w.kind w.name) refl wanted
    (not_new wants items kind name)
  where
    by : (o : Option (List ℕ)) → entries_of w.kind w.name items ≡ o
        → (if is_some o then first_missing wants items else Some w.name) ≡ None
        → (t : Bool) → is_of kind name w.kind w.name ≡ t → (t || is_wanted kind name wants) ≡ true
        → (first_missing wants items ≡ None → is_wanted kind name wants ≡ true
        → entries_of kind name items ≡ None → ⊥) → ⊥
    by None found missing t is either next = cc
    by (Some entries) found missing false is either next = next missing either new
    by (Some entries) found missing true is either next =
        let equal = is_of-same kind name w.kind w.name is in
        let own : entries_of w.kind w.name items ≡ None =
        ap (λ k. entries_of k w.name items) (sym equal.0)
        ∙ ap (λ z. entries_of kind z items) (sym equal.1) ∙ new in
        cc

-- ---- items that are split

-- each item is of one of these
abbrev pub AreKnown : List Want → List Item → Type 0
AreKnown wants items =
    AllByRecursion (λ (it : Item). IsTrue (is_wanted it.kind it.name wants)) items

-- The items behind those before them are those of constructors, after which no constructor is
-- missing, and then those of symbols.
pub record IsSplit (g : Signature) (before items : List Item) : Type 0 where
  pub types : List Item
  pub symbols : List Item
  pub is : items ≡ types ++ symbols
  pub types_known : AreKnown (constructor_wants g) types
  pub symbols_known : AreKnown (symbol_wants g) symbols
  pub complete : first_missing (constructor_wants g) (before ++ types) ≡ None

module _ (text : List ℕ) (g : Signature) (t : Table) (says : Says (typed g) text t) where
  -- nothing is at fault in the name of an item behind these
  named_at : (before more : List Item) (it : Item) → t.items ≡ before ++ it ∷ more
      → (is_wanted it.kind it.name (constructor_wants g ++ symbol_wants g) ≡ true)
      × (entries_of it.kind it.name before ≡ None)
      × (first_missing (wanted_before it.kind (constructor_wants g ++ symbol_wants g)) before
      ≡ None)
  named_at before more it split =
      name_clean (constructor_wants g ++ symbol_wants g) before it.kind it.name
      (faultless_at (typed g) text t says before more it split).named

  -- no constructor is missing before a symbol's item
  pub complete_before : (before more : List Item) (it : Item) → t.items ≡ before ++ it ∷ more
      → it.kind ≡ variant.Symbol → first_missing (constructor_wants g) before ≡ None
  complete_before before more it split is =
      ap (λ z. first_missing z before) (sym (constructors_wanted g))
      ∙ ap (λ k. first_missing (wanted_before k (constructor_wants g ++ symbol_wants g)) before)
      (sym is)
      ∙ (named_at before more it split).2

  -- behind the constructors' items there are only those of symbols
  all_symbols : (before items : List Item) → t.items ≡ before ++ items
      → first_missing (constructor_wants g) before ≡ None → AreKnown (symbol_wants g) items
  all_symbols before [] split none = tt
  all_symbols before (it ∷ items) split none =
      let named = named_at before items it split in (
        by (wanted_in it.kind it.name (constructor_wants g) (symbol_wants g) named.0) named.1,
        all_symbols (before ++ it ∷ []) items (split ∙ sym (append_assoc before (it ∷ []) items))
            (none_missing_still (constructor_wants g) before (it ∷ []) none),
      )
    where
      by : (is_wanted it.kind it.name (constructor_wants g) ≡ true)
          ⊎ (is_wanted it.kind it.name (symbol_wants g) ≡ true)
          → entries_of it.kind it.name before ≡ None
          → is_wanted it.kind it.name (symbol_wants g) ≡ true
      by (inl wanted) new =
          absurd (not_new (constructor_wants g) before it.kind it.name none wanted new)
      by (inr wanted) new = wanted

  split_behind : (before items : List Item) → t.items ≡ before ++ items → IsSplit g before items
  split_behind before [] split =
      record {
        types = [];
        symbols = [];
        is = refl;
        types_known = tt;
        symbols_known = tt;
        complete = ap (first_missing (constructor_wants g)) (sym split)
            ∙ none_missing_first (constructor_wants g) (symbol_wants g) t.items says.complete;
      }
  split_behind before (it ∷ items) split =
      by (wanted_in it.kind it.name (constructor_wants g) (symbol_wants g)
      (named_at before items it split).0)
      (split_behind (before ++ it ∷ []) items
      (split ∙ sym (append_assoc before (it ∷ []) items)))
    where
      by : (is_wanted it.kind it.name (constructor_wants g) ≡ true)
          ⊎ (is_wanted it.kind it.name (symbol_wants g) ≡ true)
          → IsSplit g (before ++ it ∷ []) items
          → IsSplit g before (it ∷ items)
      by (inl wanted) rest =
          record {
            types = it ∷ rest.types;
            symbols = rest.symbols;
            is = ap (λ z. it ∷ z) rest.is;
            types_known = (wanted, rest.types_known);
            symbols_known = rest.symbols_known;
            complete = ap (first_missing (constructor_wants g))
                (sym (append_assoc before (it ∷ []) rest.types)) ∙ rest.complete;
          }
      by (inr wanted) rest =
          let none = complete_before before items it split
          (symbol_kind g.symbols it.kind it.name wanted) in
          record {
            types = [];
            symbols = it ∷ items;
            is = refl;
            types_known = tt;
            symbols_known = all_symbols before (it ∷ items) split none;
            complete = ap (first_missing (constructor_wants g)) (append-nil before) ∙ none;
          }

  pub items_split : IsSplit g [] t.items
  items_split = split_behind [] t.items refl

-- ---- each part by itself

once_first : (earlier types symbols : List Item) → OnceBehind earlier (types ++ symbols)
    → OnceBehind earlier types
once_first earlier [] symbols once = tt
once_first earlier (it ∷ types) symbols once =
    (once.0, once_first (earlier ++ it ∷ []) types symbols once.1)

once_last : (earlier types symbols : List Item) → OnceBehind earlier (types ++ symbols)
    → OnceBehind (earlier ++ types) symbols
once_last earlier [] symbols once =
    subst (λ z. OnceBehind z symbols) (sym (append-nil earlier)) once
once_last earlier (it ∷ types) symbols once =
    subst (λ z. OnceBehind z symbols) (append_assoc earlier (it ∷ []) types)
    (once_last (earlier ++ it ∷ []) types symbols once.1)

new_last : (front items : List Item) (kind : Kind) (name : List ℕ)
    → entries_of kind name (front ++ items) ≡ None → entries_of kind name items ≡ None
new_last [] items kind name new = new
new_last (it ∷ front) items kind name new =
    by (is_of kind name it.kind it.name) new (new_last front items kind name)
  where
    by : (t : Bool)
        → (if t then Some it.entries else entries_of kind name (front ++ items)) ≡ None
        → (entries_of kind name (front ++ items) ≡ None → entries_of kind name items ≡ None)
        → entries_of kind name items ≡ None
    by true is next = cc
    by false is next = next is

once_alone : (front earlier items : List Item) → OnceBehind (front ++ earlier) items
    → OnceBehind earlier items
once_alone front earlier [] once = tt
once_alone front earlier (it ∷ items) once = (
  new_last front earlier it.kind it.name once.0,
  once_alone front (earlier ++ it ∷ []) items
      (subst (λ z. OnceBehind z items) (append_assoc front earlier (it ∷ [])) once.1),
)

-- tables of items behind others, of which none is wanted
tables_alone : (front items : List Item) (wants : List Want) (tables : List (List ℕ))
    → NoneOf wants front → HaveTables (front ++ items) wants tables → HaveTables items wants tables
tables_alone front items [] [] none have = tt
tables_alone front items [] (entries ∷ tables) none have = absurd have
tables_alone front items (w ∷ wants) [] none have = absurd have
tables_alone front items (w ∷ wants) (entries ∷ tables) none have = (
  sym (found_behind w.kind w.name front items none.0) ∙ have.0,
  tables_alone front items wants tables none.1 have.1,
)

module _ (text : List ℕ) (g : Signature) (t : Table) (says : Says (typed g) text t) where
  abbrev parts : IsSplit g [] t.items
  parts = items_split text g t says

  once : OnceBehind [] (parts.types ++ parts.symbols)
  once =
      subst (λ z. OnceBehind [] z) parts.is (items_are_one_for_each (typed g) text t says).once

  pub constructor_items : AreItems (constructor_wants g) (tables_by (constructor_wants g) t.items)
      parts.types
  constructor_items = record {
    known = parts.types_known;
    once = once_first [] parts.types parts.symbols once;
    each = subst (λ z. HaveTables parts.types (constructor_wants g) z)
        (sym (ap (tables_by (constructor_wants g)) parts.is
        ∙ same_tables_still (constructor_wants g) parts.types parts.symbols parts.complete))
        (have_tables (constructor_wants g) parts.types parts.complete);
  }

  pub symbol_items : AreItems (symbol_wants g) (tables_by (symbol_wants g) t.items) parts.symbols
  symbol_items = record {
    known = parts.symbols_known;
    once = once_alone parts.types [] parts.symbols
        (subst (λ z. OnceBehind z parts.symbols) (sym (append-nil parts.types))
        (once_last [] parts.types parts.symbols once));
    each = tables_alone parts.types parts.symbols (symbol_wants g)
        (tables_by (symbol_wants g) t.items)
        (no_symbols g.constructors g.symbols parts.types parts.types_known)
        (subst (λ z. HaveTables z (symbol_wants g) (tables_by (symbol_wants g) t.items)) parts.is
        (have_tables (symbol_wants g) t.items
        (none_missing_last (constructor_wants g) (symbol_wants g) t.items says.complete)));
  }
