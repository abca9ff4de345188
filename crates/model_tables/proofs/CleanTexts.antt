-- What a text says in which no fault stands.
use Rattle.std.proofs.Common.{◌≡◌, ℕ, List, [], ◌∷◌, ◌++◌, Option, Some, None}
use Rattle.std.proofs.Common.{Bool, true, false, refl, sym, ap, ◌∙◌, subst, arith, is_some, not}
use Rattle.std.specs.Prelude.{IsTrue, if◌then◌else◌}
use Rattle.std.specs.List.{AllByRecursion}
use Rattle.tptp_words.specs.Text.{Token, tokens}
use Rattle.tptp_phrases.specs.Phrase.{Row, empty, word, many, ◌>>=◌}
use Rattle.model_tables.specs.declared.error.TableError.{TableError}
use Rattle.model_tables.specs.declared.form.Kind.{Kind}
use Rattle.model_tables.specs.Grammar.{Item, Table, heading, item, table, closed_opening, opening}
use Rattle.model_tables.specs.Places.{AtSize, AtSizesEnd, AtName, AtItemEnd}
use Rattle.model_tables.specs.Faults.{Asked, Want, faults, name_faults, fault_if, is_wanted}
use Rattle.model_tables.specs.Faults.{entries_of}
use Rattle.model_tables.specs.Faults.{first_missing, missing_faults, wanted_before}
use Rattle.model_tables.specs.declared.error.TableError.TheVariants as e
use Rattle.model_tables.specs.Items.{OnceBehind, HaveTables, AreItems, entries_or_none, tables_by}
use Rattle.model_tables.specs.Refusals.{IsClean, Derive, Says}
use Rattle.model_tables.proofs.Said.{table_parts, one_item, no_items}

module _ (asked : Asked) (ws : List Token) (clean : IsClean asked ws []) where
  -- no fault stands at the name or at the end of an item
  abbrev pub AllClean : List ℕ → List Item → List Item → Type 0
  AllClean sizes before [] = Unit {0}
  AllClean sizes before (it ∷ items) =
      (name_faults asked.wants before it.kind it.name ≡ [])
      × (faults asked (AtItemEnd (record { sizes = sizes; items = before }) it) ≡ [])
      × AllClean sizes (before ++ it ∷ []) items

  headed : (mid rest : List Token) (it : Item) → (item asked.form).derives mid rest it
      → (next : List Token) × (heading asked.form).derives mid next (it.kind, it.name)
  unfolding ◌>>=◌ empty word many
  headed mid rest it (next, head, first, (_, _, _, (_, _, _, (_, _, _, (_, is))))) = (
    next,
    subst (λ (z : Item). (heading asked.form).derives mid next (z.kind, z.name)) (sym is)
        first,
  )

  pub clean_items : (sizes : List ℕ) (before items : List Item) (mid : List Token)
      → (table asked.form).derives ws mid (record { sizes = sizes; items = before })
      → Row (item asked.form) mid [] items → AllClean sizes before items
  clean_items sizes before [] mid derives row = tt
  clean_items sizes before (it ∷ items) mid derives (next, one, others) =
      let head = headed mid next it one in (
        clean head.0 (AtName (record { sizes = sizes; items = before }) it.kind it.name)
            (mid, derives, head.1) (omega arith),
        clean next (AtItemEnd (record { sizes = sizes; items = before }) it) (mid, derives, one)
            (omega arith),
        clean_items sizes (before ++ it ∷ []) items next
            (one_item asked.form ws mid next (record { sizes = sizes; items = before }) it derives one)
            others,
      )

  pub clean_table : (t : Table) → (table asked.form).derives ws [] t → AllClean t.sizes [] t.items
  clean_table t derives =
      let parts = table_parts asked.form ws [] t derives in
      clean_items t.sizes [] t.items parts.0 (no_items asked.form ws parts.0 t.sizes parts.1) parts.2

  pub clean_sizes : (t : Table) → (table asked.form).derives ws [] t
      → faults asked (AtSizesEnd t.sizes) ≡ []
  clean_sizes t derives =
      let parts = table_parts asked.form ws [] t derives in
      clean parts.0 (AtSizesEnd t.sizes) parts.1 (omega arith)

  opened : (mid : List Token) (sizes : List ℕ) → (closed_opening asked.form).derives ws mid sizes
      → (next : List Token) × (opening asked.form).derives ws next sizes
  unfolding ◌>>=◌ empty word
  opened mid sizes (next, ns, first, (last, a, dot, (same, is))) =
      (next, subst (λ z. (opening asked.form).derives ws next z) (sym is) first)

  pub sizes_opened : (t : Table) → (table asked.form).derives ws [] t
      → (next : List Token) × (opening asked.form).derives ws next t.sizes
  sizes_opened t derives =
      let parts = table_parts asked.form ws [] t derives in opened parts.0 t.sizes parts.1

  pub clean_size : (t : Table) → (table asked.form).derives ws [] t
      → faults asked (AtSize t.sizes) ≡ []
  clean_size t derives =
      let parts = table_parts asked.form ws [] t derives in
      let first = opened parts.0 t.sizes parts.1 in
      clean first.0 (AtSize t.sizes) first.1 (omega arith)

-- ---- what the faults that do not stand there say

-- three lists that make an empty one
three_none : (a b c : List TableError) → a ++ b ++ c ≡ [] → (a ≡ []) × (b ≡ []) × (c ≡ [])
three_none [] [] c none = (refl, refl, none)
three_none [] (y ∷ b) c none = cc
three_none (x ∷ a) b c none = cc

-- a fault that does not stand there
pub fault_none : (b : Bool) (fault : TableError) → fault_if b fault ≡ [] → b ≡ false
fault_none false fault none = refl
fault_none true fault none = cc

is_so : (b : Bool) → not b ≡ false → b ≡ true
is_so true e = refl
is_so false e = cc

is_none : {A : Type 0} (o : Option A) → is_some o ≡ false → o ≡ None
is_none None e = refl
is_none (Some a) e = cc

no_name : (o : Option (List ℕ)) → missing_faults o ≡ [] → o ≡ None
no_name None none = refl
no_name (Some name) none = cc

-- a name at which no fault stands is wanted, and new, and nothing is missing before it
pub name_clean : (wants : List Want) (items : List Item) (kind : Kind) (name : List ℕ)
    → name_faults wants items kind name ≡ []
    → (is_wanted kind name wants ≡ true) × (entries_of kind name items ≡ None)
    × (first_missing (wanted_before kind wants) items ≡ None)
name_clean wants items kind name none =
    let parts = three_none (fault_if (not (is_wanted kind name wants)) (e.UnknownSymbol name))
    (fault_if (is_some (entries_of kind name items)) (e.Repeated name))
    (missing_faults (first_missing (wanted_before kind wants) items)) none in (
      is_so (is_wanted kind name wants) (fault_none _ _ parts.0),
      is_none (entries_of kind name items) (fault_none _ _ parts.1),
      no_name (first_missing (wanted_before kind wants) items) parts.2,
    )

-- where none is missing, each has the table that the items give
pub have_tables : (wants : List Want) (items : List Item) → first_missing wants items ≡ None
    → HaveTables items wants (tables_by wants items)
have_tables [] items none = tt
have_tables (w ∷ wants) items none =
    by (entries_of w.kind w.name items) refl none (have_tables wants items)
  where
    by : (o : Option (List ℕ)) → entries_of w.kind w.name items ≡ o
        → (if is_some o then first_missing wants items else Some w.name) ≡ None
        → (first_missing wants items ≡ None → HaveTables items wants (tables_by wants items))
        → (entries_of w.kind w.name items ≡ Some (entries_or_none (entries_of w.kind w.name items)))
        × HaveTables items wants (tables_by wants items)
    by None is same next = cc
    by (Some entries) is same next = (is ∙ ap (λ o. Some (entries_or_none o)) (sym is), next same)

module _ (asked : Asked) (ws : List Token) (clean : IsClean asked ws []) where
  known_items : (sizes : List ℕ) (before items : List Item) → AllClean asked ws clean sizes before items
      → AllByRecursion (λ (it : Item). IsTrue (is_wanted it.kind it.name asked.wants)) items
  known_items sizes before [] all = tt
  known_items sizes before (it ∷ items) (named, ended, others) = (
    (name_clean asked.wants before it.kind it.name named).0,
    known_items sizes (before ++ it ∷ []) items others,
  )

  once_items : (sizes : List ℕ) (before items : List Item) → AllClean asked ws clean sizes before items
      → OnceBehind before items
  once_items sizes before [] all = tt
  once_items sizes before (it ∷ items) (named, ended, others) = (
    (name_clean asked.wants before it.kind it.name named).1,
    once_items sizes (before ++ it ∷ []) items others,
  )

  -- where no fault stands in a text and nothing is missing, its items are one for each
  pub are_items : (t : Table) → Derive asked ws t → first_missing asked.wants t.items ≡ None
      → AreItems asked.wants (tables_by asked.wants t.items) t.items
  are_items t derives complete =
      let all = clean_table asked ws clean t derives in
      record {
        known = known_items t.sizes [] t.items all;
        once = once_items t.sizes [] t.items all;
        each = have_tables asked.wants t.items complete;
      }

pub items_are_one_for_each : (asked : Asked) (text : List ℕ) (t : Table) → Says asked text t
    → AreItems asked.wants (tables_by asked.wants t.items) t.items
items_are_one_for_each asked text t says =
    are_items asked (tokens says.words) says.clean t says.derives says.complete
