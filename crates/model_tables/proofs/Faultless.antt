-- What is so of the items of a table in whose text no fault stands.
use Rattle.std.proofs.Common.{◌≡◌, ℕ, zero, suc, ◌+◌, ◌≤◌, ◌<◌, List, [], ◌∷◌, ◌++◌, length, map}
use Rattle.std.proofs.Common.{Option, Some}
use Rattle.std.proofs.Common.{None, Bool, true, false, refl, sym, ap, ◌∙◌, subst, arith, not}
use Rattle.std.proofs.Common.{is_some}
use Rattle.std.proofs.Common.{append_assoc, append-nil, slice_index, slice_get, get_or, ◌==◌}
use Rattle.std.specs.Prelude.{if◌then◌else◌, ltb}
use Rattle.std.proofs.lemmas.Bool.{ltb-true, ltb-false, eqb-true}
use Rattle.enc_base.specs.Counts.{most_entries, in_64_bits}
use Rattle.tptp_words.specs.Text.{tokens}
use Rattle.model_tables.specs.declared.error.TableError.{TableError}
use Rattle.model_tables.specs.declared.error.TableError.TheVariants as e
use Rattle.model_tables.specs.declared.form.Kind.{Kind}
use Rattle.model_tables.specs.Grammar.{Item, Table}
use Rattle.model_tables.specs.Places.{AtItemEnd}
use Rattle.model_tables.specs.Faults.{Asked, Want, Shape, faults, is_of, entries_of, first_missing}
use Rattle.model_tables.specs.Faults.{limit_faults, name_faults}
use Rattle.model_tables.specs.Faults.{length_faults}
use Rattle.model_tables.specs.Faults.{first_over, range_faults, entry_faults}
use Rattle.model_tables.specs.Items.{HaveTables, tables_by}
use Rattle.model_tables.specs.Refusals.{Says}
use Rattle.model_tables.proofs.CleanTexts.{AllClean, clean_table, fault_none, have_tables}
use Rattle.model_tables.proofs.ItemsWritten.{tables_first}
use Rattle.model_tables.proofs.NoFaults.{is_of-same, nothing_missing, tables_given}

-- ---- entries and the limit

pub within_limit : (entries : ℕ) → limit_faults entries ≡ [] → entries ≤ most_entries
within_limit entries none =
    ltb-false most_entries entries
    (fault_none (ltb most_entries entries) (e.TooLarge (in_64_bits entries)) none)

-- There are so many entries as the shape asks, each below its bound.
pub record HasShape (shape : Shape) (entries : List ℕ) : Type 0 where
  pub count : length entries ≡ shape.count
  pub below : (i : ℕ) → i < length entries → slice_index entries i < shape.bound i

-- where no entry is over its bound, each is below it
below_bound : (bound : ℕ → ℕ) (start : ℕ) (entries : List ℕ) → first_over bound start entries ≡ None
    → (i : ℕ) → i < length entries → slice_index entries i < bound (start + i)
below_bound bound start [] none i within = absurd (omega arith)
below_bound bound start (entry ∷ entries) none i within =
    by (ltb entry (bound start)) refl none i within (below_bound bound (suc start) entries)
  where
    by : (t : Bool) → ltb entry (bound start) ≡ t
        → (if t then first_over bound (suc start) entries else Some entry) ≡ None
        → (i : ℕ) → i < length (entry ∷ entries)
        → (first_over bound (suc start) entries ≡ None
        → (j : ℕ) → j < length entries → slice_index entries j < bound (suc start + j))
        → slice_index (entry ∷ entries) i < bound (start + i)
    by false is same j less next = cc
    by true is same zero less next =
        let here : start + 0 ≡ start = omega arith in
        subst (λ z. entry < bound z) (sym here) (ltb-true entry (bound start) is)
    by true is same (suc j) less next =
        let there : suc start + j ≡ start + suc j = omega arith in
        subst (λ z. slice_index entries j < bound z) there (next same j (omega arith))

no_range : (name : List ℕ) (o : Option ℕ) → range_faults name o ≡ [] → o ≡ None
no_range name None is = refl
no_range name (Some value) is = cc

is_equal : (a b : ℕ) → not (a == b) ≡ false → a ≡ b
is_equal a b is = by (a == b) refl is
  where
    by : (t : Bool) → (a == b) ≡ t → not t ≡ false → a ≡ b
    by true same no_other = eqb-true a b same
    by false same no_other = cc

-- two lists that make an empty one
pub two_none : (a b : List TableError) → a ++ b ≡ [] → (a ≡ []) × (b ≡ [])
two_none [] b none = (refl, none)
two_none (x ∷ a) b none = cc

-- entries without a fault have their shape
pub has_shape : (shape : Shape) (it : Item) → entry_faults shape it ≡ [] → HasShape shape it.entries
has_shape shape it none =
    let parts = two_none (length_faults it.name shape.count (length it.entries))
    (range_faults it.name (first_over shape.bound 0 it.entries)) none in
    let long = is_equal shape.count (length it.entries) (fault_none _ _ parts.0) in
    let over = no_range it.name (first_over shape.bound 0 it.entries) parts.1 in
    record {
      count = sym long;
      below = λ i within.
          let same : 0 + i ≡ i = omega arith in
          subst (λ z. slice_index it.entries i < shape.bound z) same
          (below_bound shape.bound 0 it.entries over i within);
    }

-- ---- an item among others

-- No fault stands at the name and at the end of the item behind these.
pub record IsFaultless (asked : Asked) (sizes : List ℕ) (before : List Item) (it : Item) :
    Type 0 where
  pub named : name_faults asked.wants before it.kind it.name ≡ []
  pub ended : faults asked (AtItemEnd (record { sizes = sizes; items = before }) it) ≡ []

module _ (asked : Asked) (text : List ℕ) (t : Table) (says : Says asked text t) where
  faultless_behind : (earlier before more : List Item) (it : Item)
      → AllClean asked (tokens says.words) says.clean t.sizes earlier (before ++ it ∷ more)
      → IsFaultless asked t.sizes (earlier ++ before) it
  faultless_behind earlier [] more it all =
      subst (λ z. IsFaultless asked t.sizes z it) (sym (append-nil earlier))
      (record { named = all.0; ended = all.1 })
  faultless_behind earlier (first ∷ before) more it all =
      subst (λ z. IsFaultless asked t.sizes z it) (append_assoc earlier (first ∷ []) before)
      (faultless_behind (earlier ++ first ∷ []) before more it all.2)

  -- no fault stands at an item of a text that says a table
  pub faultless_at : (before more : List Item) (it : Item) → t.items ≡ before ++ it ∷ more
      → IsFaultless asked t.sizes before it
  faultless_at before more it split =
      faultless_behind [] before more it
      (subst (λ z. AllClean asked (tokens says.words) says.clean t.sizes [] z) split
      (clean_table asked (tokens says.words) says.clean t says.derives))

-- The item of a kind and a name that has these entries, among others.
pub record IsAmong (items : List Item) (it : Item) : Type 0 where
  pub before : List Item
  pub more : List Item
  pub split : items ≡ before ++ it ∷ more

-- the item that gives entries
pub found_among : (items : List Item) (kind : Kind) (name entries : List ℕ)
    → entries_of kind name items ≡ Some entries
    → IsAmong items (record { kind = kind; name = name; entries = entries })
found_among [] kind name entries found = cc
found_among (it ∷ items) kind name entries found =
    by (is_of kind name it.kind it.name) refl found (found_among items kind name entries)
  where
    by : (t : Bool) → is_of kind name it.kind it.name ≡ t
        → (if t then Some it.entries else entries_of kind name items) ≡ Some entries
        → (entries_of kind name items ≡ Some entries
        → IsAmong items (record { kind = kind; name = name; entries = entries }))
        → IsAmong (it ∷ items) (record { kind = kind; name = name; entries = entries })
    by true is same next =
        let equal = is_of-same kind name it.kind it.name is in
        let own : it.entries ≡ entries = cc in
        let first : record { kind = it.kind; name = it.name; entries = it.entries }
        ≡ record { kind = kind; name = name; entries = entries } =
        ap (λ z. record { kind = z; name = it.name; entries = it.entries }) (sym equal.0)
        ∙ ap (λ z. record { kind = kind; name = z; entries = it.entries }) (sym equal.1)
        ∙ ap (λ z. record { kind = kind; name = name; entries = z }) own in
        record { before = []; more = items; split = ap (λ z. z ∷ items) first }
    by false is same next =
        let there = next same in
        record {
          before = it ∷ there.before;
          more = there.more;
          split = ap (λ z. it ∷ z) there.split;
        }

-- ---- items with their tables

-- the table at the place of what is wanted is that of its item
pub table_at : (items : List Item) (wants : List Want) (tables : List (List ℕ)) (i : ℕ) (w : Want)
    → HaveTables items wants tables → slice_get wants i ≡ Some w
    → entries_of w.kind w.name items ≡ Some (get_or tables i [])
table_at items [] tables i w have at = cc
table_at items (v ∷ wants) [] i w have at = absurd have
table_at items (v ∷ wants) (entries ∷ tables) zero w have at =
    let here : v ≡ w = cc in
    subst (λ (z : Want). entries_of z.kind z.name items ≡ Some entries) here have.0
table_at items (v ∷ wants) (entries ∷ tables) (suc i) w have at =
    table_at items wants tables i w have.1 at

-- where none of two parts of what is wanted is missing, none of either is

pub none_missing_first : (wants more : List Want) (items : List Item)
    → first_missing (wants ++ more) items ≡ None → first_missing wants items ≡ None
none_missing_first [] more items none = refl
none_missing_first (w ∷ wants) more items none =
    by (is_some (entries_of w.kind w.name items)) none (none_missing_first wants more items)
  where
    by : (b : Bool) → (if b then first_missing (wants ++ more) items else Some w.name) ≡ None
        → (first_missing (wants ++ more) items ≡ None → first_missing wants items ≡ None)
        → (if b then first_missing wants items else Some w.name) ≡ None
    by true same next = next same
    by false same next = cc

pub none_missing_last : (wants more : List Want) (items : List Item)
    → first_missing (wants ++ more) items ≡ None → first_missing more items ≡ None
none_missing_last [] more items none = none
none_missing_last (w ∷ wants) more items none =
    by (is_some (entries_of w.kind w.name items)) none (none_missing_last wants more items)
  where
    by : (b : Bool) → (if b then first_missing (wants ++ more) items else Some w.name) ≡ None
        → (first_missing (wants ++ more) items ≡ None → first_missing more items ≡ None)
        → first_missing more items ≡ None
    by true same next = next same
    by false same next = cc

-- and the other way round
pub none_missing_both : (wants more : List Want) (items : List Item)
    → first_missing wants items ≡ None → first_missing more items ≡ None
    → first_missing (wants ++ more) items ≡ None
none_missing_both [] more items first last = last
none_missing_both (w ∷ wants) more items first last =
    by (is_some (entries_of w.kind w.name items)) first
    (λ same. none_missing_both wants more items same last)
  where
    by : (b : Bool) → (if b then first_missing wants items else Some w.name) ≡ None
        → (first_missing wants items ≡ None → first_missing (wants ++ more) items ≡ None)
        → (if b then first_missing (wants ++ more) items else Some w.name) ≡ None
    by true same next = next same
    by false same next = cc

-- where none is missing, none is with more items, and these give the same tables

pub none_missing_still : (wants : List Want) (items more : List Item)
    → first_missing wants items ≡ None → first_missing wants (items ++ more) ≡ None
none_missing_still wants items more none =
    nothing_missing wants (items ++ more) (tables_by wants items)
    (tables_first items more wants (tables_by wants items) (have_tables wants items none))

pub same_tables_still : (wants : List Want) (items more : List Item)
    → first_missing wants items ≡ None → tables_by wants (items ++ more) ≡ tables_by wants items
same_tables_still wants items more none =
    tables_given wants (items ++ more) (tables_by wants items)
    (tables_first items more wants (tables_by wants items) (have_tables wants items none))

-- each table is as long as it has to be
pub same_lengths : {A : Type 0} (count : A → ℕ) (items : List A) (lists : List (List ℕ))
    → length lists ≡ length items
    → ((i : ℕ) (item : A) → slice_get items i ≡ Some item
    → length (get_or lists i []) ≡ count item)
    → map length lists ≡ map count items
same_lengths count [] [] counted long = refl
same_lengths count [] (entries ∷ lists) counted long = absurd (omega (arith, counted))
same_lengths count (item ∷ items) [] counted long = absurd (omega (arith, counted))
same_lengths count (item ∷ items) (entries ∷ lists) counted long =
    ap (λ z. z ∷ map length lists) (long 0 item refl)
    ∙ ap (λ z. count item ∷ z)
    (same_lengths count items lists (omega (arith, counted)) (λ i. long (suc i)))
