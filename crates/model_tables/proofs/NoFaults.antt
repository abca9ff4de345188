-- When no fault stands at a part of a table, and what the items of a table are then.
use Rattle.std.proofs.Common.{◌≡◌, ℕ, suc, ◌+◌, ◌≤◌, ◌<◌, List, [], ◌∷◌, ◌++◌, length, Option, Some}
use Rattle.std.proofs.Common.{None, Bool, true, false, refl, sym, ap, ◌∙◌, subst, arith, not}
use Rattle.std.proofs.Common.{is_some}
use Rattle.std.proofs.Common.{append_assoc, append-nil, slice_index, ◌==◌, ◌&&◌}
use Rattle.std.specs.Prelude.{if◌then◌else◌}
use Rattle.std.specs.List.{AllByRecursion, list_any}
use Rattle.std.proofs.lemmas.Bool.{lt-ltb, le-ltb, eq-eqb}
use Rattle.enc_base.specs.Counts.{most_entries, in_64_bits}
use Rattle.fof_text.proofs.Places.{same_is}
use Rattle.model_tables.specs.declared.error.TableError.TheVariants as e
use Rattle.model_tables.specs.declared.form.Form.{Form}
use Rattle.model_tables.specs.declared.form.Kind.{Kind}
use Rattle.model_tables.specs.declared.form.Kind.TheVariants.{Constructor, Symbol, Function}
use Rattle.model_tables.specs.declared.form.Kind.TheVariants.{Predicate}
use Rattle.model_tables.specs.Grammar.{Item, size_word}
use Rattle.model_tables.specs.Faults.{Want, Shape, same_kind, is_of, is_wanted, entries_of}
use Rattle.model_tables.specs.Faults.{first_missing}
use Rattle.model_tables.specs.Faults.{wanted_before, fault_if, limit_faults}
use Rattle.model_tables.specs.Faults.{size_faults, missing_faults, name_faults, length_faults}
use Rattle.model_tables.specs.Faults.{first_over}
use Rattle.model_tables.specs.Faults.{range_faults, entry_faults}
use Rattle.model_tables.specs.Items.{OnceBehind, HaveTables, entries_or_none, tables_by}
use Rattle.model_tables.proofs.ItemsWritten.{is_itself, found_behind}

-- ---- kinds and names that are the same

pub same_kind-true : (a b : Kind) → same_kind a b ≡ true → a ≡ b
same_kind-true Constructor Constructor is = refl
same_kind-true Symbol Symbol is = refl
same_kind-true Function Function is = refl
same_kind-true Predicate Predicate is = refl
same_kind-true _ _ is = cc

both : (a b : Bool) → (a && b) ≡ true → (a ≡ true) × (b ≡ true)
both true b is = (refl, is)
both false b is = cc

pub is_of-same : (kind : Kind) (name : List ℕ) (other : Kind) (n : List ℕ)
    → is_of kind name other n ≡ true → (kind ≡ other) × (name ≡ n)
is_of-same kind name other n is =
    let parts = both _ _ is in (same_kind-true kind other parts.0, same_is name n parts.1)

-- ---- sizes and the limit

pub no_size_faults : (form : Form) (sizes : List ℕ) → list_any (λ n. n == 0) sizes ≡ false
    → size_faults form sizes ≡ []
no_size_faults form sizes is = ap (λ b. fault_if b (e.OutOfRange (size_word form) 0)) is

pub no_limit_faults : (entries : ℕ) → entries ≤ most_entries → limit_faults entries ≡ []
no_limit_faults entries within =
    ap (λ b. fault_if b (e.TooLarge (in_64_bits entries))) (le-ltb most_entries entries within)

-- ---- names

-- a name that is wanted, and new, where nothing is missing that has to be there before
pub no_name_faults : (wants : List Want) (items : List Item) (kind : Kind) (name : List ℕ)
    → is_wanted kind name wants ≡ true → entries_of kind name items ≡ None
    → first_missing (wanted_before kind wants) items ≡ None → name_faults wants items kind name ≡ []
no_name_faults wants items kind name wanted new complete =
    ap (λ b. fault_if (not b) (e.UnknownSymbol name)
    ++ fault_if (is_some (entries_of kind name items)) (e.Repeated name)
    ++ missing_faults (first_missing (wanted_before kind wants) items)) wanted
    ∙ ap (λ (o : Option (List ℕ)). fault_if (is_some o) (e.Repeated name)
    ++ missing_faults (first_missing (wanted_before kind wants) items)) new
    ∙ ap missing_faults complete

-- ---- entries

none_over : (bound : ℕ → ℕ) (start : ℕ) (entries : List ℕ)
    → ((i : ℕ) → i < length entries → slice_index entries i < bound (start + i))
    → first_over bound start entries ≡ None
none_over bound start [] below = refl
none_over bound start (entry ∷ entries) below =
    let first : start + 0 ≡ start = omega arith in
    let here : entry < bound start =
    subst (λ z. entry < bound z) first (below 0 (omega arith)) in
    ap (λ t. if t then first_over bound (suc start) entries else Some entry)
    (lt-ltb entry (bound start) here)
    ∙ none_over bound (suc start) entries (λ i less.
    let next : start + suc i ≡ suc start + i = omega arith in
    subst (λ z. slice_index entries i < bound z) next (below (suc i) (omega (arith, less))))

-- so many entries as there have to be, each below its bound
pub no_entry_faults : (shape : Shape) (it : Item) → length it.entries ≡ shape.count
    → ((i : ℕ) → i < length it.entries → slice_index it.entries i < shape.bound i)
    → entry_faults shape it ≡ []
no_entry_faults shape it long below =
    ap (λ n. length_faults it.name shape.count n
    ++ range_faults it.name (first_over shape.bound 0 it.entries)) long
    ∙ ap (λ b. fault_if (not b) (e.WrongLength it.name shape.count shape.count)
    ++ range_faults it.name (first_over shape.bound 0 it.entries))
    (eq-eqb shape.count shape.count refl)
    ∙ ap (range_faults it.name) (none_over shape.bound 0 it.entries (λ i less.
    let same : i ≡ 0 + i = omega arith in
    subst (λ z. slice_index it.entries i < shape.bound z) same (below i less)))

-- ---- an item among others

-- what holds of all items holds of this one
pub all_at : (P : Item → Type 0) (before more : List Item) (it : Item)
    → AllByRecursion P (before ++ it ∷ more) → P it
all_at P [] more it all = all.0
all_at P (first ∷ before) more it all = all_at P before more it all.1

new_behind : (earlier before more : List Item) (it : Item)
    → OnceBehind earlier (before ++ it ∷ more)
    → entries_of it.kind it.name (earlier ++ before) ≡ None
new_behind earlier [] more it once =
    subst (λ z. entries_of it.kind it.name z ≡ None) (sym (append-nil earlier)) once.0
new_behind earlier (first ∷ before) more it once =
    subst (λ z. entries_of it.kind it.name z ≡ None) (append_assoc earlier (first ∷ []) before)
    (new_behind (earlier ++ first ∷ []) before more it once.1)

-- an item is of the kind and the name of no earlier one
pub new_at : (before more : List Item) (it : Item) → OnceBehind [] (before ++ it ∷ more)
    → entries_of it.kind it.name before ≡ None
new_at before more it once = new_behind [] before more it once

-- so its entries are those for its kind and its name
pub found_at : (before more : List Item) (it : Item) → OnceBehind [] (before ++ it ∷ more)
    → entries_of it.kind it.name (before ++ it ∷ more) ≡ Some it.entries
found_at before more it once =
    found_behind it.kind it.name before (it ∷ more) (new_at before more it once)
    ∙ ap (λ t. if t then Some it.entries else entries_of it.kind it.name more)
    (is_itself it.kind it.name)

-- ---- items with their tables

-- where each has its table, none is missing
pub nothing_missing : (wants : List Want) (items : List Item) (tables : List (List ℕ))
    → HaveTables items wants tables → first_missing wants items ≡ None
nothing_missing [] items tables have = refl
nothing_missing (w ∷ wants) items [] have = absurd have
nothing_missing (w ∷ wants) items (entries ∷ tables) have =
    ap (λ o. if is_some o then first_missing wants items else Some w.name) have.0
    ∙ nothing_missing wants items tables have.1

-- and the tables are those that the items give
pub tables_given : (wants : List Want) (items : List Item) (tables : List (List ℕ))
    → HaveTables items wants tables → tables_by wants items ≡ tables
tables_given [] items [] have = refl
tables_given [] items (entries ∷ tables) have = absurd have
tables_given (w ∷ wants) items [] have = absurd have
tables_given (w ∷ wants) items (entries ∷ tables) have =
    ap (λ o. entries_or_none o ∷ tables_by wants items) have.0
    ∙ ap (λ z. entries ∷ z) (tables_given wants items tables have.1)
