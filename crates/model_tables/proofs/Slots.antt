-- What items say of each constructor or symbol that wants one, with one item more.
use Rattle.std.proofs.Common.{◌≡◌, ℕ, zero, suc, ◌+◌, ◌<◌, List, [], ◌∷◌, ◌++◌, length, map, set, Option}
use Rattle.std.proofs.Common.{Some, None, Bool, true, false, ◌||◌, refl, sym, ap, ◌∙◌, subst, arith}
use Rattle.std.proofs.Common.{slice_get, get_or, is_none, cond}
use Rattle.std.specs.Prelude.{if◌then◌else◌}
use Rattle.std.specs.Option.{option_map}
use Rattle.std.proofs.lemmas.List.Sums.{sum_by-set}
use Rattle.std.proofs.lemmas.Option.{slice_get_within, slice_get-map, get_or_from_slice_get}
use Rattle.model_tables.specs.declared.form.Kind.{Kind}
use Rattle.model_tables.specs.Grammar.{Item}
use Rattle.model_tables.specs.Faults.{Want, is_of, is_wanted, entries_of}
use Rattle.model_tables.specs.Items.{entries_or_none, tables_by}
use Rattle.model_tables.specs.Held.{slots_of, empty_slots}
use Rattle.model_tables.specs.ReadUntyped.{IsWantedAt}
use Rattle.model_tables.proofs.ItemsWritten.{is_itself, found_behind}
use Rattle.model_tables.proofs.NoFaults.{is_of-same}

-- no two of them are of one kind and one name
abbrev pub AreApart : List Want → Type 0
AreApart [] = Unit {0}
AreApart (w ∷ wants) = (is_wanted w.kind w.name wants ≡ false) × AreApart wants

neither : (a b : Bool) → (a || b) ≡ false → (a ≡ false) × (b ≡ false)
neither true b is = cc
neither false b is = (refl, is)

-- the test goes both ways
is_of-turned : (k : Kind) (n : List ℕ) (other : Kind) (name : List ℕ) → is_of k n other name ≡ false
    → is_of other name k n ≡ false
is_of-turned k n other name differ = by (is_of other name k n) refl
  where
    by : (t : Bool) → is_of other name k n ≡ t → t ≡ false
    by false is = refl
    by true is =
        let equal = is_of-same other name k n is in
        let yes : is_of k n other name ≡ true =
        ap (λ z. is_of z n other name) (sym equal.0)
        ∙ ap (λ z. is_of other z other name) (sym equal.1) ∙ is_itself other name in
        cc

-- what stands at a place is wanted
pub wanted_at : (wants : List Want) (i : ℕ) (kind : Kind) (name : List ℕ)
    → IsWantedAt wants kind name (Some i) → is_wanted kind name wants ≡ true
wanted_at [] i kind name at = cc
wanted_at (w ∷ wants) zero kind name at =
    let here : w ≡ record { kind = kind; name = name } = cc in
    ap (λ (z : Want). is_of kind name z.kind z.name || is_wanted kind name wants) here
    ∙ ap (λ b. b || is_wanted kind name wants) (is_itself kind name)
wanted_at (w ∷ wants) (suc i) kind name at =
    by (is_of kind name w.kind w.name) (wanted_at wants i kind name at)
  where
    by : (t : Bool) → is_wanted kind name wants ≡ true → (t || is_wanted kind name wants) ≡ true
    by true is = refl
    by false is = is

-- its slot is what the items say of it
pub slot_at : (wants : List Want) (items : List Item) (i : ℕ) (kind : Kind) (name : List ℕ)
    → IsWantedAt wants kind name (Some i)
    → slice_get (slots_of wants items) i ≡ Some (entries_of kind name items)
slot_at wants items i kind name at =
    slice_get-map (λ (w : Want). entries_of w.kind w.name items) wants i
    ∙ ap (λ (o : Option Want). option_map
    (λ (w : Want). entries_of w.kind w.name items) o) at

-- an item of another kind or name says nothing of it
entries_of-other : (kind : Kind) (name : List ℕ) (items : List Item) (it : Item)
    → is_of kind name it.kind it.name ≡ false
    → entries_of kind name (items ++ it ∷ []) ≡ entries_of kind name items
entries_of-other kind name [] it differ =
    ap (λ t. if t then Some it.entries else None) differ
entries_of-other kind name (first ∷ items) it differ =
    ap (λ o. if is_of kind name first.kind first.name then Some first.entries else o)
    (entries_of-other kind name items it differ)

-- the first item of the kind and the name says its entries
entries_of-new : (items : List Item) (it : Item) → entries_of it.kind it.name items ≡ None
    → entries_of it.kind it.name (items ++ it ∷ []) ≡ Some it.entries
entries_of-new items it none =
    found_behind it.kind it.name items (it ∷ []) none
    ∙ ap (λ t. if t then Some it.entries else None) (is_itself it.kind it.name)

-- an item that none of them wants
pub slots_of-other : (wants : List Want) (items : List Item) (it : Item)
    → is_wanted it.kind it.name wants ≡ false
    → slots_of wants (items ++ it ∷ []) ≡ slots_of wants items
slots_of-other [] items it differ = refl
slots_of-other (w ∷ wants) items it differ =
    let parts = neither (is_of it.kind it.name w.kind w.name) (is_wanted it.kind it.name wants) differ in
    let first = entries_of-other w.kind w.name items it
    (is_of-turned it.kind it.name w.kind w.name parts.0) in
    ap (λ o. o ∷ slots_of wants (items ++ it ∷ [])) first
    ∙ ap (λ z. entries_of w.kind w.name items ∷ z) (slots_of-other wants items it parts.1)

-- an item of the one at a place, which has none before
pub slots_of-more : (wants : List Want) (items : List Item) (it : Item) (i : ℕ) → AreApart wants
    → IsWantedAt wants it.kind it.name (Some i) → entries_of it.kind it.name items ≡ None
    → slots_of wants (items ++ it ∷ []) ≡ set (slots_of wants items) i (Some it.entries)
slots_of-more [] items it i apart at none = cc
slots_of-more (w ∷ wants) items it zero apart at none =
    let here : w ≡ record { kind = it.kind; name = it.name } = cc in
    let other : is_wanted it.kind it.name wants ≡ false =
    subst (λ (z : Want). is_wanted z.kind z.name wants ≡ false) here apart.0 in
    let first : entries_of w.kind w.name (items ++ it ∷ []) ≡ Some it.entries =
    ap (λ (z : Want). entries_of z.kind z.name (items ++ it ∷ [])) here
    ∙ entries_of-new items it none in
    ap (λ o. o ∷ slots_of wants (items ++ it ∷ [])) first
    ∙ ap (λ z. Some it.entries ∷ z) (slots_of-other wants items it other)
slots_of-more (w ∷ wants) items it (suc i) apart at none =
    let differ : is_of w.kind w.name it.kind it.name ≡ false =
    by (is_of w.kind w.name it.kind it.name) refl in
    ap (λ o. o ∷ slots_of wants (items ++ it ∷ [])) (entries_of-other w.kind w.name items it differ)
    ∙ ap (λ z. entries_of w.kind w.name items ∷ z) (slots_of-more wants items it i apart.1 at none)
  where
    by : (t : Bool) → is_of w.kind w.name it.kind it.name ≡ t → t ≡ false
    by false is = refl
    by true is =
        let equal = is_of-same w.kind w.name it.kind it.name is in
        let there : is_wanted w.kind w.name wants ≡ true =
        ap (λ z. is_wanted z w.name wants) equal.0 ∙ ap (λ z. is_wanted it.kind z wants) equal.1
        ∙ wanted_at wants i it.kind it.name at in
        cc

-- a slot that is filled is one fewer that is empty
pub empty_slots-fewer : (slots : List (Option (List ℕ))) (i : ℕ) (entries : List ℕ)
    → slice_get slots i ≡ Some None → empty_slots (set slots i (Some entries)) < empty_slots slots
empty_slots-fewer slots i entries empty =
    let count : Option (List ℕ) → ℕ = λ o. cond (is_none o) 1 0 in
    let within = slice_get_within slots i None empty in
    let here = get_or_from_slice_get slots i None None empty in
    let one : count (get_or slots i None) ≡ 1 = ap count here in
    omega (arith, sum_by-set count slots i (Some entries) None within, one)

-- the tables are the entries in the slots
pub tables_of_slots : (wants : List Want) (items : List Item)
    → map entries_or_none (slots_of wants items) ≡ tables_by wants items
tables_of_slots [] items = refl
tables_of_slots (w ∷ wants) items =
    ap (λ z. entries_or_none (entries_of w.kind w.name items) ∷ z) (tables_of_slots wants items)
