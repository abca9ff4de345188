-- The items that are written are one for each constructor or symbol; and items give each of these
-- at most one table.
use Rattle.std.proofs.Common.{◌≡◌, ℕ, suc, ◌≤◌, ◌<◌, Bool, true, false, ◌&&◌, ◌||◌, List, []}
use Rattle.std.proofs.Common.{◌∷◌, ◌++◌, zero, slice_get, length, map, Some, None, refl, sym, ap, ◌∙◌, subst}
use Rattle.std.proofs.Common.{arith, append_assoc, if◌then◌else◌}
use Rattle.std.specs.Prelude.{IsTrue}
use Rattle.std.specs.List.{AllByRecursion}
use Rattle.tptp_words.specs.Words.{same}
use Rattle.fof_text.specs.Names.{AllDiffer, place_of}
use Rattle.fof_text.proofs.Places.{same_is, same_self}
use Rattle.model_tables.specs.declared.form.Kind.{Kind}
use Rattle.model_tables.specs.declared.form.Kind.TheVariants.{Constructor, Symbol, Function, Predicate}
use Rattle.model_tables.specs.Grammar.{Item}
use Rattle.model_tables.specs.Faults.{Want, same_kind, is_of, is_wanted, entries_of}
use Rattle.model_tables.specs.Items.{OnceBehind, HaveTables, AreItems}
use Rattle.model_tables.proofs.Derived.{items_of}

-- ---- names that differ

abbrev pub names_of : List Want → List (List ℕ)
names_of wants = map (λ (w : Want). w.name) wants

other_name : (a b : List ℕ) → same a b ≡ false → same b a ≡ false
other_name a b h = go (same b a) refl
  where
    go : (v : Bool) → same b a ≡ v → same b a ≡ false
    go false e = e
    go true e =
        let eq : b ≡ a = same_is b a e in
        absurd (cc (sym (same_self a) ∙ ap (same a) (sym eq) ∙ h))

-- where a name is, its place is no later
pub place_of-at : (names : List (List ℕ)) (i : ℕ) (name : List ℕ) → slice_get names i ≡ Some name
    → place_of names name < length names
place_of-at [] i name at = cc
place_of-at (n ∷ names) zero name at =
    let here : n ≡ name = cc in
    by (same name n) refl here
  where
    by : (t : Bool) → same name n ≡ t → n ≡ name
        → (if t then 0 else suc (place_of names name)) < length (n ∷ names)
    by true is here = omega arith
    by false is here =
        let yes : same name n ≡ true = ap (λ z. same name z) here ∙ same_self name in
        cc
place_of-at (n ∷ names) (suc i) name at = by (same name n) (place_of-at names i name at)
  where
    by : (t : Bool) → place_of names name < length names
        → (if t then 0 else suc (place_of names name)) < length (n ∷ names)
    by true less = omega arith
    by false less = omega arith

-- none of them has the kind and the name
abbrev pub NoneIs : Want → List Want → Type 0
NoneIs w wants = AllByRecursion (λ (v : Want). is_of v.kind v.name w.kind w.name ≡ false) wants

abbrev pub Differ : List Want → Type 0
Differ [] = Unit {0}
Differ (w ∷ wants) = NoneIs w wants × Differ wants

none_false : (v : Bool) → (v && false) ≡ false
none_false true = refl
none_false false = refl

none_is : (w : Want) (wants : List Want) → length (names_of wants) ≤ place_of (names_of wants) w.name
    → NoneIs w wants
none_is w [] h = tt
none_is w (v ∷ wants) h =
    go (same w.name v.name) refl h (none_is w wants)
  where
    go : (t : Bool) → same w.name v.name ≡ t
        → suc (length (names_of wants))
        ≤ (if t then 0 else suc (place_of (names_of wants) w.name))
        → (length (names_of wants) ≤ place_of (names_of wants) w.name → NoneIs w wants)
        → NoneIs w (v ∷ wants)
    go true e l more = absurd (omega (arith, l))
    go false e l more = (
      ap (λ t. same_kind v.kind w.kind && t) (other_name w.name v.name e)
          ∙ none_false (same_kind v.kind w.kind),
      more (omega (arith, l)),
    )

pub differ : (wants : List Want) → AllDiffer (names_of wants) → Differ wants
differ [] h = tt
differ (w ∷ wants) h = (none_is w wants h.0, differ wants h.1)

-- ---- items of what is wanted

same_itself : (k : Kind) → same_kind k k ≡ true
same_itself Constructor = refl
same_itself Symbol = refl
same_itself Function = refl
same_itself Predicate = refl

pub is_itself : (k : Kind) (n : List ℕ) → is_of k n k n ≡ true
is_itself k n =
    ap (λ t. t && same n n) (same_itself k) ∙ same_self n

all_weaker : {A : Type 0} (P Q : A → Type 0) → ((a : A) → P a → Q a) → (xs : List A)
    → AllByRecursion P xs → AllByRecursion Q xs
all_weaker P Q f [] h = tt
all_weaker P Q f (x ∷ xs) h = (f x h.0, all_weaker P Q f xs h.1)

or_second : (u v : Bool) → v ≡ true → (u || v) ≡ true
or_second true v e = refl
or_second false v e = e

abbrev Known : List Want → List Item → Type 0
Known wants items =
    AllByRecursion (λ (it : Item). IsTrue (is_wanted it.kind it.name wants)) items

known : (wants : List Want) (tables : List (List ℕ)) → Known wants (items_of wants tables)
known [] tables = tt
known (w ∷ wants) [] = tt
known (w ∷ wants) (entries ∷ tables) = (
  ap (λ t. t || is_wanted w.kind w.name wants) (is_itself w.kind w.name),
  all_weaker (λ (it : Item). IsTrue (is_wanted it.kind it.name wants))
      (λ (it : Item). IsTrue (is_wanted it.kind it.name (w ∷ wants)))
      (λ it h. or_second (is_of it.kind it.name w.kind w.name) (is_wanted it.kind it.name wants) h)
      (items_of wants tables) (known wants tables),
)

-- none of the items is of one of them
abbrev pub NoneOf : List Want → List Item → Type 0
NoneOf wants items =
    AllByRecursion (λ (w : Want). entries_of w.kind w.name items ≡ None) wants

missing_last : (kind : Kind) (name : List ℕ) (items : List Item) (it : Item)
    → entries_of kind name items ≡ None → is_of kind name it.kind it.name ≡ false
    → entries_of kind name (items ++ it ∷ []) ≡ None
missing_last kind name [] it h e = ap (λ t. if t then Some it.entries else None) e
missing_last kind name (first ∷ items) it h e =
    go (is_of kind name first.kind first.name) h (λ k. missing_last kind name items it k e)
  where
    go : (t : Bool) → (if t then Some first.entries else entries_of kind name items) ≡ None
        → (entries_of kind name items ≡ None → entries_of kind name (items ++ it ∷ []) ≡ None)
        → (if t then Some first.entries else entries_of kind name (items ++ it ∷ [])) ≡ None
    go true k more = absurd (cc k)
    go false k more = more k

none_more : (wants : List Want) (items : List Item) (w : Want) (entries : List ℕ)
    → NoneOf wants items → NoneIs w wants
    → NoneOf wants (items ++ record { kind = w.kind; name = w.name; entries = entries } ∷ [])
none_more [] items w entries h k = tt
none_more (v ∷ wants) items w entries h k = (
  missing_last v.kind v.name items (record { kind = w.kind; name = w.name; entries = entries }) h.0
      k.0,
  none_more wants items w entries h.1 k.1,
)

once : (wants : List Want) (tables : List (List ℕ)) (earlier : List Item) → Differ wants
    → NoneOf wants earlier → OnceBehind earlier (items_of wants tables)
once [] tables earlier d h = tt
once (w ∷ wants) [] earlier d h = tt
once (w ∷ wants) (entries ∷ tables) earlier d h = (
  h.0,
  once wants tables
      (earlier ++ record { kind = w.kind; name = w.name; entries = entries } ∷ []) d.1
      (none_more wants earlier w entries h.1 d.0),
)

pub found_behind : (kind : Kind) (name : List ℕ) (front items : List Item)
    → entries_of kind name front ≡ None
    → entries_of kind name (front ++ items) ≡ entries_of kind name items
found_behind kind name [] items h = refl
found_behind kind name (it ∷ front) items h =
    go (is_of kind name it.kind it.name) h (λ k. found_behind kind name front items k)
  where
    go : (t : Bool) → (if t then Some it.entries else entries_of kind name front) ≡ None
        → (entries_of kind name front ≡ None
        → entries_of kind name (front ++ items) ≡ entries_of kind name items)
        → (if t then Some it.entries else entries_of kind name (front ++ items))
        ≡ entries_of kind name items
    go true k more = absurd (cc k)
    go false k more = more k

have : (wants : List Want) (tables : List (List ℕ)) (front : List Item) → Differ wants
    → NoneOf wants front → length tables ≡ length wants
    → HaveTables (front ++ items_of wants tables) wants tables
have [] [] front d h long = tt
have [] (t ∷ tables) front d h long = absurd (omega (arith, long))
have (w ∷ wants) [] front d h long = absurd (omega (arith, long))
have (w ∷ wants) (entries ∷ tables) front d h long =
    let it : Item = record { kind = w.kind; name = w.name; entries = entries } in (
      found_behind w.kind w.name front (it ∷ items_of wants tables) h.0
          ∙ ap (λ t. if t then Some entries else entries_of w.kind w.name (items_of wants tables))
          (is_itself w.kind w.name),
      subst (λ z. HaveTables z wants tables) (append_assoc front (it ∷ []) (items_of wants tables))
          (have wants tables (front ++ it ∷ []) d.1 (none_more wants front w entries h.1 d.0)
          (omega (arith, long))),
    )

none_yet : (wants : List Want) → NoneOf wants []
none_yet [] = tt
none_yet (w ∷ wants) = (refl, none_yet wants)

pub are_items : (wants : List Want) (tables : List (List ℕ)) → AllDiffer (names_of wants)
    → length tables ≡ length wants → AreItems wants tables (items_of wants tables)
are_items wants tables h long =
    let d = differ wants h in record {
      known = known wants tables;
      once = once wants tables [] d (none_yet wants);
      each = have wants tables [] d (none_yet wants) long;
    }

-- ---- one table for each

pub one_tables : (items : List Item) (wants : List Want) (a b : List (List ℕ))
    → HaveTables items wants a → HaveTables items wants b → a ≡ b
one_tables items [] [] [] h k = refl
one_tables items [] [] (y ∷ b) h k = absurd k
one_tables items [] (x ∷ a) b h k = absurd h
one_tables items (w ∷ wants) [] b h k = absurd h
one_tables items (w ∷ wants) (x ∷ a) [] h k = absurd k
one_tables items (w ∷ wants) (x ∷ a) (y ∷ b) h k =
    let first : x ≡ y = cc (sym h.0 ∙ k.0) in
    ap (λ z. z ∷ a) first ∙ ap (λ z. y ∷ z) (one_tables items wants a b h.1 k.1)

found_first : (kind : Kind) (name : List ℕ) (items more : List Item) (entries : List ℕ)
    → entries_of kind name items ≡ Some entries
    → entries_of kind name (items ++ more) ≡ Some entries
found_first kind name [] more entries h = absurd (cc h)
found_first kind name (it ∷ items) more entries h =
    go (is_of kind name it.kind it.name) h (λ k. found_first kind name items more entries k)
  where
    go : (t : Bool) → (if t then Some it.entries else entries_of kind name items) ≡ Some entries
        → (entries_of kind name items ≡ Some entries
        → entries_of kind name (items ++ more) ≡ Some entries)
        → (if t then Some it.entries else entries_of kind name (items ++ more)) ≡ Some entries
    go true k next = k
    go false k next = next k

-- the tables stay those of items with others behind them
pub tables_first : (items more : List Item) (wants : List Want) (tables : List (List ℕ))
    → HaveTables items wants tables → HaveTables (items ++ more) wants tables
tables_first items more [] [] h = tt
tables_first items more [] (t ∷ tables) h = absurd h
tables_first items more (w ∷ wants) [] h = absurd h
tables_first items more (w ∷ wants) (t ∷ tables) h =
    (found_first w.kind w.name items more t h.0, tables_first items more wants tables h.1)

-- and before them, where none of those is of them
pub tables_behind : (front items : List Item) (wants : List Want) (tables : List (List ℕ))
    → NoneOf wants front → HaveTables items wants tables → HaveTables (front ++ items) wants tables
tables_behind front items [] [] n h = tt
tables_behind front items [] (t ∷ tables) n h = absurd h
tables_behind front items (w ∷ wants) [] n h = absurd h
tables_behind front items (w ∷ wants) (t ∷ tables) n h = (
  found_behind w.kind w.name front items n.0 ∙ h.0,
  tables_behind front items wants tables n.1 h.1,
)
