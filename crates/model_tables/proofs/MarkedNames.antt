-- What items say of names of a kind, with one item more, and marks of names.
use Rattle.std.proofs.Common.{◌≡◌, ℕ, zero, suc, ◌+◌, ◌≤◌, ◌<◌, List, [], ◌∷◌, ◌++◌, length, map, Option}
use Rattle.std.proofs.Common.{Some, None, Bool, true, false, refl, sym, ap, ◌∙◌, subst, arith, is_some}
use Rattle.std.proofs.Common.{◌&&◌, ◌||◌, slice_get, set, replicate, drop}
use Rattle.std.specs.Prelude.{if◌then◌else◌}
use Rattle.tptp_words.specs.Words.{same}
use Rattle.fof_text.specs.Names.{AllDiffer, place_of}
use Rattle.fof_text.proofs.Places.{same_is, same_self}
use Rattle.tf_core.specs.declared.signature.Constructor.{Constructor}
use Rattle.tf_core.specs.declared.signature.Symbol.{Symbol}
use Rattle.model_tables.specs.declared.form.Kind.{Kind}
use Rattle.model_tables.specs.declared.form.Kind.TheVariants as kind
use Rattle.model_tables.specs.Grammar.{Item}
use Rattle.model_tables.specs.Faults.{Want, same_kind, is_of, is_wanted, entries_of, first_missing}
use Rattle.model_tables.specs.Faults.{constructors_among}
use Rattle.model_tables.specs.Items.{entries_or_none, tables_by}
use Rattle.model_tables.specs.Typed.{constructor_want, symbol_want}
use Rattle.model_tables.specs.Marks.{looked_up, marks_of, missing_among, first_unmarked}

-- ---- an item more

same_kind-self : (k : Kind) → same_kind k k ≡ true
same_kind-self kind.Constructor = refl
same_kind-self kind.Symbol = refl
same_kind-self kind.Function = refl
same_kind-self kind.Predicate = refl

-- an item of another kind or name
entries_of-kept : (k : Kind) (name : List ℕ) (items : List Item) (it : Item)
    → is_of k name it.kind it.name ≡ false
    → entries_of k name (items ++ it ∷ []) ≡ entries_of k name items
entries_of-kept k name [] it other = ap (λ t. if t then Some it.entries else None) other
entries_of-kept k name (first ∷ items) it other =
    ap (λ o. if is_of k name first.kind first.name then Some first.entries else o)
    (entries_of-kept k name items it other)

-- the first item of its kind and name
entries_of-new : (k : Kind) (name : List ℕ) (items : List Item) (it : Item)
    → entries_of k name items ≡ None → is_of k name it.kind it.name ≡ true
    → entries_of k name (items ++ it ∷ []) ≡ Some it.entries
entries_of-new k name [] it none own = ap (λ t. if t then Some it.entries else None) own
entries_of-new k name (first ∷ items) it none own =
    by (is_of k name first.kind first.name) none (λ n. entries_of-new k name items it n own)
  where
    by : (t : Bool) → (if t then Some first.entries else entries_of k name items) ≡ None
        → (entries_of k name items ≡ None → entries_of k name (items ++ it ∷ []) ≡ Some it.entries)
        → (if t then Some first.entries else entries_of k name (items ++ it ∷ [])) ≡ Some it.entries
    by true is next = cc
    by false is next = next is

-- ---- names that differ

pub same_other : (a b : List ℕ) → same a b ≡ false → same b a ≡ false
same_other a b other = by (same b a) refl
  where
    by : (t : Bool) → same b a ≡ t → t ≡ false
    by false is = refl
    by true is =
        let equal = same_is b a is in
        let own : same a b ≡ true = ap (same a) equal ∙ same_self a in
        cc

-- a name that stands behind another is another one
pub not_behind : (names : List (List ℕ)) (n : List ℕ) (j : ℕ) (m : List ℕ)
    → length names ≤ place_of names n → slice_get names j ≡ Some m → same n m ≡ false
not_behind [] n j m none at = cc
not_behind (x ∷ names) n zero m none at =
    let here : x ≡ m = cc in
    subst (λ z. same n z ≡ false) here (by (same n x) refl none)
  where
    by : (t : Bool) → same n x ≡ t
        → length (x ∷ names) ≤ (if t then 0 else suc (place_of names n)) → t ≡ false
    by true is all = absurd (omega arith)
    by false is all = refl
not_behind (x ∷ names) n (suc j) m none at =
    by (same n x) none (λ l. not_behind names n j m l at)
  where
    by : (t : Bool) → length (x ∷ names) ≤ (if t then 0 else suc (place_of names n))
        → (length names ≤ place_of names n → same n m ≡ false) → same n m ≡ false
    by true all next = absurd (omega arith)
    by false all next = next (omega arith)

and_false : (t : Bool) → (t && false) ≡ false
and_false true = refl
and_false false = refl

other_name : (k : Kind) (m name : List ℕ) → same m name ≡ false → is_of k m k name ≡ false
other_name k m name other = ap (λ t. same_kind k k && t) other ∙ and_false (same_kind k k)

own_name : (k : Kind) (m name : List ℕ) → m ≡ name → is_of k m k name ≡ true
own_name k m name same_name =
    ap (λ z. is_of k z k name) same_name
    ∙ ap (λ t. t && same name name) (same_kind-self k) ∙ same_self name

-- ---- what is said of names

module _ {B : Type 0} (f : Option (List ℕ) → B) (k : Kind) where
  kept_all : (names : List (List ℕ)) (items : List Item) (it : Item)
      → ((j : ℕ) (m : List ℕ) → slice_get names j ≡ Some m → is_of k m it.kind it.name ≡ false)
      → looked_up f k names (items ++ it ∷ []) ≡ looked_up f k names items
  kept_all [] items it others = refl
  kept_all (n ∷ names) items it others =
      ap (λ o. f o ∷ looked_up f k names (items ++ it ∷ []))
      (entries_of-kept k n items it (others 0 n refl))
      ∙ ap (λ z. f (entries_of k n items) ∷ z) (kept_all names items it (λ j. others (suc j)))

  -- an item of another kind says nothing
  pub looked_up-other : (names : List (List ℕ)) (items : List Item) (it : Item)
      → same_kind k it.kind ≡ false
      → looked_up f k names (items ++ it ∷ []) ≡ looked_up f k names items
  looked_up-other names items it other =
      kept_all names items it (λ j m at. ap (λ t. t && same m it.name) other)

  -- a new item says something of one name
  pub looked_up-more : (names : List (List ℕ)) (items : List Item) (name entries : List ℕ) (i : ℕ)
      → AllDiffer names → slice_get names i ≡ Some name → entries_of k name items ≡ None
      → looked_up f k names
      (items ++ record { kind = k; name = name; entries = entries } ∷ [])
      ≡ set (looked_up f k names items) i (f (Some entries))
  looked_up-more [] items name entries i differ at new = cc
  looked_up-more (n ∷ names) items name entries zero differ at new =
      let here : n ≡ name = cc in
      let it : Item = record { kind = k; name = name; entries = entries } in
      let first : entries_of k n (items ++ it ∷ []) ≡ Some entries =
      entries_of-new k n items it (ap (λ z. entries_of k z items) here ∙ new)
      (own_name k n name here) in
      ap (λ o. f o ∷ looked_up f k names (items ++ it ∷ [])) first
      ∙ ap (λ z. f (Some entries) ∷ z) (kept_all names items it (λ j m behind.
      other_name k m name
      (subst (λ z. same m z ≡ false) here
      (same_other n m (not_behind names n j m differ.0 behind)))))
  looked_up-more (n ∷ names) items name entries (suc i) differ at new =
      let it : Item = record { kind = k; name = name; entries = entries } in
      ap (λ o. f o ∷ looked_up f k names (items ++ it ∷ []))
      (entries_of-kept k n items it (other_name k n name (not_behind names n i name differ.0 at)))
      ∙ ap (λ z. f (entries_of k n items) ∷ z)
      (looked_up-more names items name entries i differ.1 at new)

  -- nothing is said yet
  pub looked_up-none : (names : List (List ℕ))
      → looked_up f k names [] ≡ replicate (length names) (f None)
  looked_up-none [] = refl
  looked_up-none (n ∷ names) = ap (λ z. f None ∷ z) (looked_up-none names)

  pub looked_up-at : (names : List (List ℕ)) (items : List Item) (i : ℕ) (name : List ℕ)
      → slice_get names i ≡ Some name
      → slice_get (looked_up f k names items) i ≡ Some (f (entries_of k name items))
  looked_up-at [] items i name at = cc
  looked_up-at (n ∷ names) items zero name at =
      let here : n ≡ name = cc in ap (λ z. Some (f (entries_of k z items))) here
  looked_up-at (n ∷ names) items (suc i) name at = looked_up-at names items i name at

-- ---- marks

pub missing_among-mark : (marks : List Bool) (i : ℕ) → slice_get marks i ≡ Some false
    → missing_among (set marks i true) + 1 ≡ missing_among marks
missing_among-mark [] i at = cc
missing_among-mark (true ∷ marks) zero at = cc
missing_among-mark (false ∷ marks) zero at = omega arith
missing_among-mark (true ∷ marks) (suc i) at = missing_among-mark marks i at
missing_among-mark (false ∷ marks) (suc i) at =
    let rest = missing_among-mark marks i at in omega arith

pub missing_among-none : (count : ℕ) → missing_among (replicate count false) ≡ count
missing_among-none zero = refl
missing_among-none (suc count) = ap suc (missing_among-none count)

pub all_marked : (marks : List Bool) (i : ℕ) → missing_among marks ≡ 0 → i < length marks
    → slice_get marks i ≡ Some true
all_marked [] i none within = absurd (omega arith)
all_marked (true ∷ marks) zero none within = refl
all_marked (false ∷ marks) i none within = absurd (omega arith)
all_marked (true ∷ marks) (suc i) none within = all_marked marks i none (omega arith)

pub first_unmarked-none : (names : List (List ℕ)) (marks : List Bool) → missing_among marks ≡ 0
    → first_unmarked names marks ≡ None
first_unmarked-none [] marks none = refl
first_unmarked-none (n ∷ names) [] none = refl
first_unmarked-none (n ∷ names) (true ∷ marks) none = first_unmarked-none names marks none
first_unmarked-none (n ∷ names) (false ∷ marks) none = absurd (omega arith)

pub first_unmarked-some : (names : List (List ℕ)) (marks : List Bool) → length marks ≡ length names
    → 0 < missing_among marks → (name : List ℕ) × (first_unmarked names marks ≡ Some name)
first_unmarked-some names [] long some = absurd (omega arith)
first_unmarked-some [] (mark ∷ marks) long some = absurd (omega arith)
first_unmarked-some (n ∷ names) (true ∷ marks) long some =
    first_unmarked-some names marks (omega arith) some
first_unmarked-some (n ∷ names) (false ∷ marks) long some = (n, refl)

-- the first name that has no mark, from a place on

pub unmarked_here : (names : List (List ℕ)) (marks : List Bool) (i : ℕ) (name : List ℕ)
    → slice_get names i ≡ Some name → slice_get marks i ≡ Some false
    → first_unmarked (drop i names) (drop i marks) ≡ Some name
unmarked_here [] marks i name named at = cc
unmarked_here (n ∷ names) [] i name named at = cc
unmarked_here (n ∷ names) (false ∷ marks) zero name named at = named
unmarked_here (n ∷ names) (true ∷ marks) zero name named at = cc
unmarked_here (n ∷ names) (m ∷ marks) (suc i) name named at =
    unmarked_here names marks i name named at

pub marked_here : (names : List (List ℕ)) (marks : List Bool) (i : ℕ) (name : List ℕ)
    → slice_get names i ≡ Some name → slice_get marks i ≡ Some true
    → first_unmarked (drop i names) (drop i marks)
    ≡ first_unmarked (drop (suc i) names) (drop (suc i) marks)
marked_here [] marks i name named at = cc
marked_here (n ∷ names) [] i name named at = cc
marked_here (n ∷ names) (true ∷ marks) zero name named at = refl
marked_here (n ∷ names) (false ∷ marks) zero name named at = cc
marked_here (n ∷ names) (m ∷ marks) (suc i) name named at =
    marked_here names marks i name named at

-- ---- what is wanted, by names of a kind

abbrev pub wants_named : Kind → List (List ℕ) → List Want
wants_named k names = map (λ (n : List ℕ). record { kind = k; name = n }) names

pub constructors_named : (constructors : List Constructor)
    → map constructor_want constructors
    ≡ wants_named kind.Constructor (map (λ (c : Constructor). c.name) constructors)
constructors_named [] = refl
constructors_named (c ∷ constructors) =
    ap (λ z. constructor_want c ∷ z) (constructors_named constructors)

pub symbols_named : (symbols : List Symbol)
    → map symbol_want symbols ≡ wants_named kind.Symbol (map (λ (f : Symbol). f.name) symbols)
symbols_named [] = refl
symbols_named (f ∷ symbols) = ap (λ z. symbol_want f ∷ z) (symbols_named symbols)

pub tables_named : (k : Kind) (names : List (List ℕ)) (items : List Item)
    → tables_by (wants_named k names) items ≡ looked_up entries_or_none k names items
tables_named k [] items = refl
tables_named k (n ∷ names) items =
    ap (λ z. entries_or_none (entries_of k n items) ∷ z) (tables_named k names items)

pub missing_named : (k : Kind) (names : List (List ℕ)) (items : List Item)
    → first_missing (wants_named k names) items ≡ first_unmarked names (marks_of k names items)
missing_named k [] items = refl
missing_named k (n ∷ names) items = by (entries_of k n items) (missing_named k names items)
  where
    by : (o : Option (List ℕ))
        → first_missing (wants_named k names) items ≡ first_unmarked names (marks_of k names items)
        → (if is_some o then first_missing (wants_named k names) items else Some n)
        ≡ first_unmarked (n ∷ names) (is_some o ∷ marks_of k names items)
    by None next = refl
    by (Some entries) next = next

pub missing_both : (wants more : List Want) (items : List Item) → first_missing wants items ≡ None
    → first_missing (wants ++ more) items ≡ first_missing more items
missing_both [] more items none = refl
missing_both (w ∷ wants) more items none =
    by (is_some (entries_of w.kind w.name items)) none (missing_both wants more items)
  where
    by : (t : Bool) → (if t then first_missing wants items else Some w.name) ≡ None
        → (first_missing wants items ≡ None
        → first_missing (wants ++ more) items ≡ first_missing more items)
        → (if t then first_missing (wants ++ more) items else Some w.name)
        ≡ first_missing more items
    by true is next = next is
    by false is next = cc

pub missing_first : (wants more : List Want) (items : List Item) (name : List ℕ)
    → first_missing wants items ≡ Some name → first_missing (wants ++ more) items ≡ Some name
missing_first [] more items name is = cc
missing_first (w ∷ wants) more items name is =
    by (is_some (entries_of w.kind w.name items)) is (missing_first wants more items name)
  where
    by : (t : Bool) → (if t then first_missing wants items else Some w.name) ≡ Some name
        → (first_missing wants items ≡ Some name → first_missing (wants ++ more) items ≡ Some name)
        → (if t then first_missing (wants ++ more) items else Some w.name) ≡ Some name
    by true same next = next same
    by false same next = same

-- whether a name is wanted

pub wanted_both : (k : Kind) (name : List ℕ) (wants more : List Want)
    → is_wanted k name (wants ++ more) ≡ (is_wanted k name wants || is_wanted k name more)
wanted_both k name [] more = refl
wanted_both k name (w ∷ wants) more =
    ap (λ t. is_of k name w.kind w.name || t) (wanted_both k name wants more)
    ∙ or_assoc (is_of k name w.kind w.name) (is_wanted k name wants) (is_wanted k name more)
  where
    or_assoc : (a b c : Bool) → (a || (b || c)) ≡ ((a || b) || c)
    or_assoc true b c = refl
    or_assoc false b c = refl

pub wanted_at : (k : Kind) (names : List (List ℕ)) (i : ℕ) (name : List ℕ)
    → slice_get names i ≡ Some name → is_wanted k name (wants_named k names) ≡ true
wanted_at k [] i name at = cc
wanted_at k (n ∷ names) zero name at =
    let here : name ≡ n = cc in
    ap (λ t. t || is_wanted k name (wants_named k names)) (own_name k name n here)
wanted_at k (n ∷ names) (suc i) name at =
    ap (λ t. is_of k name k n || t) (wanted_at k names i name at) ∙ or_true (is_of k name k n)
  where
    or_true : (t : Bool) → (t || true) ≡ true
    or_true true = refl
    or_true false = refl

pub wanted_nowhere : (k : Kind) (names : List (List ℕ)) (name : List ℕ)
    → ((i : ℕ) → slice_get names i ≡ Some name → ⊥) → is_wanted k name (wants_named k names) ≡ false
wanted_nowhere k [] name nowhere = refl
wanted_nowhere k (n ∷ names) name nowhere =
    ap (λ t. t || is_wanted k name (wants_named k names)) (by (same name n) refl)
    ∙ wanted_nowhere k names name (λ i. nowhere (suc i))
  where
    by : (t : Bool) → same name n ≡ t → (same_kind k k && t) ≡ false
    by true is =
        let here : n ≡ name = sym (same_is name n is) in
        absurd (nowhere 0 (ap Some here))
    by false is = and_false (same_kind k k)

pub wanted_other : (k other : Kind) (names : List (List ℕ)) (name : List ℕ)
    → same_kind k other ≡ false → is_wanted k name (wants_named other names) ≡ false
wanted_other k other [] name is = refl
wanted_other k other (n ∷ names) name is =
    ap (λ t. (t && same name n) || is_wanted k name (wants_named other names)) is
    ∙ wanted_other k other names name is

-- the constructors among what is wanted

no_constructors : (names : List (List ℕ)) → constructors_among (wants_named kind.Symbol names) ≡ []
no_constructors [] = refl
no_constructors (n ∷ names) = no_constructors names

pub constructors_first : (names others : List (List ℕ))
    → constructors_among (wants_named kind.Constructor names ++ wants_named kind.Symbol others)
    ≡ wants_named kind.Constructor names
constructors_first [] others = no_constructors others
constructors_first (n ∷ names) others =
    ap (λ z. record { kind = kind.Constructor; name = n } ∷ z) (constructors_first names others)
