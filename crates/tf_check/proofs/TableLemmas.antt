-- What a table of names finds is what a search through the listed names finds.
use Rattle.std.proofs.Common.{◌≡◌, ℕ, zero, suc, ◌+◌, Bool, true, false, cond, List, [], ◌∷◌, ◌++◌, map, position, slice_get, bytes_eq, Option, Some, None, option_map, is_some, refl, sym, ap, ◌∙◌, subst, arith, Bor, if◌then◌else◌}
use Rattle.std.specs.List.{position_from}
use Rattle.std.proofs.lemmas.Iterator.Adapters.{position_from-zero}
use Rattle.indexmap.specs.IndexMap.{insert_entry}
use Rattle.tf_check.specs.Types.{found}
use Rattle.tf_check.proofs.FoundLemmas.{tested}

module _ {V A : Type 0} (make : Bor (List ℕ) × V → A) (name_of : A → List ℕ)
    (named : (entry : Bor (List ℕ) × V) → name_of (make entry) ≡ entry.0.now) (name : List ℕ)
  where
    abbrev test : Bor (List ℕ) → Bool
    test key = bytes_eq name key.now

    abbrev keys : List (Bor (List ℕ) × V) → List (Bor (List ℕ))
    keys entries = map (λ (e : Bor (List ℕ) × V). e.0) entries

    abbrev places_from : ℕ → Option (ℕ × A) → Option ℕ
    places_from start = option_map (λ at. start + at.0)

    step : (same : Bool) (start : ℕ) (item : A) (rest : Option (ℕ × A)) (tail : Option ℕ) →
        tail ≡ places_from (start + 1) rest →
        cond same (Some start) tail
        ≡ places_from start (if same then Some (0, item) else option_map (λ at. (at.0 + 1, at.1))
        rest)
    step true start item rest tail is = ap Some (omega arith)
    step false start item None tail is = is
    step false start item (Some at) tail is = is ∙ ap Some (omega arith)

    placed : (start : ℕ) (entries : List (Bor (List ℕ) × V)) →
        position_from test start (keys entries)
        ≡ places_from start (found name_of name (map make entries))
    placed start [] = refl
    placed start (entry ∷ entries) =
        subst (λ n. cond (bytes_eq name entry.0.now) (Some start)
        (position_from test (start + 1) (keys entries))
        ≡ places_from start (if bytes_eq name n then Some (0, make entry)
        else option_map (λ at. (at.0 + 1, at.1)) (found name_of name (map make entries))))
        (sym (named entry))
        (step (bytes_eq name entry.0.now) start (make entry)
        (found name_of name (map make entries))
        (position_from test (start + 1) (keys entries)) (placed (start + 1) entries))

    position_is : (entries : List (Bor (List ℕ) × V)) →
        position test (keys entries) ≡ places_from 0 (found name_of name (map make entries))
    position_is entries = position_from-zero test (keys entries) ∙ placed 0 entries

    -- no name is found
    pub found_none : (entries : List (Bor (List ℕ) × V)) → None ≡ position test (keys entries) →
        found name_of name (map make entries) ≡ None
    found_none entries is = by (found name_of name (map make entries)) (is ∙ position_is entries)
      where
        by : (at : Option (ℕ × A)) → None ≡ places_from 0 at → at ≡ None
        by None same = refl
        by (Some at) same = cc

    same_place : (i : ℕ) (at : Option (ℕ × A)) → Some i ≡ places_from 0 at →
        (item : A) × (at ≡ Some (i, item))
    same_place i None same = cc
    same_place i (Some (p, item)) same =
        let sum : i ≡ 0 + p = cc in
        let equal : p ≡ i = omega arith in
        (item, ap (λ k. Some (k, item)) equal)

    -- the place of a name that is found
    pub found_some : (entries : List (Bor (List ℕ) × V)) (i : ℕ) → Some i
        ≡ position test (keys entries) →
        (item : A) × (found name_of name (map make entries) ≡ Some (i, item))
    found_some entries i is =
        same_place i (found name_of name (map make entries)) (is ∙ position_is entries)

    is_some-places : (at : Option (ℕ × A)) → is_some (places_from 0 at) ≡ is_some at
    is_some-places None = refl
    is_some-places (Some at) = refl

    -- whether a name is found
    pub found_known : (entries : List (Bor (List ℕ) × V)) →
        is_some (position test (keys entries)) ≡ is_some (found name_of name (map make entries))
    found_known entries =
        ap is_some (position_is entries) ∙ is_some-places (found name_of name (map make entries))

-- the item at the place that is found
pub found_at : {A : Type 0} (name_of : A → List ℕ) (name : List ℕ) (items : List A) (i : ℕ)
    (x : A) →
    found name_of name items ≡ Some (i, x) → slice_get items i ≡ Some x
found_at {A = A} name_of name [] i x is = cc
found_at {A = A} name_of name (item ∷ items) i x is =
    by (bytes_eq name (name_of item)) (found name_of name items)
    (λ p y same. found_at name_of name items p y same) is
  where
    by : (same : Bool) (rest : Option (ℕ × A)) →
        ((p : ℕ) (y : A) → rest ≡ Some (p, y) → slice_get items p ≡ Some y) →
        tested name_of same item rest ≡ Some (i, x) →
        slice_get (item ∷ items) i ≡ Some x
    by true rest below same =
        let here : ℕ × A = (0, item) in
        let equal : here ≡ (i, x) = cc in
        let place : 0 ≡ i = ap (λ (b : ℕ × A). b.0) equal in
        let value : item ≡ x = ap (λ (b : ℕ × A). b.1) equal in
        subst (λ k. slice_get (item ∷ items) k ≡ Some x) place (ap Some value)
    by false None below same = cc
    by false (Some (p, y)) below same =
        let here : ℕ × A = (p + 1, y) in
        let equal : here ≡ (i, x) = cc in
        let place : p + 1 ≡ i = ap (λ (b : ℕ × A). b.0) equal in
        let value : y ≡ x = ap (λ (b : ℕ × A). b.1) equal in
        let next : suc p ≡ i = omega arith in
        subst (λ k. slice_get (item ∷ items) k ≡ Some x) next (below p y refl ∙ ap Some value)

pub slice_get-map : {A B : Type 0} (f : A → B) (xs : List A) (i : ℕ) →
    slice_get (map f xs) i ≡ option_map f (slice_get xs i)
slice_get-map f [] i = refl
slice_get-map f (x ∷ xs) zero = refl
slice_get-map f (x ∷ xs) (suc i) = slice_get-map f xs i

-- the entry of a name that is found
pub found_entry : {V A : Type 0} (make : Bor (List ℕ) × V → A) (name_of : A → List ℕ)
    (named : (entry : Bor (List ℕ) × V) → name_of (make entry) ≡ entry.0.now) (name : List ℕ)
    (entries : List (Bor (List ℕ) × V)) (i : ℕ) (entry : Bor (List ℕ) × V) →
    Some i ≡ position (λ (key : Bor (List ℕ)). bytes_eq name key.now)
    (map (λ (e : Bor (List ℕ) × V). e.0) entries) →
    slice_get entries i ≡ Some entry → found name_of name (map make entries) ≡ Some (i, make entry)
found_entry {A = A} make name_of named name entries i entry is there =
    let at = found_some make name_of named name entries i is in
    let item : slice_get (map make entries) i
    ≡ Some at.0 = found_at name_of name (map make entries) i at.0 at.1 in
    let other : slice_get (map make entries) i ≡ Some (make entry) =
    slice_get-map make entries i ∙ ap (option_map make) there in
    let same : at.0 ≡ make entry = cc in
    at.1 ∙ ap (λ (a : A). Some (i, a)) same

-- ---- names that are added

module _ {V A : Type 0} (make : Bor (List ℕ) × V → A) (name_of : A → List ℕ)
    (named : (entry : Bor (List ℕ) × V) → name_of (make entry) ≡ entry.0.now)
    (key : Bor (List ℕ)) (value : V)
  where
    abbrev inserted : List (Bor (List ℕ) × V) → List (Bor (List ℕ) × V)
    inserted entries =
        insert_entry (λ (a : Bor (List ℕ)) (b : Bor (List ℕ)). bytes_eq a.now b.now) entries key
        value

    insert_step : (same : Bool) (entry : Bor (List ℕ) × V) (entries : List (Bor (List ℕ) × V))
        (rest : Option (ℕ × A)) → tested name_of same (make entry) rest ≡ None →
        (rest ≡ None → map make (inserted entries) ≡ map make entries ++ make (key, value) ∷ []) →
        map make (if same then (entry.0, value) ∷ entries else entry ∷ inserted entries)
        ≡ map make (entry ∷ entries) ++ make (key, value) ∷ []
    insert_step true entry entries rest none more = cc
    insert_step false entry entries None none more = ap (λ zs. make entry ∷ zs) (more refl)
    insert_step false entry entries (Some at) none more = cc

    -- an entry whose name is not found stands last
    pub insert_listed : (entries : List (Bor (List ℕ) × V)) →
        found name_of key.now (map make entries) ≡ None →
        map make (inserted entries) ≡ map make entries ++ make (key, value) ∷ []
    insert_listed [] none = refl
    insert_listed (entry ∷ entries) none =
        insert_step (bytes_eq key.now entry.0.now) entry entries
        (found name_of key.now (map make entries))
        (subst (λ n. tested name_of (bytes_eq key.now n) (make entry)
        (found name_of key.now (map make entries)) ≡ None)
        (named entry) none) (insert_listed entries)
