-- Names that are found by their bytes, and the first whose slot is empty.
use Rattle.std.proofs.Common.{◌≡◌, ℕ, zero, suc, ◌+◌, ◌≤◌, ◌<◌, List, [], ◌∷◌, ◌++◌, length, drop, Option}
use Rattle.std.proofs.Common.{Some, None, Bool, true, false, is_some, refl, sym, ap, ◌∙◌, subst, arith}
use Rattle.std.proofs.Common.{slice_get, get_or, cond}
use Rattle.std.proofs.lemmas.List.{drop_all}
use Rattle.std.proofs.lemmas.Option.{slice_get-map, slice_get-get_or}
use Rattle.std.specs.Option.{option_map}
use Rattle.std.proofs.lemmas.Slice.Eq.{bytes_eq-Decides}
use Rattle.std.specs.HashMap as hash
use Rattle.std.specs.HashMap.{HashMap}
use Rattle.std.specs.Map.{update}
use Rattle.std.specs.Str.{bytes_eq}
use denote.Ref.{Bor}
use Rattle.model_tables.specs.Held.{IsPlace, ArePlaces, first_empty, texts_of}

-- the bytes of the name at a place
pub text_at : (names : List (Bor (List ℕ))) (i : ℕ) (d : Bor (List ℕ)) → i < length names
    → slice_get (texts_of names) i ≡ Some (get_or names i d).now
text_at names i d within =
    slice_get-map (λ (n : Bor (List ℕ)). n.now) names i
    ∙ ap (option_map (λ (n : Bor (List ℕ)). n.now)) (slice_get-get_or names i d within)

pub texts_of-length : (names : List (Bor (List ℕ))) → length (texts_of names) ≡ length names
texts_of-length [] = refl
texts_of-length (n ∷ names) = ap suc (texts_of-length names)

-- ---- places

-- a place stays where names are added behind
get_front : (names more : List (List ℕ)) (i : ℕ) (name : List ℕ) → slice_get names i ≡ Some name
    → slice_get (names ++ more) i ≡ Some name
get_front [] more i name at = cc
get_front (n ∷ names) more zero name at = at
get_front (n ∷ names) more (suc i) name at = get_front names more i name at

get_last : (names : List (List ℕ)) (x : List ℕ)
    → slice_get (names ++ x ∷ []) (length names) ≡ Some x
get_last [] x = refl
get_last (n ∷ names) x = get_last names x

-- a place of a name that isn't the last is one in the front
get_before : (names : List (List ℕ)) (x : List ℕ) (i : ℕ) (name : List ℕ)
    → (x ≡ name → ⊥) → slice_get (names ++ x ∷ []) i ≡ Some name → slice_get names i ≡ Some name
get_before [] x zero name other at = absurd (other cc)
get_before [] x (suc i) name other at = cc
get_before (n ∷ names) x zero name other at = at
get_before (n ∷ names) x (suc i) name other at = get_before names x i name other at

place_more : (names : List (List ℕ)) (x name : List ℕ) (o : Option ℕ) → (x ≡ name → ⊥)
    → IsPlace names name o → IsPlace (names ++ x ∷ []) name o
place_more names x name None other place = λ i at. place i (get_before names x i name other at)
place_more names x name (Some i) other place = get_front names (x ∷ []) i name place

-- the places of one name more
pub places_more : {S : Type 0} (names : List (List ℕ)) (x : List ℕ)
    (m n : HashMap (Bor (List ℕ)) ℕ S) (i : ℕ) → length names ≡ i → ArePlaces names m
    → ((name : List ℕ) → hash.get_by (λ k. bytes_eq name k.now) n
    ≡ update bytes_eq (λ ds. hash.get_by (λ k. bytes_eq ds k.now) m) x (Some i) name)
    → ArePlaces (names ++ x ∷ []) n
places_more names x m n i counted places updates name =
    subst (IsPlace (names ++ x ∷ []) name) (sym (updates name)) (by (bytes_eq x name) refl)
  where
    by : (t : Bool) → bytes_eq x name ≡ t → IsPlace (names ++ x ∷ []) name
        (cond t (Some i) (hash.get_by (λ k. bytes_eq name k.now) m))
    by true is =
        let equal : x ≡ name = (bytes_eq-Decides x name).0 is in
        subst (λ z. slice_get (names ++ x ∷ []) i ≡ Some z) equal
        (subst (λ z. slice_get (names ++ x ∷ []) z ≡ Some x) counted (get_last names x))
    by false is =
        place_more names x name (hash.get_by (λ k. bytes_eq name k.now) m)
        (λ equal. let yes = (bytes_eq-Decides x name).1 equal in cc) (places name)

-- ---- empty slots

-- the first empty slot from a place on is the one at the place, where that is empty
pub empty_here : (names : List (List ℕ)) (slots : List (Option (List ℕ))) (i : ℕ) (name : List ℕ)
    (slot : Option (List ℕ)) → slice_get names i ≡ Some name → slice_get slots i ≡ Some slot
    → is_some slot ≡ false → first_empty (drop i names) (drop i slots) ≡ Some name
empty_here [] slots i name slot named at none = cc
empty_here (n ∷ names) [] i name slot named at none = cc
empty_here (n ∷ names) (None ∷ slots) zero name slot named at none = named
empty_here (n ∷ names) (Some entries ∷ slots) zero name slot named at none =
    let here : Some entries ≡ slot = cc in
    let filled : true ≡ is_some slot = ap is_some here in
    cc
empty_here (n ∷ names) (s ∷ slots) (suc i) name slot named at none =
    empty_here names slots i name slot named at none

-- or else the first from the next place on
pub filled_here : (names : List (List ℕ)) (slots : List (Option (List ℕ))) (i : ℕ) (name : List ℕ)
    (slot : Option (List ℕ)) → slice_get names i ≡ Some name → slice_get slots i ≡ Some slot
    → is_some slot ≡ true
    → first_empty (drop i names) (drop i slots) ≡ first_empty (drop (suc i) names) (drop (suc i) slots)
filled_here [] slots i name slot named at some = cc
filled_here (n ∷ names) [] i name slot named at some = cc
filled_here (n ∷ names) (Some entries ∷ slots) zero name slot named at some = refl
filled_here (n ∷ names) (None ∷ slots) zero name slot named at some =
    let here : None ≡ slot = cc in
    let empty : false ≡ is_some slot = ap is_some here in
    cc
filled_here (n ∷ names) (s ∷ slots) (suc i) name slot named at some =
    filled_here names slots i name slot named at some

-- no slot is empty behind the last
pub none_empty : (names : List (List ℕ)) (slots : List (Option (List ℕ))) (i : ℕ)
    → length names ≤ i → first_empty (drop i names) (drop i slots) ≡ None
none_empty names slots i past =
    ap (λ z. first_empty z (drop i slots)) (drop_all i names past)
