-- What is kept of a table while it is read: for each symbol its entries, once its item is read.
use Rattle.std.specs.Prelude.{◌≡◌, ℕ, List, [], ◌∷◌, map, slice_get, Option, Some, None, is_none}
use Rattle.std.specs.Prelude.{count_by}
use Rattle.std.specs.HashMap as hash
use Rattle.std.specs.HashMap.{HashMap}
use Rattle.std.specs.Str.{bytes_eq}
use denote.Ref.{Bor}
use Rattle.model_tables.specs.Grammar.{Item}
use Rattle.model_tables.specs.Faults.{Want, entries_of}

-- the bytes of names
abbrev pub texts_of : List (Bor (List ℕ)) → List (List ℕ)
texts_of names = map (λ n. n.now) names

-- a place of a name among others, if it is there
abbrev pub IsPlace : List (List ℕ) → List ℕ → Option ℕ → Type 0
IsPlace names name None = (i : ℕ) → slice_get names i ≡ Some name → ⊥
IsPlace names name (Some i) = slice_get names i ≡ Some name

-- the map gives the places of all names
abbrev pub ArePlaces : {S : Type 0} → List (List ℕ) → HashMap (Bor (List ℕ)) ℕ S → Type 0
ArePlaces names places =
    (name : List ℕ) → IsPlace names name (hash.get_by (λ k. bytes_eq name k.now) places)

-- what items say of each
abbrev pub slots_of : List Want → List Item → List (Option (List ℕ))
slots_of wants items = map (λ (w : Want). entries_of w.kind w.name items) wants

-- the first name whose slot is empty
abbrev pub first_empty : List (List ℕ) → List (Option (List ℕ)) → Option (List ℕ)
first_empty [] slots = None
first_empty (name ∷ names) [] = None
first_empty (name ∷ names) (None ∷ slots) = Some name
first_empty (name ∷ names) (Some entries ∷ slots) = first_empty names slots

-- how many slots are empty
abbrev pub empty_slots : List (Option (List ℕ)) → ℕ
empty_slots slots = count_by is_none slots
