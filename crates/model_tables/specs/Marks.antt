-- Marks of names: which of them have an item.
use Rattle.std.specs.Prelude.{ℕ, suc, Bool, true, false, List, [], ◌∷◌, map, is_some, Option, Some, None}
use Rattle.model_tables.specs.declared.form.Kind.{Kind}
use Rattle.model_tables.specs.Grammar.{Item}
use Rattle.model_tables.specs.Faults.{entries_of}

-- what items say of names of a kind
abbrev pub looked_up : {B : Type 0} → (Option (List ℕ) → B) → Kind → List (List ℕ) → List Item → List B
looked_up f kind names items = map (λ (name : List ℕ). f (entries_of kind name items)) names

-- whether names of a kind have an item
abbrev pub marks_of : Kind → List (List ℕ) → List Item → List Bool
marks_of = looked_up is_some

-- how many have none
abbrev pub missing_among : List Bool → ℕ
missing_among [] = 0
missing_among (true ∷ marks) = missing_among marks
missing_among (false ∷ marks) = suc (missing_among marks)

-- the first name that has none
abbrev pub first_unmarked : List (List ℕ) → List Bool → Option (List ℕ)
first_unmarked [] marks = None
first_unmarked (name ∷ names) [] = None
first_unmarked (name ∷ names) (true ∷ marks) = first_unmarked names marks
first_unmarked (name ∷ names) (false ∷ marks) = Some name
