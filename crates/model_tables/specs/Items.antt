-- Items and the tables that they give.
use Rattle.std.specs.Prelude.{◌≡◌, ℕ, List, [], ◌∷◌, ◌++◌, map, Option, Some, None, IsTrue}
use Rattle.std.specs.List.{AllByRecursion}
use Rattle.model_tables.specs.Grammar.{Item}
use Rattle.model_tables.specs.Faults.{Want, is_wanted, entries_of}

-- none of the items is of the kind and the name of an earlier one
abbrev pub OnceBehind : List Item → List Item → Type 0
OnceBehind earlier [] = Unit {0}
OnceBehind earlier (it ∷ items) =
    (entries_of it.kind it.name earlier ≡ None) × OnceBehind (earlier ++ it ∷ []) items

-- no two items are of one kind and one name
abbrev pub Once : List Item → Type 0
Once items = OnceBehind [] items

-- the tables are those of the items
abbrev pub HaveTables : List Item → List Want → List (List ℕ) → Type 0
HaveTables items [] [] = Unit {0}
HaveTables items [] (entries ∷ tables) = ⊥
HaveTables items (w ∷ wants) [] = ⊥
HaveTables items (w ∷ wants) (entries ∷ tables) =
    (entries_of w.kind w.name items ≡ Some entries) × HaveTables items wants tables

-- Each constructor or symbol has one item, of which it has its table, and there is no other item.
pub record AreItems (wants : List Want) (tables : List (List ℕ)) (items : List Item) : Type 0 where
  pub known : AllByRecursion (λ (it : Item). IsTrue (is_wanted it.kind it.name wants)) items
  pub once : Once items
  pub each : HaveTables items wants tables

-- the entries that an item gives, or none where there is none yet
abbrev pub entries_or_none : Option (List ℕ) → List ℕ
entries_or_none None = []
entries_or_none (Some entries) = entries

-- the tables of what is wanted, as far as items give them
abbrev pub tables_by : List Want → List Item → List (List ℕ)
tables_by wants items = map (λ (w : Want). entries_or_none (entries_of w.kind w.name items)) wants
