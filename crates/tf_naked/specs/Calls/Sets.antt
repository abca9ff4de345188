-- Sets of types: each type has a number, and the numbers of those in the set are marked.
use Rattle.std.specs.Prelude.{ℕ, ◌≤◌, ◌≡◌, Bool, false, List, ◌++◌, length, get_or, IsTrue}
use Rattle.std.specs.List.{list_any}
use Rattle.tf_core.specs.declared.ty.Ty.{Ty}
use Rattle.tf_core.specs.Types.{same_type}
use Rattle.tf_types.specs.declared.node.TypeId.{TypeId}
use Rattle.tf_types.specs.Numbers.{Denotes, IsOneToOne}
use Rattle.tf_naked.specs.declared.set.TypeSet.{TypeSet}

-- the type is one of the list
abbrev pub IsAmong : List Ty → Ty → Type 0
IsAmong types ty = IsTrue (list_any (same_type ty) types)

-- the marks of the numbers in a table are those of the types of a list
pub record AreMarked (table : List Ty) (marks : List Bool) (types : List Ty) : Type 0 where
  pub one_to_one : IsOneToOne table
  -- no mark stands where no number does
  pub unused : (i : ℕ) → length table ≤ i → get_or marks i false ≡ false
  pub marked : (id : TypeId) (ty : Ty) → Denotes table id ty →
      get_or marks id.index false ≡ list_any (same_type ty) types
  pub numbered : (ty : Ty) → IsAmong types ty → (id : TypeId) × Denotes table id ty

-- the set is that of the types of a list
abbrev pub IsSetOf : TypeSet → List Ty → Type 0
IsSetOf set types = AreMarked set.table set.marks.items types

-- the types were added to a set
abbrev pub Adds : TypeSet → TypeSet → List Ty → Type 0
Adds old new added = (types : List Ty) → IsSetOf old types → IsSetOf new (types ++ added)
