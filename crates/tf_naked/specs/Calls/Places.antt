-- Places of types in a list, noted at their numbers from the end of the list on.
use Rattle.std.specs.Prelude.{ℕ, ◌+◌, ◌≤◌, ◌≡◌, List, length, get_or}
use Rattle.std.specs.List.{position_or_len}
use Rattle.tf_core.specs.declared.ty.Ty.{Ty}
use Rattle.tf_core.specs.Types.{same_type}
use Rattle.tf_types.specs.declared.node.TypeId.{TypeId}
use Rattle.tf_types.specs.Numbers.{Denotes, IsAbsent, IsOneToOne}

-- Of a list of so many types those from place i on are noted: at each number of the table stands the
-- place of its type among them, or the length of the list.
pub record ArePlaces (table : List Ty) (places : List ℕ) (count i : ℕ) (rest : List Ty) :
    Type 0 where
  pub one_to_one : IsOneToOne table
  -- nothing is noted where no number is
  pub unused : (k : ℕ) → length table ≤ k → get_or places k count ≡ count
  pub placed : (id : TypeId) (ty : Ty) → Denotes table id ty →
      get_or places id.index count ≡ i + position_or_len (same_type ty) rest
  -- a type that isn't in the table isn't in the list
  pub absent : (ty : Ty) → IsAbsent table ty → i + position_or_len (same_type ty) rest ≡ count
