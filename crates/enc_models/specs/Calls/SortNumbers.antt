-- Words of private contracts: sorts with their numbers, and constructors as tables over sorts.
use Rattle.std.specs.Prelude.{ℕ, ◌+◌, ◌<◌, ◌≡◌, List, [], length, map, replicate, sum, sum_by}
use Rattle.std.specs.Prelude.{get_or, slice_get, slice_index, Some, IsTrue}
use Rattle.std.specs.List.{AllByRecursion, list_any, position_or_len}
use Rattle.enc_base.specs.Tables.{EachBelow, tuple_count, place}
use Rattle.tf_core.specs.declared.ty.Ty.{Ty}
use Rattle.tf_core.specs.declared.ty.Ty.TheVariants as type
use Rattle.tf_core.specs.declared.signature.Constructor.{Constructor}
use Rattle.tf_core.specs.declared.signature.Signature.{Signature}
use Rattle.tf_core.specs.Types.{same_type}
use Rattle.tf_types.specs.declared.node.TypeId.{TypeId}
use Rattle.tf_types.specs.Numbers.{Denotes, IsOneToOne}
use Rattle.enc_models.specs.declared.sort_numbers.SortNumbers.{SortNumbers}

-- a type has a number in a table, at which another number stands
pub record HasNumber (table : List Ty) (numbers : List ℕ) (ty : Ty) (i : ℕ) : Type 0 where
  pub id : TypeId
  pub denoted : Denotes table id ty
  pub number : get_or numbers id.index 0 ≡ i

-- the first types of a list, so many, are numbered by their places in it
pub record AreNumberedIn (table : List Ty) (numbers : List ℕ) (count : ℕ) (listed : List Ty) :
    Type 0 where
  pub one_to_one : IsOneToOne table
  pub each : (i : ℕ) (ty : Ty) → i < count → slice_get listed i ≡ Some ty →
      HasNumber table numbers ty i

abbrev pub AreNumbered : SortNumbers → ℕ → List Ty → Type 0
AreNumbered numbers = AreNumberedIn numbers.types numbers.sorts.items

-- the number of a sort in a list
abbrev pub number_in : List Ty → Ty → ℕ
number_in listed ty = position_or_len (same_type ty) listed

-- the types are of the list
abbrev pub AreAmong : List Ty → List Ty → Type 0
AreAmong listed = AllByRecursion (λ ty. IsTrue (list_any (same_type ty) listed))

-- the arguments of each type of the list are of the list
abbrev pub AreArgumentsAmong : List Ty → Type 0
AreArgumentsAmong listed = (c : ℕ) (types : List Ty) →
    IsTrue (list_any (same_type (type.Apply c types)) listed) → AreAmong listed types

-- the sizes that are those of types, by their numbers in the list
abbrev pub sizes_among : List Ty → List ℕ → List Ty → List ℕ
sizes_among listed sizes types = map (λ ty. slice_index sizes (number_in listed ty)) types

-- How many numbers the tables hold where each type of the list is a member of such a size: sizes,
-- entries of constructors, and those of symbols.
abbrev pub count_over_sorts : Signature → List ℕ → List Ty → ℕ
count_over_sorts g sizes listed =
    sum sizes
    + sum_by (λ constructor. tuple_count (replicate constructor.arity (length sizes))) g.constructors
    + sum_by (λ symbol. tuple_count (sizes_among listed sizes symbol.arguments)) g.symbols

-- the type of a number in a list
abbrev pub listed_at : List Ty → ℕ → Ty
listed_at listed i = get_or listed i (type.Var 0)

-- the type that a constructor forms of types of a list
abbrev pub formed_of : List Ty → ℕ → List ℕ → Ty
formed_of listed c members = type.Apply c (map (listed_at listed) members)

-- The table of a constructor over the types of a list, as far as the first of them, so many, are
-- entered: for the numbers of types it has the number of the type formed, or 0 where that isn't
-- among these.
pub record IsEntered (listed : List Ty) (count c arity : ℕ) (table : List ℕ) : Type 0 where
  pub length_is : length table ≡ tuple_count (replicate arity (length listed))
  pub formed : (members : List ℕ) → EachBelow (replicate arity (length listed)) members →
      (i : ℕ) → i < count → listed_at listed i ≡ formed_of listed c members →
      get_or table (place (replicate arity (length listed)) members) 0 ≡ i
  pub none : (members : List ℕ) → EachBelow (replicate arity (length listed)) members →
      ((i : ℕ) → i < count → listed_at listed i ≡ formed_of listed c members → ⊥) →
      get_or table (place (replicate arity (length listed)) members) 0 ≡ 0

-- those of a signature's constructors
pub record AreEntered (g : Signature) (listed : List Ty) (count : ℕ) (tables : List (List ℕ)) :
    Type 0 where
  pub length_is : length tables ≡ length g.constructors
  pub each : (c : ℕ) (constructor : Constructor) → slice_get g.constructors c ≡ Some constructor →
      IsEntered listed count c constructor.arity (get_or tables c [])
