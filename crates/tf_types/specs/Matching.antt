-- Matching: which types for variables make types with variables the types of given numbers.
use Rattle.std.specs.Prelude.{◌≡◌, ◌↔◌, ℕ, Bool, IsTrue, List, map, length, slice_get, Option, Some, None}
use Rattle.tf_core.specs.declared.ty.Ty.{Ty}
use Rattle.tf_core.specs.Types.{instantiate}
use Rattle.tf_types.specs.declared.node.TypeId.{TypeId}
use Rattle.tf_types.specs.Numbers.{IsNumber, type_at}

-- A partial substitution binds the i-th type variable to the type of the i-th number, or leaves it
-- free. Types, one for each variable, keep to it where each is that to which its variable is bound.
pub record KeepsTo (types : List Ty) (bound : List (Option TypeId)) (instances : List Ty) :
    Type 0 where
  pub count : length instances ≡ length bound
  pub same : (i : ℕ) (id : TypeId) → slice_get bound i ≡ Some (Some id) →
      slice_get instances i ≡ Some (type_at types id)

-- variables are bound to numbers of the table
abbrev pub AreBound : List Ty → List (Option TypeId) → Type 0
AreBound types bound =
    (i : ℕ) (id : TypeId) → slice_get bound i ≡ Some (Some id) → IsNumber types id

-- the types for the variables keep to what is bound and make each pattern the type of its number
abbrev pub Matches : List Ty → List (Option TypeId) → List Ty → List TypeId → List Ty → Type 0
Matches types bound patterns ids instances = KeepsTo types bound instances
    × (map (instantiate instances) patterns ≡ map (type_at types) ids)

-- What a match gives: the partial substitution that the types which match keep to, and no others;
-- or none, where no types match.
abbrev pub IsMatch : List Ty → List (Option TypeId) → List Ty → List TypeId →
    Option (List (Option TypeId)) → Type 0
IsMatch types bound patterns ids (Some extended) = (instances : List Ty) →
    KeepsTo types extended instances ↔ Matches types bound patterns ids instances
IsMatch types bound patterns ids None =
    (instances : List Ty) → Matches types bound patterns ids instances → ⊥

-- The same of any condition on the types for the variables: those that keep to what was bound and
-- meet it are those that keep to what is bound then, where one was found; else there are none.
abbrev pub Narrows : List Ty → List (Option TypeId) → (List Ty → Type 0) → Bool →
    List (Option TypeId) → Type 0
Narrows types bound condition found extended = (instances : List Ty) →
    (KeepsTo types bound instances × condition instances)
    ↔ (IsTrue found × KeepsTo types extended instances)

-- the variable is bound
abbrev pub IsBound : List (Option TypeId) → ℕ → Type 0
IsBound bound i = (id : TypeId) × (slice_get bound i ≡ Some (Some id))
