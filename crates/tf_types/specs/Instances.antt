-- What a table keeps of instances.
use Rattle.std.specs.Prelude.{◌≡◌, ℕ, Bool, true, List, [], slice_get, Some}
use Rattle.std.specs.List.{AllByRecursion}
use Rattle.tf_core.specs.declared.ty.Ty.{Ty, out-Ty}
use Rattle.tf_core.specs.declared.ty.Ty.TheOpen.{Ty-F}
use Rattle.tf_core.specs.declared.ty.Ty.TheOpen as layer
use Rattle.tf_core.specs.Types.{instantiate}
use Rattle.tf_types.specs.declared.node.TypeId.{TypeId}
use Rattle.tf_types.specs.declared.node.Asked.{Asked}
use Rattle.tf_types.specs.Numbers.{IsNumber, Denotes, type_at}

abbrev pub arguments_step : Ty-F Ty → List Ty
arguments_step (layer.Var i) = []
arguments_step (layer.Apply c arguments) = arguments

-- the arguments of a type; a variable has none
unfoldable pub arguments_of : Ty → List Ty
arguments_of ty = arguments_step (out-Ty ty)

-- the number denotes the instance that was asked for
abbrev pub IsInstance : List Ty → Asked → TypeId → Type 0
IsInstance types asked made = IsNumber types asked.ty × IsNumber types asked.types
    × Denotes types made
    (instantiate (arguments_of (type_at types asked.types)) (type_at types asked.ty))

-- each entry is an instance with what it was asked by
abbrev pub AreInstances : List Ty → List (Asked × TypeId) → Type 0
AreInstances types = AllByRecursion (λ entry. IsInstance types entry.0 entry.1)

-- a type without variables: each instance is the type itself
abbrev pub IsGround : Ty → Type 0
IsGround ty = (instances : List Ty) → instantiate instances ty ≡ ty

-- what is noted to be without variables is so
abbrev pub AreGround : List Ty → List Bool → Type 0
AreGround types noted = (k : ℕ) → slice_get noted k ≡ Some true →
    (ty : Ty) × (slice_get types k ≡ Some ty) × IsGround ty
