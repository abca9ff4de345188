-- Numbers of types: a table is a list of types, and the type in place n has the number n.
use Rattle.std.specs.Prelude.{◌≡◌, ◌<◌, ℕ, List, [], ◌∷◌, ◌++◌, length, get_or, slice_get, Some}
use Rattle.std.specs.List.{AllByRecursion}
use Rattle.tf_core.specs.declared.ty.Ty.{Ty}
use Rattle.tf_core.specs.declared.ty.Ty.TheVariants.{Var, Apply}
use Rattle.tf_types.specs.declared.node.TypeId.{TypeId}

-- the number denotes the type
abbrev pub Denotes : List Ty → TypeId → Ty → Type 0
Denotes types id ty = slice_get types id.index ≡ Some ty

-- no number denotes the type
abbrev pub IsAbsent : List Ty → Ty → Type 0
IsAbsent types ty = (id : TypeId) → Denotes types id ty → ⊥

-- some number denotes the type
abbrev pub Stands : List Ty → Ty → Type 0
Stands types ty = (id : TypeId) × Denotes types id ty

-- With a type that is applied to arguments stand that with one argument less, and the last argument.
abbrev pub HoldsParts : List Ty → Type 0
HoldsParts types = (c : ℕ) (front : List Ty) (last : Ty) →
    Stands types (Apply c (front ++ last ∷ [])) →
    Stands types (Apply c front) × Stands types last

-- the number is one of the table
abbrev pub IsNumber : List Ty → TypeId → Type 0
IsNumber types id = id.index < length types

-- the numbers are of the table
abbrev pub AreNumbers : List Ty → List TypeId → Type 0
AreNumbers types = AllByRecursion (IsNumber types)

-- the type that a number of the table denotes
abbrev pub type_at : List Ty → TypeId → Ty
type_at types id = get_or types id.index (Var 0)

-- no type stands twice
abbrev pub IsOneToOne : List Ty → Type 0
IsOneToOne types =
    (a b : ℕ) (ty : Ty) → slice_get types a ≡ Some ty → slice_get types b ≡ Some ty → a ≡ b

-- types may have been added, and each that stood keeps its number
abbrev pub Extends : List Ty → List Ty → Type 0
Extends old new = (added : List Ty) × (new ≡ old ++ added)
