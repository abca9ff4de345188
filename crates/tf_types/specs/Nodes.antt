-- What the numbers of a table denote: each node gives a type over those of smaller numbers.
use Rattle.std.specs.Prelude.{◌≡◌, ◌<◌, ℕ, List, [], ◌∷◌, ◌++◌, length, map, slice_get, Some}
use Rattle.std.specs.List.{AllByRecursion}
use Rattle.tf_core.specs.declared.ty.Ty.{Ty, out-Ty}
use Rattle.tf_core.specs.declared.ty.Ty.TheVariants.{Var, Apply}
use Rattle.tf_core.specs.declared.ty.Ty.TheOpen.{Ty-F}
use Rattle.tf_core.specs.declared.ty.Ty.TheOpen as layer
use Rattle.tf_types.specs.declared.node.Node.{Node}
use Rattle.tf_types.specs.declared.node.Node.TheVariants.{Variable, Constructor, Applied}
use Rattle.tf_types.specs.declared.node.TypeNode.{TypeNode}
use Rattle.tf_types.specs.declared.node.TypeNode.TheVariants as node
use Rattle.tf_types.specs.Numbers.{IsOneToOne, type_at}

-- the type of a node: a variable, or a constructor applied to what the node's numbers denote
abbrev pub denoted : List Ty → TypeNode → Ty
denoted types (node.Var i) = Var i
denoted types (node.Apply c numbers) = Apply c (map (type_at types) numbers)

-- a node names numbers below the bound
abbrev pub NamesBelow : ℕ → TypeNode → Type 0
NamesBelow bound (node.Var i) = Unit {0}
NamesBelow bound (node.Apply c numbers) = AllByRecursion (λ number. number.index < bound) numbers

-- a type with one argument more; a variable takes none
abbrev pub with_argument_step : Ty → Ty-F Ty → Ty
with_argument_step argument (layer.Var i) = Var i
with_argument_step argument (layer.Apply c arguments) = Apply c (arguments ++ argument ∷ [])

unfoldable pub with_argument : Ty → Ty → Ty
with_argument ty argument = with_argument_step argument (out-Ty ty)

-- the type that a kept node gives, over the types of smaller numbers
abbrev pub given : List Ty → Node → Ty
given types (Variable i) = Var i
given types (Constructor c) = Apply c []
given types (Applied function argument) =
    with_argument (type_at types function) (type_at types argument)

-- the types that nodes give one after another, after those that stand
abbrev pub given_after : List Ty → List Node → List Ty
given_after types [] = types
given_after types (node ∷ nodes) = given_after (types ++ given types node ∷ []) nodes

-- the types that nodes denote, in the order of their numbers
unfoldable pub types_of : List Node → List Ty
types_of = given_after []

-- a constructor applied to types
abbrev pub IsApplication : Ty → Type 0
IsApplication ty = (c : ℕ) × (arguments : List Ty) × (ty ≡ Apply c arguments)

-- a node names numbers below the bound, and one that takes an argument
abbrev pub IsFormedBelow : ℕ → List Ty → Node → Type 0
IsFormedBelow bound types (Variable i) = Unit {0}
IsFormedBelow bound types (Constructor c) = Unit {0}
IsFormedBelow bound types (Applied function argument) =
    (function.index < bound) × (argument.index < bound) × IsApplication (type_at types function)

-- a node that may be added to the types
abbrev pub IsFormed : List Ty → Node → Type 0
IsFormed types = IsFormedBelow (length types) types

-- the nodes denote the types, each over smaller numbers, and no type stands twice
pub record AreNumbered (nodes : List Node) (types : List Ty) : Type 0 where
  pub count : length types ≡ length nodes
  pub formed : (k : ℕ) (node : Node) → slice_get nodes k ≡ Some node → IsFormedBelow k types node
  pub gives : (k : ℕ) (node : Node) → slice_get nodes k ≡ Some node →
      slice_get types k ≡ Some (given types node)
  pub one_to_one : IsOneToOne types
