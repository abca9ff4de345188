-- Types: their values, their instances, their nodes and their equality.
use Rattle.std.specs.Prelude.{ℕ, ◌+◌, Bool, true, false, ◌&&◌, List, [], ◌∷◌, eqb, sum, slice_index, get_or}
use Rattle.tf_core.specs.declared.ty.Ty.{Ty, out-Ty}
use Rattle.tf_core.specs.declared.ty.Ty.TheVariants.{Var, Apply}
use Rattle.tf_core.specs.declared.ty.Ty.TheOpen.{Ty-F}
use Rattle.tf_core.specs.declared.ty.Ty.TheOpen as layer
use Rattle.tf_core.specs.declared.ty.Ty.TheFolds.{fold-Ty}

-- one layer of a type's value
abbrev pub type_value_step : (ℕ → List ℕ → ℕ) → List ℕ → Ty-F ℕ → ℕ
type_value_step constructor_at members (layer.Var i) = slice_index members i
type_value_step constructor_at members (layer.Apply c arguments) = constructor_at c arguments

-- The value of a type: a member, by what each constructor gives for members, and the members of
-- the type variables.
unfoldable pub type_value : (ℕ → List ℕ → ℕ) → List ℕ → Ty → ℕ
type_value constructor_at members = fold-Ty ℕ (type_value_step constructor_at members)

-- one layer of an instance
abbrev pub instantiate_step : List Ty → Ty-F Ty → Ty
instantiate_step types (layer.Var i) = get_or types i (Var i)
instantiate_step types (layer.Apply c arguments) = Apply c arguments

-- a type with its variables replaced, the i-th variable by the i-th of the types
unfoldable pub instantiate : List Ty → Ty → Ty
instantiate types = fold-Ty Ty (instantiate_step types)

-- one layer of the count of nodes
abbrev pub type_nodes_step : Ty-F ℕ → ℕ
type_nodes_step (layer.Var i) = 1
type_nodes_step (layer.Apply c arguments) = 1 + sum arguments

-- how many variables and constructors stand in a type, seen as a tree
unfoldable pub type_nodes : Ty → ℕ
type_nodes = fold-Ty ℕ type_nodes_step

-- each item passes the test in its place, and there are as many items as tests
abbrev pub pass_in_order : {A : Type 0} → List (A → Bool) → List A → Bool
pass_in_order [] [] = true
pass_in_order [] (item ∷ items) = false
pass_in_order (test ∷ tests) [] = false
pass_in_order (test ∷ tests) (item ∷ items) = test item && pass_in_order tests items

abbrev pub is_variable : ℕ → Ty-F Ty → Bool
is_variable i (layer.Var j) = eqb i j
is_variable i (layer.Apply c arguments) = false

abbrev pub is_application : ℕ → List (Ty → Bool) → Ty-F Ty → Bool
is_application c tests (layer.Var i) = false
is_application c tests (layer.Apply d arguments) = eqb c d && pass_in_order tests arguments

abbrev pub same_type_step : Ty-F (Ty → Bool) → Ty → Bool
same_type_step (layer.Var i) other = is_variable i (out-Ty other)
same_type_step (layer.Apply c tests) other = is_application c tests (out-Ty other)

-- whether two types are equal
unfoldable pub same_type : Ty → Ty → Bool
same_type = fold-Ty (Ty → Bool) same_type_step
