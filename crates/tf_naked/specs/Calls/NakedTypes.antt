-- The types of the equations that have a naked side.
use Rattle.std.specs.Prelude.{ℕ, List, [], ◌∷◌, ◌++◌, Option, Some, None}
use Rattle.tf_core.specs.declared.ty.Ty.{Ty}
use Rattle.tf_naked.specs.Naked.{Equation}
use Rattle.tf_naked.specs.Calls.Walked.{first_side}

-- a type, where there is a side
abbrev pub type_at_side : Option ℕ → Ty → List Ty
type_at_side None ty = []
type_at_side (Some side) ty = ty ∷ []

abbrev pub naked_types : List Equation → List Ty
naked_types [] = []
naked_types (equation ∷ equations) =
    type_at_side (first_side equation.positive equation.left equation.right) equation.ty
    ++ naked_types equations
