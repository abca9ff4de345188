-- Naked places of a normal problem, and which of its sorts are free.
use Rattle.std.specs.Prelude.{ℕ, ◌+◌, Bool, false, not, ◌&&◌, ◌||◌, List, [], ◌∷◌, ◌++◌, map, cond}
use Rattle.std.specs.Prelude.{slice_get, Option}
use Rattle.std.specs.List.{list_any}
use Rattle.tf_core.specs.declared.ty.Ty.{Ty}
use Rattle.tf_core.specs.declared.nnf.Nnf.{Nnf}
use Rattle.tf_core.specs.declared.nnf.Nnf.TheOpen.{Nnf-F}
use Rattle.tf_core.specs.declared.nnf.Nnf.TheOpen as layer
use Rattle.tf_core.specs.declared.nnf.Nnf.TheFolds.{fold-Nnf}
use Rattle.tf_core.specs.declared.normal.NormalFormula.{NormalFormula}
use Rattle.tf_core.specs.declared.normal.Normal.{Normal}
use Rattle.tf_core.specs.Sorts.{joined, sorts}
use Rattle.tf_core.specs.Types.{same_type}
use Rattle.tf_naked.specs.declared.place.Place.{Place}
use Rattle.tf_naked.specs.declared.position.Kind.{Kind}
use Rattle.tf_naked.specs.declared.position.Kind.TheVariants.{Universal, Existential}
use Rattle.tf_naked.specs.Standing.{is_universal, kind_of}

-- an equation of a formula: its sign, the type of its sides, and what they are
pub record Equation : Type 0 where
  pub positive : Bool
  pub ty : Ty
  pub left : Kind
  pub right : Kind

abbrev pub equations_step : Nnf-F (List Kind → List Equation) → List Kind → List Equation
equations_step layer.True kinds = []
equations_step layer.False kinds = []
equations_step (layer.Atom positive f types terms) kinds = []
equations_step (layer.Equation positive ty left right) kinds =
    record {
      positive = positive;
      ty = ty;
      left = kind_of kinds left;
      right = kind_of kinds right;
    } ∷ []
equations_step (layer.And parts) kinds = joined (map (λ part. part kinds) parts)
equations_step (layer.Or parts) kinds = joined (map (λ part. part kinds) parts)
equations_step (layer.ForAll ty body) kinds = body (Universal ∷ kinds)
equations_step (layer.Exists ty body) kinds = body (Existential ∷ kinds)

-- the equations of a formula under binders of these kinds, in reading order
unfoldable pub equations_of : Nnf → List Kind → List Equation
equations_of = fold-Nnf (List Kind → List Equation) equations_step

-- a naked place, and the type of the variable there
pub record NakedPlace : Type 0 where
  pub place : Place
  pub ty : Ty

-- a side of an equation, where it is naked: a universal variable, and the equation positive
abbrev pub naked_side : Place → Equation → Kind → List NakedPlace
naked_side place equation kind =
    cond (equation.positive && is_universal kind)
    (record { place = place; ty = equation.ty } ∷ [])
    []

abbrev pub side_of : ℕ → ℕ → ℕ → Place
side_of formula equation side = record { formula = formula; equation = equation; side = side }

-- the naked places of an equation: the left side, then the right one
abbrev pub naked_sides : ℕ → ℕ → Equation → List NakedPlace
naked_sides formula number equation =
    naked_side (side_of formula number 0) equation equation.left
    ++ naked_side (side_of formula number 1) equation equation.right

-- those of equations that are numbered from here on
abbrev pub naked_in_equations : ℕ → ℕ → List Equation → List NakedPlace
naked_in_equations formula number [] = []
naked_in_equations formula number (equation ∷ equations) =
    naked_sides formula number equation ++ naked_in_equations formula (number + 1) equations

-- those of formulas that are numbered from here on
abbrev pub naked_in_formulas : ℕ → List NormalFormula → List NakedPlace
naked_in_formulas number [] = []
naked_in_formulas number (formula ∷ formulas) =
    naked_in_equations number 0 (equations_of formula.body [])
    ++ naked_in_formulas (number + 1) formulas

-- the naked places of a normal problem, ordered by formula, equation and side
unfoldable pub naked_places : Normal → List NakedPlace
naked_places normal = naked_in_formulas 0 normal.formulas

-- the first naked place, where there is one
abbrev pub first_naked : Normal → Option Place
first_naked normal = slice_get (map (λ naked. naked.place) (naked_places normal)) 0

-- whether some naked place has the type
abbrev pub is_naked_type : Normal → Ty → Bool
is_naked_type normal ty = list_any (λ naked. same_type ty naked.ty) (naked_places normal)

-- whether the list is this type alone
abbrev pub is_only : Ty → List Ty → Bool
is_only ty [] = false
is_only ty (sort ∷ []) = same_type ty sort
is_only ty (sort ∷ other ∷ sorts) = false

-- whether a sort is free: no naked place has it, or it is the only sort
unfoldable pub is_free : Normal → Ty → Bool
is_free normal ty = not (is_naked_type normal ty) || is_only ty (sorts normal)
