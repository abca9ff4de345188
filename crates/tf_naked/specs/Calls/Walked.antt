-- What a walk through equations gives: the first naked place, or the number of the next equation.
use Rattle.std.specs.Prelude.{ℕ, ◌+◌, Bool, ◌&&◌, List, [], ◌∷◌, length, cond, Option, Some, None}
use Rattle.tf_naked.specs.declared.position.Kind.{Kind}
use Rattle.tf_naked.specs.declared.first.Walk.{Walk}
use Rattle.tf_naked.specs.declared.first.Walk.TheVariants.{Found, Passed}
use Rattle.tf_naked.specs.Standing.{is_universal}
use Rattle.tf_naked.specs.Naked.{Equation, NakedPlace, side_of, naked_in_equations}

-- the first of some naked places, or where there is none a number
abbrev pub first_or : ℕ → List NakedPlace → Walk
first_or next [] = Passed next
first_or next (naked ∷ places) = Found naked.place

-- a walk through equations that are numbered from here on
abbrev pub walked : ℕ → ℕ → List Equation → Walk
walked formula number equations =
    first_or (number + length equations) (naked_in_equations formula number equations)

-- the first naked side of an equation of this sign, between terms of these kinds
abbrev pub first_side : Bool → Kind → Kind → Option ℕ
first_side positive left right =
    cond (positive && is_universal left) (Some 0)
    (cond (positive && is_universal right) (Some 1) None)

-- a walk through an equation with this first naked side
abbrev pub walked_side : ℕ → ℕ → Option ℕ → Walk
walked_side formula number None = Passed (number + 1)
walked_side formula number (Some side) = Found (side_of formula number side)
