-- Small structures whose values are computed, for tests.
use Rattle.std.specs.Prelude.{ℕ, ◌-◌, List, [], ◌∷◌, cond, eqb, ltb, length, slice_index}
use Rattle.fof_models.specs.Structures.{Untyped}
use Rattle.tf_core.specs.Structures.{Typed}

-- numbers below three: symbol 1 is their difference, or 0, any other symbol of two arguments their
-- order, and of other numbers of arguments 1
abbrev pub number_at : ℕ → List ℕ → ℕ
number_at f elements =
    cond (eqb (length elements) 2)
    (cond (eqb f 1) (slice_index elements 0 - slice_index elements 1)
    (cond (ltb (slice_index elements 0) (slice_index elements 1)) 1 0))
    1

abbrev pub numbers : Untyped
numbers = record { size = 3; symbol_at = number_at }

-- a member for members: the other one of the first of two, or the first where there is none
abbrev pub other_member : ℕ → List ℕ → ℕ
other_member c members = cond (eqb (length members) 0) 0 (1 - slice_index members 0)

-- whether the last element is as large as the first member
abbrev pub as_large : ℕ → List ℕ → List ℕ → ℕ
as_large f members elements =
    cond (ltb (slice_index elements (length elements - 1)) (slice_index members 0)) 0 1

-- two members, of two elements and of three
abbrev pub pair : Typed
pair = record { sizes = 2 ∷ 3 ∷ []; constructor_at = other_member; symbol_at = as_large }

-- members of these sizes, where each constructor gives the first member and each symbol the first
-- element
abbrev pub firsts : List ℕ → Typed
firsts sizes = record { sizes = sizes; constructor_at = λ c members. 0; symbol_at = λ f members elements. 0 }
