-- The order of ground types: by constructor, then by arguments from the left.
use Rattle.std.specs.Prelude.{ℕ, ◌<◌, List, [], ◌∷◌}
use Rattle.std.specs.List.{AllByRecursion}
use Rattle.tf_core.specs.declared.ty.Ty.{Ty}
use Rattle.tf_core.specs.declared.ty.Ty.TheVariants.{Apply}

mutual
  -- a type stands before another
  pub data IsBefore : Ty → Ty → Type 0 where
    by_constructor : (c d : ℕ) (types others : List Ty) → c < d →
        IsBefore (Apply c types) (Apply d others)
    by_arguments : (c : ℕ) (types others : List Ty) → AreBefore types others →
        IsBefore (Apply c types) (Apply c others)

  -- a list of types stands before another of its length, in lexicographic order
  pub data AreBefore : List Ty → List Ty → Type 0 where
    at_first : (ty other : Ty) (types others : List Ty) → IsBefore ty other →
        AreBefore (ty ∷ types) (other ∷ others)
    at_later : (ty : Ty) (types others : List Ty) → AreBefore types others →
        AreBefore (ty ∷ types) (ty ∷ others)

-- each list stands before all later ones
abbrev pub AreInOrder : List (List Ty) → Type 0
AreInOrder [] = Unit {0}
AreInOrder (types ∷ lists) = AllByRecursion (AreBefore types) lists × AreInOrder lists
