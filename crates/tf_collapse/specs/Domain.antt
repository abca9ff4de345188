-- The collapsed domain of a typed structure: so many numbers, in which an element of a member is
-- its own number. A number that is no element of a member is a clone of its first.
use Rattle.std.specs.Prelude.{ℕ, ◌<◌, ◌≤◌, List, [], ◌∷◌, length, slice_index}
use Rattle.enc_laws.specs.CollapsedStructure.{collapse}

-- how many numbers it has, and how many elements each member
pub record CollapsedDomain : Type 0 where
  pub big : ℕ
  pub sizes : List ℕ

-- each member has an element, and no more of them than there are numbers
pub record IsDomain (d : CollapsedDomain) : Type 0 where
  pub inhabited : (m : ℕ) → m < length d.sizes → 0 < slice_index d.sizes m
  pub within : (m : ℕ) → m < length d.sizes → slice_index d.sizes m ≤ d.big

-- the elements that numbers are read as, each in a member of its own size
abbrev pub collapse_each : List ℕ → List ℕ → List ℕ
collapse_each [] values = []
collapse_each (size ∷ sizes) [] = []
collapse_each (size ∷ sizes) (v ∷ values) = collapse size v ∷ collapse_each sizes values
