-- An assignment as an environment holds it: members for type variables and elements for term
-- variables, each list with the number of items that it may have.
use Rattle.std.specs.Prelude.{ℕ, List}

-- The i-th member is that of type variable i; the last element is that of the nearest binder.
pub record Assignment : Type 0 where
  pub members : List ℕ
  pub members_room : ℕ
  pub elements : List ℕ
  pub elements_room : ℕ
