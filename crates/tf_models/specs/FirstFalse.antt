-- The first formula of a problem that isn't as its role says.
use Rattle.std.specs.Prelude.{ℕ, ◌<◌, ◌≡◌, List, length, take, slice_get, Some}
use Rattle.std.specs.List.{AllByRecursion}
use Rattle.tf_core.specs.declared.problem.Stated.{Stated}
use Rattle.tf_core.specs.Structures.{Typed}
use Rattle.tf_core.specs.Models.{IsSatisfied, ByRole}

-- a hypothesis is satisfied, a conjecture isn't
abbrev pub IsAsStated : Typed → Stated → Type 0
IsAsStated s stated = ByRole stated.role (IsSatisfied s stated)

-- the formula at an index is a false hypothesis or a true conjecture, and none before it is
pub record IsFirstFalse (s : Typed) (formulas : List Stated) (index : ℕ) : Type 0 where
  pub within : index < length formulas
  pub fails : (stated : Stated) → slice_get formulas index ≡ Some stated → IsAsStated s stated → ⊥
  pub earlier : AllByRecursion (IsAsStated s) (take index formulas)
