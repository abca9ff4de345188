-- Checks for the faults of two lists, one behind the other.
use Rattle.std.proofs.Common.{◌≡◌, List, [], ◌++◌, Result, Ok, Err}
use Rattle.model_tables.specs.declared.error.TableError.{TableError}
use Rattle.model_tables.specs.Checks.{Checks}
use Rattle.model_tables.proofs.Checked.{both_none, first_fault-behind}

-- where the first list is empty, a check for the second is one for both
pub checks_behind : {A : Type 0} (a b : List TableError) (result : Result A TableError) → a ≡ []
    → Checks b result → Checks (a ++ b) result
checks_behind a b (Ok value) none checks = both_none a b none checks
checks_behind a b (Err fault) none checks =
    λ other. first_fault-behind a b fault none (checks other)
