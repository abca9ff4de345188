-- What the checks of a table give.
use Rattle.std.specs.Prelude.{◌≡◌, ◌≢◌, List, [], ◌∷◌, Option, Some, None, Result, Ok, Err}
use Rattle.model_tables.specs.declared.error.TableError.{TableError}
use Rattle.model_tables.specs.declared.error.TableError.TheVariants as e

-- the fault that refuses, where there are some
abbrev pub first_fault : List TableError → Option TableError
first_fault [] = None
first_fault (fault ∷ more) = Some fault

-- what a check for these faults gives: the first of them, if there is one, unless memory fails
abbrev pub Checks : {A : Type 0} → List TableError → Result A TableError → Type 0
Checks faults (Ok a) = faults ≡ []
Checks faults (Err fault) = fault ≢ e.Memory → first_fault faults ≡ Some fault
