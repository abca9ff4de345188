-- What checks say of the answer.
use Rattle.std.proofs.Common.{◌≡◌, ◌≢◌, List, [], ◌∷◌, ◌++◌, Option, Some, None, Result, Ok, Err, refl, sym, ap, ◌∙◌}
use Rattle.std.proofs.Common.{subst}
use Rattle.model_tables.specs.declared.error.TableError.{TableError}
use Rattle.model_tables.specs.declared.error.TableError.TheVariants as e
use Rattle.model_tables.specs.Steps.{unless_fault}
use Rattle.model_tables.specs.Checks.{first_fault, Checks}

-- where no fault stands, the answer goes on
pub unless-none : {A : Type 0} (faults : List TableError) (next : Result A TableError) → faults ≡ []
    → unless_fault faults next ≡ next
unless-none faults next none = ap (λ fs. unless_fault fs next) none

-- the first fault is the answer
pub unless-some : {A : Type 0} (faults : List TableError) (next : Result A TableError)
    (fault : TableError) → first_fault faults ≡ Some fault → unless_fault faults next ≡ Err fault
unless-some [] next fault is = cc
unless-some (first ∷ faults) next fault is = let same : first ≡ fault = cc in ap Err same

-- two lists that are empty
pub both_none : (a b : List TableError) → a ≡ [] → b ≡ [] → a ++ b ≡ []
both_none a b none other = ap (λ z. z ++ b) none ∙ other

-- the first fault is in the first list, or in the second where the first is empty

pub first_fault-front : (a b : List TableError) (fault : TableError) → first_fault a ≡ Some fault
    → first_fault (a ++ b) ≡ Some fault
first_fault-front [] b fault is = cc
first_fault-front (x ∷ a) b fault is = is

pub first_fault-behind : (a b : List TableError) (fault : TableError) → a ≡ []
    → first_fault b ≡ Some fault → first_fault (a ++ b) ≡ Some fault
first_fault-behind a b fault none is = ap (λ z. first_fault (z ++ b)) none ∙ is
