-- What an answer says of a visit: a value where there is no fault, and else the first fault. Of want
-- of memory nothing is said.
use Rattle.std.specs.Prelude.{◌≡◌, ◌≢◌, List, [], ◌++◌, slice_get, Some, Result, Ok, Err, IfOk, IfErr}
use Rattle.tf_check.specs.declared.error.TypeError.{TypeError}
use Rattle.tf_check.specs.declared.error.TypeError.TheVariants.{Memory}
use Rattle.tf_check.specs.Visited.{Visited, good, ◌>>=◌}

-- the error, want of memory apart, is the first fault
abbrev pub IsFirst : List TypeError → TypeError → Type 0
IsFirst faults fault = fault ≢ Memory → slice_get faults 0 ≡ Some fault

pub record Answers {A : Type 0} (visit : Visited A) (result : Result A TypeError) : Type 0 where
  pub exact : IfOk result (λ a. (visit.faults ≡ []) × (visit.value ≡ a))
  pub refused : IfErr result (IsFirst visit.faults)

-- the same answer with another value
abbrev pub with_value : {A B : Type 0} → Result A TypeError → B → Result B TypeError
with_value (Ok a) b = Ok b
with_value (Err fault) b = Err fault

-- the same answer with its value seen otherwise
abbrev pub map_ok : {A B : Type 0} → (A → B) → Result A TypeError → Result B TypeError
map_ok f (Ok a) = Ok (f a)
map_ok f (Err fault) = Err fault

-- what is visited, behind what is there already
abbrev pub appended : {A : Type 0} → List A → Visited (List A) → Visited (List A)
appended front visit = visit >>= λ back. good (front ++ back)
