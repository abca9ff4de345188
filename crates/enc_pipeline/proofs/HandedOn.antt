-- Errors that a call hands on.
use Rattle.std.proofs.Common.{◌≡◌, Result, Ok, Err, sym, subst}
use Rattle.std.specs.Prelude.{IsErr, IsErrAnd}

-- what an error that is handed on ends with
pub handed_on : {A E : Type 0} (Ends : Result A E → Type 0) (result : Result A E) (error : E)
    → IsErr result × IsErrAnd result (λ other. other ≡ error) → Ends (Err error) → Ends result
handed_on Ends (Ok value) error on ends = absurd on.1
handed_on Ends (Err other) error on ends = subst (λ e. Ends (Err e)) (sym on.1) ends
