use Rattle.std.proofs.Common.{◌≡◌, drop}
use Rattle.tf_nnf.specs.NormalForm.{conjecture_of}
use Rattle.tf_nnf.proofs.normal.conjecture.Given as goal

abbrev pub invariant-loop-stated : goal.invariant-loop-stated
invariant-loop-stated l =
    conjecture_of (drop l.stated-index l.formulas) ≡ conjecture_of l.formulas
