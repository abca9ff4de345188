use Rattle.std.proofs.Common.{◌≡◌, drop}
use Rattle.tf_naked.specs.Naked.{naked_in_formulas, first_naked}
use Rattle.tf_naked.proofs.Walked.{first_of}
use Rattle.tf_naked.proofs.first.first_naked.Given as goal

abbrev pub invariant-loop-i : goal.invariant-loop-i
invariant-loop-i l =
    first_of (naked_in_formulas l.i (drop l.i l.normal.formulas)) ≡ first_naked l.normal
