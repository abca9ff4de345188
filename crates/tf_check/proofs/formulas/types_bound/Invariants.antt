use Rattle.std.proofs.Common.{◌≡◌, ◌≤◌, take}
use Rattle.tf_check.specs.Formulas.{types_bound}
use Rattle.tf_check.proofs.formulas.types_bound.Given as goal

abbrev pub invariant-loop-bound : goal.invariant-loop-bound
invariant-loop-bound l =
    (l.count ≡ types_bound (take l.bound-index l.bounds)) × (l.count ≤ l.bound-index)
