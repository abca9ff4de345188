use Rattle.std.proofs.Common.{◌≡◌, take}
use Rattle.tf_core.proofs.problem.same_stated.Given as goal

abbrev pub invariant-loop-i : goal.invariant-loop-i
invariant-loop-i l = take l.i l.formulas ≡ take l.i l.others
