use Rattle.std.proofs.Common.{◌≡◌, take}
use Rattle.tf_core.proofs.signature.same_constructors.Given as goal

abbrev pub invariant-loop-i : goal.invariant-loop-i
invariant-loop-i l = take l.i l.constructors ≡ take l.i l.others
