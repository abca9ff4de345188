use Rattle.std.proofs.Common.{◌≡◌, take}
use Rattle.tf_core.proofs.ty.+same_type.Given as goal

abbrev pub invariant-same_types-loop-i : goal.invariant-same_types-loop-i
invariant-same_types-loop-i l = take l.i l.types ≡ take l.i l.others
