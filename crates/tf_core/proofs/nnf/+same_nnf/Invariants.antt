use Rattle.std.proofs.Common.{◌≡◌, take}
use Rattle.tf_core.proofs.nnf.+same_nnf.Given as goal

abbrev pub invariant-same_parts-loop-i : goal.invariant-same_parts-loop-i
invariant-same_parts-loop-i l = take l.i l.parts ≡ take l.i l.others
