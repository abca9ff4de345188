use Rattle.std.proofs.Common.{◌≡◌, take}
use Rattle.tf_core.proofs.nnf.+copy_nnf.Given as goal

abbrev pub invariant-copy_parts-loop-part : goal.invariant-copy_parts-loop-part
invariant-copy_parts-loop-part l = l.copied ≡ take l.part-index l.parts
