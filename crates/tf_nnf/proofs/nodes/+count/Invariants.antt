use Rattle.std.proofs.Common.{take}
use Rattle.tf_nnf.specs.Nodes.{AreCounted}
use Rattle.tf_nnf.proofs.nodes.+count.Given as goal

abbrev pub invariant-count_all-loop-part : goal.invariant-count_all-loop-part
invariant-count_all-loop-part l = AreCounted (take l.part-index l.parts) l.positive l.negative
