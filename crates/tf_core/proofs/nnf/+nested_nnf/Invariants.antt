use Rattle.std.proofs.Common.{◌≡◌, map, take}
use Rattle.tf_core.specs.Counts.{normal_depth, greatest}
use Rattle.tf_core.proofs.nnf.+nested_nnf.Given as goal

abbrev pub invariant-most_nested-loop-part : goal.invariant-most_nested-loop-part
invariant-most_nested-loop-part l = l.most ≡ greatest (map (normal_depth) (take l.part-index l.parts))
