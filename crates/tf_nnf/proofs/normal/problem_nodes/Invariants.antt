use Rattle.std.proofs.Common.{◌≡◌, take}
use Rattle.std.specs.List.{sum_by}
use Rattle.enc_base.specs.Counts.{in_64_bits}
use Rattle.tf_nnf.specs.Nodes.{stated_nodes}
use Rattle.tf_nnf.proofs.normal.problem_nodes.Given as goal

abbrev pub invariant-loop-stated : goal.invariant-loop-stated
invariant-loop-stated l = l.nodes ≡ in_64_bits (sum_by stated_nodes (take l.stated-index l.formulas))
