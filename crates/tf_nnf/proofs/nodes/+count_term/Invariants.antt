use Rattle.std.proofs.Common.{◌≡◌, take}
use Rattle.std.specs.List.{sum_by}
use Rattle.enc_base.specs.Counts.{in_64_bits}
use Rattle.tf_nnf.specs.Nodes.{term_nodes}
use Rattle.tf_nnf.proofs.nodes.+count_term.Given as goal

abbrev pub invariant-count_terms-loop-term : goal.invariant-count_terms-loop-term
invariant-count_terms-loop-term l =
    l.nodes ≡ in_64_bits (sum_by term_nodes (take l.term-index l.terms))
