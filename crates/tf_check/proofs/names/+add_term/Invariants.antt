use Rattle.std.proofs.Common.{◌≡◌, ◌+◌, ◌*◌, map, flat_map, sum, take}
use Rattle.tptp_syntax.specs.FileSizes.{term_nodes}
use Rattle.tf_check.specs.Names.{parameters_in, names_of_term}
use Rattle.tf_check.specs.Table.{with_uses}
use Rattle.tf_check.proofs.names.+add_term.Given as goal

abbrev pub invariant-add_terms-loop-raw : goal.invariant-add_terms-loop-raw
invariant-add_terms-loop-raw l =
    l.table
    ≡ with_uses l.fn.table
    (flat_map (names_of_term (parameters_in l.fn.table.symbols)) (take l.raw-index l.raws))

abbrev pub decreases-add_term : goal.decreases-add_term
decreases-add_term l = 2 * term_nodes l.raw.now

abbrev pub decreases-add_terms : goal.decreases-add_terms
decreases-add_terms l = 2 * sum (map term_nodes l.raws.now) + 1
