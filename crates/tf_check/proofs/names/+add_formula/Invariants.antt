use Rattle.std.proofs.Common.{◌≡◌, ◌+◌, ◌*◌, map, sum, flat_map, take}
use Rattle.tptp_syntax.specs.FileSizes.{formula_nodes}
use Rattle.tf_check.specs.Names.{parameters_in, names_of_formula}
use Rattle.tf_check.specs.Table.{with_uses}
use Rattle.tf_check.proofs.names.+add_formula.Given as goal

abbrev pub invariant-add_parts-loop-part : goal.invariant-add_parts-loop-part
invariant-add_parts-loop-part l =
    l.table
    ≡ with_uses l.fn.table
    (flat_map (names_of_formula (parameters_in l.fn.table.symbols)) (take l.part-index l.parts))

abbrev pub decreases-add_formula : goal.decreases-add_formula
decreases-add_formula l = 2 * formula_nodes l.raw.now

abbrev pub decreases-add_both : goal.decreases-add_both
decreases-add_both l = 2 * (formula_nodes l.left.now + formula_nodes l.right.now) + 1

abbrev pub decreases-add_parts : goal.decreases-add_parts
decreases-add_parts l = 2 * sum (map formula_nodes l.parts.now) + 1
