use Rattle.std.proofs.Common.{◌≡◌, ◌+◌, ◌*◌, map, sum, take, Ok}
use Rattle.tptp_syntax.specs.FileSizes.{formula_nodes}
use Rattle.tf_check.specs.Answers.{Answers}
use Rattle.tf_check.specs.Bound.{Keeps}
use Rattle.tf_check.specs.Visited.{in_turn}
use Rattle.tf_check.proofs.FormulaAnswers.{part_visit}
use Rattle.tf_check.proofs.formulas.+formula_of.Given as goal

abbrev pub decreases-formula_of : goal.decreases-formula_of
decreases-formula_of l = 3 * formula_nodes l.raw.now

abbrev pub decreases-part_of : goal.decreases-part_of
decreases-part_of l = 3 * formula_nodes l.raw.now + 1

abbrev pub decreases-parts_of : goal.decreases-parts_of
decreases-parts_of l = 3 * sum (map formula_nodes l.raws.now) + 1

abbrev pub decreases-two : goal.decreases-two
decreases-two l = 3 * (formula_nodes l.left.now + formula_nodes l.right.now) + 2

abbrev pub decreases-quantifier_of : goal.decreases-quantifier_of
decreases-quantifier_of l = 3 * formula_nodes l.body.now + 1

-- the parts so far, under the names that were bound at first
abbrev pub invariant-parts_of-loop-raw : goal.invariant-parts_of-loop-raw
invariant-parts_of-loop-raw l =
    Answers
    (in_turn (map (part_visit l.context.entry l.context.table.now l.fn.scope.names)
    (take l.raw-index l.raws)))
    (Ok l.parts)
    × Keeps l.fn.scope l.scope
