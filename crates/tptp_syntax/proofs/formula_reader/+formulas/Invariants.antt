use Rattle.std.proofs.Common.{◌+◌, ◌*◌, length}
use Rattle.tptp_phrases.specs.Readers.{takes, many_at, behind, seen}
use Rattle.tptp_phrases.proofs.Turns.{Turning}
use Rattle.tptp_syntax.specs.Ahead as spec
use Rattle.tptp_syntax.specs.Descent as descent
use Rattle.tptp_syntax.proofs.formula_reader.+formulas.Given as goal

abbrev pub decreases-unit_inside : goal.decreases-unit_inside
decreases-unit_inside l = 8 * l.left

abbrev pub decreases-universal : goal.decreases-universal
decreases-universal l = 8 * l.left + 1

abbrev pub decreases-existential : goal.decreases-existential
decreases-existential l = 8 * l.left + 1

abbrev pub decreases-next : goal.decreases-next
decreases-next l = 8 * l.left + 1

abbrev pub decreases-more : goal.decreases-more
decreases-more l = 8 * l.left + 2

abbrev pub decreases-parts : goal.decreases-parts
decreases-parts l = 8 * l.left + 3

abbrev pub decreases-joined_formula : goal.decreases-joined_formula
decreases-joined_formula l = 8 * l.left + 4

abbrev pub decreases-formula_inside : goal.decreases-formula_inside
decreases-formula_inside l = 8 * l.left + 5

abbrev pub decreases-bracketed : goal.decreases-bracketed
decreases-bracketed l = 8 * l.left + 6

abbrev pub decreases-unit : goal.decreases-unit
decreases-unit l = 8 * l.left + 7

abbrev pub invariant-more-items : goal.invariant-more-items
invariant-more-items l =
    Turning (takes (spec.fixed l.word))
    (behind (spec.fixed l.word) (descent.unit_inside l.language l.left 1))
    (many_at (takes (spec.fixed l.word))
    (behind (spec.fixed l.word) (descent.unit_inside l.language l.left 1))
    l.initial.found l.initial.reader) l.found l.reader

abbrev pub decreases-more-items : goal.decreases-more-items
decreases-more-items l = length (seen l.reader)
