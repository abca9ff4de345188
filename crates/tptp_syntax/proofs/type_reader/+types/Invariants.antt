use Rattle.std.proofs.Common.{◌+◌, ◌*◌, length}
use Rattle.std.specs.Prelude.{codes}
use Rattle.tptp_words.specs.Words.{mark}
use Rattle.tptp_phrases.specs.Readers.{many_at, behind, seen}
use Rattle.tptp_phrases.proofs.Turns.{Turning}
use Rattle.tptp_syntax.specs.Descent as descent
use Rattle.tptp_syntax.proofs.type_reader.+types.Given as goal

abbrev pub decreases-type_inside : goal.decreases-type_inside
decreases-type_inside l = 12 * l.left

abbrev pub decreases-quantified : goal.decreases-quantified
decreases-quantified l = 12 * l.left + 1

abbrev pub decreases-bracketed : goal.decreases-bracketed
decreases-bracketed l = 12 * l.left + 1

abbrev pub decreases-next : goal.decreases-next
decreases-next l = 12 * l.left + 1

abbrev pub decreases-more : goal.decreases-more
decreases-more l = 12 * l.left + 2

abbrev pub decreases-listed : goal.decreases-listed
decreases-listed l = 12 * l.left + 3

abbrev pub decreases-arguments : goal.decreases-arguments
decreases-arguments l = 12 * l.left + 4

abbrev pub decreases-applied : goal.decreases-applied
decreases-applied l = 12 * l.left + 5

abbrev pub decreases-unit_type : goal.decreases-unit_type
decreases-unit_type l = 12 * l.left + 6

abbrev pub decreases-next_part : goal.decreases-next_part
decreases-next_part l = 12 * l.left + 7

abbrev pub decreases-more_parts : goal.decreases-more_parts
decreases-more_parts l = 12 * l.left + 8

abbrev pub decreases-parts : goal.decreases-parts
decreases-parts l = 12 * l.left + 9

abbrev pub decreases-product : goal.decreases-product
decreases-product l = 12 * l.left + 10

abbrev pub decreases-type_expr : goal.decreases-type_expr
decreases-type_expr l = 12 * l.left + 11

abbrev pub invariant-more-items : goal.invariant-more-items
invariant-more-items l =
    Turning (descent.sees (codes ",")) (behind (mark (codes ",")) (descent.type_inside l.left 1))
    (many_at (descent.sees (codes ",")) (behind (mark (codes ",")) (descent.type_inside l.left 1))
    l.initial.found l.initial.reader) l.found l.reader

abbrev pub decreases-more-items : goal.decreases-more-items
decreases-more-items l = length (seen l.reader)

abbrev pub invariant-more_parts-items : goal.invariant-more_parts-items
invariant-more_parts-items l =
    Turning (descent.sees (codes "*"))
    (behind (mark (codes "*")) (descent.unit_type_at (descent.type_inside l.left 1)))
    (many_at (descent.sees (codes "*"))
    (behind (mark (codes "*")) (descent.unit_type_at (descent.type_inside l.left 1)))
    l.initial.found l.initial.reader) l.found l.reader

abbrev pub decreases-more_parts-items : goal.decreases-more_parts-items
decreases-more_parts-items l = length (seen l.reader)
