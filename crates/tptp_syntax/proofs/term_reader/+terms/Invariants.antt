use Rattle.std.proofs.Common.{◌+◌, ◌*◌, length}
use Rattle.std.specs.Prelude.{codes}
use Rattle.tptp_words.specs.Words.{mark}
use Rattle.tptp_phrases.specs.Readers.{many_at, behind, seen}
use Rattle.tptp_phrases.proofs.Turns.{Turning}
use Rattle.tptp_syntax.specs.Descent as descent
use Rattle.tptp_syntax.proofs.term_reader.+terms.Given as goal

abbrev pub decreases-term_inside : goal.decreases-term_inside
decreases-term_inside l = 7 * l.left

abbrev pub decreases-next : goal.decreases-next
decreases-next l = 7 * l.left + 1

abbrev pub decreases-more : goal.decreases-more
decreases-more l = 7 * l.left + 2

abbrev pub decreases-listed : goal.decreases-listed
decreases-listed l = 7 * l.left + 3

abbrev pub decreases-arguments : goal.decreases-arguments
decreases-arguments l = 7 * l.left + 4

abbrev pub decreases-applied_term : goal.decreases-applied_term
decreases-applied_term l = 7 * l.left + 5

abbrev pub decreases-term : goal.decreases-term
decreases-term l = 7 * l.left + 6

abbrev pub invariant-more-items : goal.invariant-more-items
invariant-more-items l =
    Turning (descent.sees (codes ",")) (behind (mark (codes ",")) (descent.term_inside l.left 1))
    (many_at (descent.sees (codes ",")) (behind (mark (codes ",")) (descent.term_inside l.left 1))
    l.initial.found l.initial.reader) l.found l.reader

abbrev pub decreases-more-items : goal.decreases-more-items
decreases-more-items l = length (seen l.reader)
