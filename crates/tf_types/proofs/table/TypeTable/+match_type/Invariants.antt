use Rattle.tf_types.proofs.Matches.{IsLeft}
use Rattle.tf_types.proofs.table.TypeTable.+match_type.Given as goal

abbrev pub invariant-match_applied-loop-left : goal.invariant-match_applied-loop-left
invariant-match_applied-loop-left l =
    IsLeft l.self l.constructor l.patterns l.fn.id l.fn.bound l.left l.at l.bound

abbrev pub decreases-match_applied-loop-left : goal.decreases-match_applied-loop-left
decreases-match_applied-loop-left l = l.left
