use Rattle.tf_types.proofs.MatchedLists.{IsSoFar}
use Rattle.tf_types.proofs.table.TypeTable.match_types.Given as goal

abbrev pub invariant-loop-i : goal.invariant-loop-i
invariant-loop-i l = IsSoFar l.self l.patterns l.ids l.fn.bound l.i l.bound
