use Rattle.tf_types.proofs.Parts.{IsPassed}
use Rattle.tf_types.proofs.table.TypeTable.node_at.Given as goal

abbrev pub invariant-loop-i : goal.invariant-loop-i
invariant-loop-i l = IsPassed l.self l.fn.id l.at l.arguments.items

abbrev pub decreases-loop-i : goal.decreases-loop-i
decreases-loop-i l = l.at.index
