use Rattle.structure_tables.proofs.Grouping.{IsJoining}
use Rattle.structure_tables.proofs.groups.join.Given as goal

abbrev pub invariant-loop-variable : goal.invariant-loop-variable
invariant-loop-variable l =
    IsJoining l.initial.groups l.variables l.groups l.group l.variable-index
