use Rattle.std.proofs.Common.{take}
use Rattle.structure_tables.proofs.ParameterUses.{AreSoFar}
use Rattle.structure_tables.proofs.groups.add_uses.Given as goal

abbrev pub invariant-loop-variable : goal.invariant-loop-variable
invariant-loop-variable l =
    AreSoFar l.initial.uses (take l.variable-index l.variables) l.uses
