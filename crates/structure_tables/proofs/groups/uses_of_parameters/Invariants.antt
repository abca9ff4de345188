use Rattle.std.proofs.Common.{take}
use Rattle.structure_tables.proofs.ParameterUses.{AreUsesSoFar}
use Rattle.structure_tables.proofs.groups.uses_of_parameters.Given as goal

abbrev pub invariant-loop-ty : goal.invariant-loop-ty
invariant-loop-ty l =
    AreUsesSoFar l.symbol.parameters (take l.ty-index l.symbol.arguments) l.uses.items
