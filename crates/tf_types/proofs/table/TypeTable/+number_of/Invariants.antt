use Rattle.std.proofs.Common.{take}
use Rattle.tf_types.proofs.Applied.{IsApplied}
use Rattle.tf_types.proofs.table.TypeTable.+number_of.Given as goal

abbrev pub invariant-number_of_applied-loop-ty : goal.invariant-number_of_applied-loop-ty
invariant-number_of_applied-loop-ty l =
    IsApplied l.fn.self l.self l.id l.constructor (take l.ty-index l.types)
