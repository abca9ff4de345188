use Rattle.std.proofs.Common.{take}
use Rattle.tf_core.specs.declared.ty.Ty.TheVariants.{Apply}
use Rattle.tf_types.specs.Numbers.{Denotes}
use Rattle.tf_types.proofs.table.TypeTable.+find.Given as goal

abbrev pub invariant-find_applied-loop-ty : goal.invariant-find_applied-loop-ty
invariant-find_applied-loop-ty l =
    Denotes l.self l.id (Apply l.constructor (take l.ty-index l.types))
