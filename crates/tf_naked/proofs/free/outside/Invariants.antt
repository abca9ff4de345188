use Rattle.std.proofs.Common.{◌≡◌, take, List}
use Rattle.tf_core.specs.declared.ty.Ty.{Ty}
use Rattle.tf_naked.specs.Calls.Sets.{IsSetOf}
use Rattle.tf_naked.proofs.FreeSorts.{outside_of}
use Rattle.tf_naked.proofs.free.outside.Given as goal

abbrev pub invariant-loop-ty : goal.invariant-loop-ty
invariant-loop-ty l = (held : List Ty) → IsSetOf l.initial.set held →
    IsSetOf l.set held × (l.free ≡ outside_of held (take l.ty-index l.types))
