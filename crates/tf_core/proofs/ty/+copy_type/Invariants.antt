use Rattle.std.proofs.Common.{◌≡◌, take}
use Rattle.tf_core.proofs.ty.+copy_type.Given as goal

abbrev pub invariant-copy_types-loop-ty : goal.invariant-copy_types-loop-ty
invariant-copy_types-loop-ty l = l.copied ≡ take l.ty-index l.types
