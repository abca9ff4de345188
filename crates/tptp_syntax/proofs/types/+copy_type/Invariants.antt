use Rattle.std.proofs.Common.{◌≡◌, take}
use Rattle.tptp_syntax.proofs.types.+copy_type.Given as goal

abbrev pub invariant-copy_types-loop-ty : goal.invariant-copy_types-loop-ty
invariant-copy_types-loop-ty l = l.copied ≡ take l.ty-index l.types

abbrev pub invariant-copy_bounds-loop-bound : goal.invariant-copy_bounds-loop-bound
invariant-copy_bounds-loop-bound l = l.copied ≡ take l.bound-index l.bounds
