use Rattle.std.proofs.Common.{◌≡◌, take}
use Rattle.tf_core.proofs.signature.copy_constructors.Given as goal

abbrev pub invariant-loop-constructor : goal.invariant-loop-constructor
invariant-loop-constructor l = l.copied ≡ take l.constructor-index l.constructors
