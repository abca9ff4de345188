use Rattle.std.proofs.Common.{◌≡◌, map, take}
use Rattle.tf_core.specs.Types.{instantiate}
use Rattle.tf_core.proofs.ty.+instantiate.Given as goal

abbrev pub invariant-instances_of-loop-argument : goal.invariant-instances_of-loop-argument
invariant-instances_of-loop-argument l = l.instances ≡ map (instantiate l.types) (take l.argument-index l.arguments)
