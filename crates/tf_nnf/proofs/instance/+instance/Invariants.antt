use Rattle.std.proofs.Common.{◌≡◌, map, take}
use Rattle.tf_core.specs.Types.{instantiate}
use Rattle.tf_nnf.specs.NormalForm.{fresh_types}
use Rattle.tf_nnf.proofs.instance.+instance.Given as goal

abbrev pub invariant-instances-loop-ty : goal.invariant-instances-loop-ty
invariant-instances-loop-ty l =
    l.made ≡ map (instantiate (fresh_types l.fresh.first l.fresh.count)) (take l.ty-index l.types)
