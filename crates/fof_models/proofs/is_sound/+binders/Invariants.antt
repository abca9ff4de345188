use Rattle.std.proofs.Common.{◌≡◌, ◌-◌, ◌^◌, map, min, sum, take}
use Rattle.fof_models.specs.Sound.{binder_count}
use Rattle.fof_models.proofs.is_sound.+binders.Given as goal

abbrev pub invariant-all_binders-loop-part : goal.invariant-all_binders-loop-part
invariant-all_binders-loop-part l =
    l.count ≡ min (sum (map binder_count (take l.part-index l.parts))) (2 ^ 32 - 1)
