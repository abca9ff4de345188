use Rattle.std.proofs.Common.{◌≡◌, ◌-◌, ◌^◌, map, min, take}
use Rattle.fof_models.specs.Sound.{depth, greatest}
use Rattle.fof_models.proofs.formula.+nested.Given as goal

abbrev pub invariant-most_nested-loop-part : goal.invariant-most_nested-loop-part
invariant-most_nested-loop-part l =
    l.most ≡ min (greatest (map depth (take l.part-index l.parts))) (2 ^ 32 - 1)
