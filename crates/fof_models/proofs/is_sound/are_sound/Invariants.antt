use Rattle.std.proofs.Common.{take}
use Rattle.std.specs.List.{AllByRecursion}
use Rattle.fof_models.specs.Sound.{IsSoundFormula}
use Rattle.fof_models.proofs.is_sound.are_sound.Given as goal

abbrev pub invariant-loop-formula : goal.invariant-loop-formula
invariant-loop-formula l =
    AllByRecursion (IsSoundFormula l.signature) (take l.formula-index l.formulas)
