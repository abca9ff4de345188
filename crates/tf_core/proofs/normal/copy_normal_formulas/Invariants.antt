use Rattle.std.proofs.Common.{◌≡◌, take}
use Rattle.tf_core.proofs.normal.copy_normal_formulas.Given as goal

abbrev pub invariant-loop-formula : goal.invariant-loop-formula
invariant-loop-formula l = l.copied ≡ take l.formula-index l.formulas
