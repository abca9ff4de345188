use Rattle.std.proofs.Common.{◌≡◌, take}
use Rattle.tptp_syntax.proofs.formula.+copy_formula.Given as goal

abbrev pub invariant-copy_formulas-loop-formula : goal.invariant-copy_formulas-loop-formula
invariant-copy_formulas-loop-formula l = l.copied ≡ take l.formula-index l.formulas
