use Rattle.std.proofs.Common.{◌≡◌, length}
use Rattle.tf_check.specs.Core.{maker}
use Rattle.tf_check.specs.Formulas.{quantified}
use Rattle.tf_check.proofs.formulas.quantified.Given as goal

abbrev pub invariant-loop-ty : goal.invariant-loop-ty
invariant-loop-ty l =
    quantified (maker l.quantifier) l.types.items l.formula
    ≡ quantified (maker l.quantifier) l.fn.types l.fn.body

abbrev pub decreases-loop-ty : goal.decreases-loop-ty
decreases-loop-ty l = length l.types.items
