use Rattle.std.proofs.Common.{[], ap, subst}
use Rattle.tf_core.specs.declared.normal.NormalFormula.{NormalFormula}
use Rattle.tf_naked.specs.Naked.{equations_of}
use Rattle.tf_naked.specs.Calls.Sets.{Adds}
use Rattle.tf_naked.specs.Calls.NakedTypes.{naked_types}
use Rattle.tf_naked.proofs.Frames.{kinds_of-outside}
use Rattle.tf_naked.proofs.FreeSorts.{Adds-more, Adds-end}
use Rattle.tf_naked.proofs.free.mark_in_formulas.Goals as goal

pub loop-formula-preserved : goal.loop-formula-preserved
loop-formula-preserved c =
    Adds-more (λ (formula : NormalFormula). naked_types (equations_of formula.body []))
    c.args.formulas.now c.loop-formula.formula-index c.formula-item.result
    c.loop-formula-test.true c.formula-item.is c.args.set.now c.loop-formula.set c.mark.new.set
    c.loop-formula.invariant
    (subst (Adds c.loop-formula.set c.mark.new.set)
    (ap (λ kinds. naked_types (equations_of c.formula-item.result.body kinds)) kinds_of-outside)
    c.in_ok-mark.ensures)

pub returns : goal.returns
returns c =
    Adds-end (λ (formula : NormalFormula). naked_types (equations_of formula.body []))
    c.args.formulas.now c.loop-formula.formula-index c.args.set.now c.loop-formula.set
    c.loop-formula-test.false c.loop-formula.invariant
