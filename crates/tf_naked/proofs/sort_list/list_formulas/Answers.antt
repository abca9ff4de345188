use Rattle.tf_core.specs.declared.normal.NormalFormula.{NormalFormula}
use Rattle.tf_core.specs.Sorts.{binder_types}
use Rattle.tf_naked.proofs.OnceListed.{Lists-more}
use Rattle.tf_naked.proofs.sort_list.list_formulas.Goals as goal

pub loop-formula-preserved : goal.loop-formula-preserved
loop-formula-preserved c =
    Lists-more (λ (formula : NormalFormula). binder_types formula.body) c.args.formulas.now
    c.loop-formula.formula-index c.formula-item.result c.loop-formula-test.true c.formula-item.is
    c.args.listing.now c.loop-formula.listing c.list_binders.new.listing c.loop-formula.invariant
    c.in_ok-list_binders.ensures
