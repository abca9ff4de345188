use Rattle.std.proofs.Common.{◌∙◌}
use Rattle.tf_core.specs.declared.normal.NormalFormula.{NormalFormula}
use Rattle.tf_core.specs.Sorts.{binder_types}
use Rattle.enc_models.proofs.SortSizes.{items-more}
use Rattle.enc_models.proofs.sort_sizes.greatest_bound.Goals as goal

pub loop-formula-preserved : goal.loop-formula-preserved
loop-formula-preserved c =
    items-more c.args.model.now (λ (formula : NormalFormula). binder_types formula.body)
    c.args.formulas.now c.loop-formula.formula-index c.formula-item.result
    c.loop-formula-test.true c.formula-item.is c.loop-formula.found
    c.greatest_at_binders.result c.max-found.result c.loop-formula.invariant
    c.greatest_at_binders.ensures c.max-found.ensures
