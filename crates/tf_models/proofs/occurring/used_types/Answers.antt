use Rattle.tf_core.specs.Occurrences.{occurs_in}
use Rattle.tf_models.proofs.OccurringParts.{from_lower}
use Rattle.tf_models.proofs.occurring.used_types.Goals as goal

pub returns-then-formula_has : goal.returns-then-formula_has
returns-then-formula_has c = record {
  exact = from_lower (λ i. occurs_in i c.args.formula.now) c.args.count c.loop-i.i
      c.formula_has.result c.loop-i-test.true c.loop-i.auto.i c.loop-i.invariant
      c.formula_has.ensures.exact c.if-formula_has.true;
}
