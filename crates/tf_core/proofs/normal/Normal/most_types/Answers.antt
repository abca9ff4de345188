use Rattle.std.proofs.Common.{arith}
use Rattle.tf_core.proofs.Depth.{greatest-more}
use Rattle.tf_core.proofs.normal.Normal.most_types.Goals as goal

pub loop-formula-preserved : goal.loop-formula-preserved
loop-formula-preserved c =
    omega (
      arith,
      c.greater-most.ensures,
      c.loop-formula.invariant,
      greatest-more (λ formula. formula.type_variables) _ _ _ c.loop-formula-test.true c.formula-item.is,
    )
