use Rattle.std.proofs.Common.{sym, arith}
use Rattle.tf_check.proofs.FormulaAnswers.{types_bound-more, types_bound-same}
use Rattle.tf_check.proofs.formulas.types_bound.Goals as goal
use Rattle.tf_check.proofs.formulas.types_bound.Goals.{then-binds_type, else-binds_type}

pub loop-bound-preserved : goal.loop-bound-preserved
loop-bound-preserved c =
    elim c.if-binds_type.branch [
      | then-binds_type w ↦ (
        omega (
          arith,
          w.count-is,
          types_bound-more c.args.bounds.now c.loop-bound.bound-index
              c.bound-item.result c.loop-bound-test.true c.bound-item.is
              (sym w.if-binds_type.ensures),
        ),
        omega (arith, w.count-is),
      )
      | else-binds_type w ↦ (
        omega (
          arith,
          w.count-is,
          types_bound-same c.args.bounds.now c.loop-bound.bound-index
              c.bound-item.result c.loop-bound-test.true c.bound-item.is
              (sym w.if-binds_type.ensures),
        ),
        omega (arith, w.count-is),
      )
    ]
