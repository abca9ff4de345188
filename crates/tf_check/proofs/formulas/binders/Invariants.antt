use Rattle.std.proofs.Common.{◌≡◌, ◌+◌, length, drop}
use Rattle.tf_check.specs.Bound.{Grows}
use Rattle.tf_check.proofs.FormulaAnswers.{IsLeft}
use Rattle.tf_check.proofs.formulas.binders.Given as goal

abbrev pub invariant-loop-bound : goal.invariant-loop-bound
invariant-loop-bound l =
    record {
      left : IsLeft l.context.entry l.context.table.now l.leading l.bounds l.fn.scope.names
          (drop l.bound-index l.bounds) l.scope.names l.types;
      count : length l.scope.names ≡ length l.fn.scope.names + l.bound-index;
      grows : Grows l.fn.scope l.scope;
    }
