use Rattle.std.proofs.Common.{◌≡◌, []}
use Rattle.tf_check.specs.Bound.{types_of_symbols}
use Rattle.tf_check.proofs.StatementLemmas.{AreLeft}
use Rattle.tf_check.proofs.checker.statements_of.Given as goal

abbrev pub invariant-loop-i : goal.invariant-loop-i
invariant-loop-i l =
    record {
      left : AreLeft l.table l.entries l.conjectured l.i l.formulas;
      unbound : l.scope.names ≡ [];
      ready : l.scope.symbols ≡ types_of_symbols l.table;
    }
