use Rattle.std.proofs.Common.{◌≡◌, [], take}
use Rattle.tf_check.specs.Bound.{types_of_symbols}
use Rattle.tf_check.proofs.numbers.scope_over.Given as goal

abbrev pub invariant-loop-place : goal.invariant-loop-place
invariant-loop-place l =
    record {
      names : l.scope.names ≡ [];
      symbols : l.scope.symbols ≡ take l.place (types_of_symbols l.table);
    }
