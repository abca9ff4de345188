use Rattle.std.proofs.Common.{◌≡◌, take, true}
use Rattle.std.specs.Prelude.{eqb}
use Rattle.std.specs.List.{list_all}
use Rattle.tf_core.proofs.normal.Normal.is_monomorphic.Given as goal

abbrev pub invariant-loop-symbol : goal.invariant-loop-symbol
invariant-loop-symbol l = list_all (λ symbol. eqb symbol.parameters 0) (take l.symbol-index l.symbol-items) ≡ true
