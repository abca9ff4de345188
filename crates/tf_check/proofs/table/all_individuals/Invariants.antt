use Rattle.std.proofs.Common.{◌≡◌, replicate}
use Rattle.tf_check.specs.Types.{individuals}
use Rattle.tf_check.proofs.table.all_individuals.Given as goal

abbrev pub invariant-loop-i : goal.invariant-loop-i
invariant-loop-i l = l.types ≡ replicate l._i individuals
