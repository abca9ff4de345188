use Rattle.std.proofs.Common.{◌≡◌, ◌≤◌, ◌+◌, ◌*◌, length}
use Rattle.tf_stamp.specs.Merged.{stamp}
use Rattle.tf_stamp.proofs.stamped.count_numbers.Given as goal

abbrev pub invariant-loop-size : goal.invariant-loop-size
invariant-loop-size l = record {
  so_far : l.entries ≡ stamp l.sizes l.size-index 0;
  fits : l.entries ≤ length l.sizes + l.size-index * 4294967295;
}
