use Rattle.std.proofs.Common.{◌≡◌, ◌++◌, replicate}
use Rattle.tf_stamp.proofs.stamped.push_times.Given as goal

abbrev pub invariant-loop : goal.invariant-loop
invariant-loop l = l.numbers ≡ l.initial.numbers ++ replicate l.counter l.item
