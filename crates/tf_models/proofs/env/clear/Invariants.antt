use Rattle.std.proofs.Common.{◌≡◌, length, take, replicate}
use Rattle.tf_models.proofs.env.clear.Given as goal

abbrev pub invariant-loop-i : goal.invariant-loop-i
invariant-loop-i l = record {
  long : length l.slots.items ≡ length l.initial.slots.items;
  so_far : take l.i l.slots.items ≡ replicate l.i 0;
}
