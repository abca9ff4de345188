use Rattle.std.proofs.Common.{◌≡◌, length, take}
use Rattle.tf_models.proofs.env.fill.Given as goal

abbrev pub invariant-loop-i : goal.invariant-loop-i
invariant-loop-i l = record {
  long : length l.slots.items ≡ length l.initial.slots.items;
  so_far : take l.i l.slots.items ≡ take l.i l.items;
}
