use Rattle.std.proofs.Common.{◌≡◌, length, take}
use Rattle.enc_base.proofs.TupleOrder.{IsStepping}
use Rattle.tf_models.specs.Search.{tried}
use Rattle.tf_models.proofs.env.next_tuple.Given as goal

abbrev pub invariant-loop-i : goal.invariant-loop-i
invariant-loop-i l = record {
  long : length l.slots.items ≡ length l.initial.slots.items;
  so_far : IsStepping (tried l.bound l.formula l.count) (take l.count l.initial.slots.items)
      (take l.count l.slots.items) l.i;
}
