use Rattle.std.proofs.Common.{◌≡◌, None, replicate}
use Rattle.model_tables.proofs.untyped.empty.Given as goal

abbrev pub invariant-loop : goal.invariant-loop
invariant-loop l = l.slots.items ≡ replicate l.counter None
