use Rattle.std.proofs.Common.{◌≡◌, ◌≤◌, ◌+◌, length, replicate}
use Rattle.enc_base.specs.Tables.{tuple_count}
use Rattle.fof_models.proofs.well_formed.is_long.Given as goal

abbrev pub invariant-loop : goal.invariant-loop
invariant-loop l = record {
  so_far : l.count ≡ tuple_count (replicate l.counter l.size);
  within : l.count ≤ length l.table + 1;
}
