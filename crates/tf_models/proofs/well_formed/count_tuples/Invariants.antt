use Rattle.std.proofs.Common.{◌≡◌, ◌≤◌, ◌+◌, replicate}
use Rattle.enc_base.specs.Tables.{tuple_count}
use Rattle.tf_models.proofs.well_formed.count_tuples.Given as goal

abbrev pub invariant-loop : goal.invariant-loop
invariant-loop l = record {
  so_far : l.tuples ≡ tuple_count (replicate l.counter l.bound);
  within : l.tuples ≤ l.most + 1;
}
