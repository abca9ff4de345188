use Rattle.std.proofs.Common.{◌≡◌, replicate}
use Rattle.enc_base.specs.Tables.{tuple_count}
use Rattle.enc_base.specs.Counts.{in_64_bits}
use Rattle.structure_tables.proofs.counts.count_tuples.Given as goal

abbrev pub invariant-loop : goal.invariant-loop
invariant-loop l = l.tuples ≡ in_64_bits (tuple_count (replicate l.counter l.bound))
