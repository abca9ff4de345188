use Rattle.std.proofs.Common.{◌≡◌, take}
use Rattle.enc_base.specs.Tables.{tuple_count}
use Rattle.enc_base.specs.Counts.{in_64_bits}
use Rattle.structure_tables.proofs.counts.multiply.Given as goal

abbrev pub invariant-loop-bound : goal.invariant-loop-bound
invariant-loop-bound l = l.tuples ≡ in_64_bits (tuple_count (take l.bound-index l.bounds))
