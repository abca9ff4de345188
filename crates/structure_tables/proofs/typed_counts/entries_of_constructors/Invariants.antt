use Rattle.std.proofs.Common.{◌≡◌, length, replicate, take}
use Rattle.std.specs.Prelude.{sum_by}
use Rattle.enc_base.specs.Tables.{tuple_count}
use Rattle.enc_base.specs.Counts.{in_64_bits}
use Rattle.structure_tables.proofs.typed_counts.entries_of_constructors.Given as goal

abbrev pub invariant-loop-constructor : goal.invariant-loop-constructor
invariant-loop-constructor l =
    l.entries
    ≡ in_64_bits (sum_by (λ constructor. tuple_count (replicate constructor.arity (length l.sizes)))
    (take l.constructor-index l.constructors))
