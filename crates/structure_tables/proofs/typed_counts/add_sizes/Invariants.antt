use Rattle.std.proofs.Common.{◌≡◌, take}
use Rattle.std.specs.Prelude.{sum}
use Rattle.enc_base.specs.Counts.{in_64_bits}
use Rattle.structure_tables.proofs.typed_counts.add_sizes.Given as goal

abbrev pub invariant-loop-size : goal.invariant-loop-size
invariant-loop-size l = l.entries ≡ in_64_bits (sum (take l.size-index l.sizes))
