use Rattle.std.proofs.Common.{◌≡◌, take}
use Rattle.enc_base.specs.Counts.{in_64_bits}
use Rattle.structure_tables.specs.EntryCounts.{untyped_count}
use Rattle.structure_tables.proofs.counts.untyped_entries.Given as goal

abbrev pub invariant-loop-symbol : goal.invariant-loop-symbol
invariant-loop-symbol l = l.entries ≡ in_64_bits (untyped_count l.size (take l.symbol-index l.signature))
