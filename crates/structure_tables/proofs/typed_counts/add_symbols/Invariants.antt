use Rattle.std.proofs.Common.{◌≡◌, ◌+◌, take}
use Rattle.std.specs.Prelude.{sum_by}
use Rattle.enc_base.specs.Counts.{in_64_bits}
use Rattle.structure_tables.specs.EntryCounts.{symbol_count}
use Rattle.structure_tables.proofs.typed_counts.add_symbols.Given as goal

abbrev pub invariant-loop-symbol : goal.invariant-loop-symbol
invariant-loop-symbol g l =
    l.entries
    ≡ in_64_bits (l.before + sum_by (symbol_count (g.S.TypedSource.structure l.source))
    (take l.symbol-index l.symbols))
