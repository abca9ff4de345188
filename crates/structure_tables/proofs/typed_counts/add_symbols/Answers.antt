use Rattle.std.proofs.Common.{◌∙◌}
use Rattle.structure_tables.specs.EntryCounts.{symbol_count}
use Rattle.structure_tables.proofs.Counting.{counted_more, counted_full}
use Rattle.structure_tables.proofs.typed_counts.add_symbols.Goals as goal

pub returns-then-entries : goal.returns-then-entries
returns-then-entries g c =
    counted_full (symbol_count (g.S.TypedSource.structure c.args.source.now)) c.args.symbols.now
    c.loop-symbol.symbol-index c.args.before c.loop-symbol.entries c.loop-symbol.invariant
    c.if-entries.true

pub loop-symbol-preserved : goal.loop-symbol-preserved
loop-symbol-preserved g c =
    c.saturating_add-entries.ensures
    ∙ counted_more (symbol_count (g.S.TypedSource.structure c.args.source.now)) c.args.symbols.now
    c.loop-symbol.symbol-index c.args.before c.in_ok-more.more c.loop-symbol.entries
    c.symbol-item.result c.loop-symbol-test.true c.symbol-item.is c.in_ok-more.ensures
    c.loop-symbol.invariant
