use Rattle.std.proofs.Common.{◌≡◌, take}
use Rattle.structure_tables.specs.TypedTabled.{symbol_tables}
use Rattle.structure_tables.proofs.typed.tables_of_symbols.Given as goal

abbrev pub invariant-loop-f : goal.invariant-loop-f
invariant-loop-f g l =
    l.made ≡ symbol_tables (g.S.TypedSource.structure l.source) (take l.f l.symbols) 0
