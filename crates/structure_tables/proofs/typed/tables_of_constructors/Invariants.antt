use Rattle.std.proofs.Common.{◌≡◌, take}
use Rattle.structure_tables.specs.TypedTabled.{constructor_tables}
use Rattle.structure_tables.proofs.typed.tables_of_constructors.Given as goal

abbrev pub invariant-loop-c : goal.invariant-loop-c
invariant-loop-c g l =
    l.made ≡ constructor_tables (g.S.TypedSource.structure l.source) (take l.c l.constructors) 0
