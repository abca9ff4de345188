use Rattle.std.proofs.Common.{◌≡◌, take}
use Rattle.fof_models.specs.Tabled.{symbol_tables}
use Rattle.structure_tables.proofs.untyped.tabulate.Given as goal

abbrev pub invariant-loop-f : goal.invariant-loop-f
invariant-loop-f g l = l.tables ≡ symbol_tables (g.S.UntypedSource.structure l.source) (take l.f l.signature) 0
