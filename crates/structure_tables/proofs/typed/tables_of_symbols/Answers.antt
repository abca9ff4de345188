use Rattle.std.proofs.Common.{◌∙◌, ◌++◌, ◌∷◌, [], refl, ap}
use Rattle.structure_tables.specs.TypedTabled.{symbol_table, symbol_tables}
use Rattle.structure_tables.proofs.Tabling.{tables-next}
use Rattle.structure_tables.proofs.typed.tables_of_symbols.Goals as goal

pub loop-f-preserved : goal.loop-f-preserved
loop-f-preserved g c =
    c.in_ok-push.ensures.ok
    ∙ ap (λ entries. c.loop-f.made ++ entries ∷ []) c.in_ok-table_of_symbol.ensures
    ∙ tables-next (symbol_table (g.S.TypedSource.structure c.args.source.now))
    (symbol_tables (g.S.TypedSource.structure c.args.source.now)) (λ _. refl) (λ _ _ _. refl)
    c.args.symbols.now c.loop-f.f c.index-symbols-f.result c.loop-f.made c.loop-f-test.true
    c.index-symbols-f.is c.loop-f.invariant
