use Rattle.std.proofs.Common.{◌∙◌, ◌++◌, ◌∷◌, [], refl, ap, replicate}
use Rattle.enc_base.specs.Tables.{table}
use Rattle.fof_models.specs.Tabled.{symbol_table, symbol_tables}
use Rattle.enc_base.proofs.TupleOrder.{zeros_below}
use Rattle.structure_tables.proofs.Tabling.{tables-next}
use Rattle.structure_tables.proofs.untyped.tabulate.Goals as goal

pub table_of-requires-clause-some : goal.table_of-requires-clause-some
table_of-requires-clause-some g c =
    rw c.size.ensures (zeros_below c.index-signature-f.result.arity _ c.requires.inhabited)

pub loop-f-preserved : goal.loop-f-preserved
loop-f-preserved g c =
    c.in_ok-push.ensures.ok
    ∙ ap (λ entries. c.loop-f.tables ++ entries ∷ []) c.in_ok-table_of.ensures
    ∙ ap
    (λ size. c.loop-f.tables ++ table (replicate c.index-signature-f.result.arity size)
    ((g.S.UntypedSource.structure c.args.source.now).symbol_at c.loop-f.f) ∷ []) c.size.ensures
    ∙ tables-next (symbol_table (g.S.UntypedSource.structure c.args.source.now))
    (symbol_tables (g.S.UntypedSource.structure c.args.source.now)) (λ _. refl) (λ _ _ _. refl)
    c.args.signature.now c.loop-f.f c.index-signature-f.result c.loop-f.tables c.loop-f-test.true
    c.index-signature-f.is c.loop-f.invariant
