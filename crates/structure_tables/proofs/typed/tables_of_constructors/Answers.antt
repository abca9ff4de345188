use Rattle.std.proofs.Common.{◌∙◌, ◌++◌, ◌∷◌, [], length, refl, ap, replicate}
use Rattle.enc_base.specs.Tables.{table}
use Rattle.structure_tables.specs.TypedTabled.{constructor_table, constructor_tables}
use Rattle.enc_base.proofs.TupleOrder.{zeros_below}
use Rattle.structure_tables.proofs.Tabling.{tables-next}
use Rattle.structure_tables.proofs.typed.tables_of_constructors.Goals as goal

pub table_of-requires-clause-some : goal.table_of-requires-clause-some
table_of-requires-clause-some g c =
    rw c.requires.sized.same
    (zeros_below c.index-constructors-c.result.arity _ c.requires.sized.fits.some)

pub loop-c-preserved : goal.loop-c-preserved
loop-c-preserved g c =
    c.in_ok-push.ensures.ok
    ∙ ap (λ entries. c.loop-c.made ++ entries ∷ []) c.in_ok-table_of.ensures
    ∙ ap
    (λ sizes. c.loop-c.made ++ table (replicate c.index-constructors-c.result.arity (length sizes))
    ((g.S.TypedSource.structure c.args.source.now).constructor_at c.loop-c.c) ∷ [])
    c.requires.sized.same
    ∙ tables-next (constructor_table (g.S.TypedSource.structure c.args.source.now))
    (constructor_tables (g.S.TypedSource.structure c.args.source.now)) (λ _. refl) (λ _ _ _. refl)
    c.args.constructors.now c.loop-c.c c.index-constructors-c.result c.loop-c.made
    c.loop-c-test.true c.index-constructors-c.is c.loop-c.invariant
