use Rattle.std.proofs.Common.{length, refl, sym, ap, ◌∙◌, arith}
use Rattle.std.proofs.lemmas.Bool.{false≢true}
use Rattle.fof_models.proofs.WellFormed.{table_read, tables_more, table_needed, well_formed_from}
use Rattle.fof_models.proofs.structure.Structure.well_formed.Goals as goal

pub returns-then-not-is_table : goal.returns-then-not-is_table
returns-then-not-is_table c =
    record {
      exact = (
        λ holds. absurd (false≢true holds),
        λ well_formed.
            absurd (false≢true (sym c.if-not-is_table.true
            ∙ c.is_table.ensures.1
            (table_needed c.args.signature.now c.args.self.now c.loop-i.i c.index-signature-i.result
            c.as_slice.result.now c.loop-i-test.true c.index-signature-i.is
            (table_read c.args.self.now c.as_slice-tables.result.now c.loop-i.i c.index-tables-i.result
            c.as_slice.result.now c.as_slice-tables.ensures
            (omega (arith, c.loop-i-test.true, c.if-tables-signature.false))
            c.index-tables-i.is c.as_slice.ensures)
            well_formed))),
      );
    }

pub loop-i-preserved : goal.loop-i-preserved
loop-i-preserved c =
    tables_more c.args.signature.now c.args.self.now c.loop-i.i c.index-signature-i.result
    c.as_slice.result.now c.loop-i-test.true c.index-signature-i.is
    (table_read c.args.self.now c.as_slice-tables.result.now c.loop-i.i c.index-tables-i.result
    c.as_slice.result.now c.as_slice-tables.ensures
    (omega (arith, c.loop-i-test.true, c.if-tables-signature.false))
    c.index-tables-i.is c.as_slice.ensures)
    (c.is_table.ensures.0 c.if-not-is_table.false)
    c.loop-i.invariant

pub returns : goal.returns
returns c =
    record {
      exact = (
        λ _.
            well_formed_from c.args.signature.now c.args.self.now c.loop-i.i (omega (arith, c.if-self-eq0.false))
            (ap length (sym c.as_slice-tables.ensures) ∙ omega (arith, c.if-tables-signature.false))
            (omega (arith, c.loop-i-test.false))
            c.loop-i.invariant,
        λ _. refl,
      );
    }
