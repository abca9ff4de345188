use Rattle.std.proofs.Common.{length, refl, sym, ap, ◌∙◌, arith}
use Rattle.std.proofs.lemmas.Bool.{false≢true}
use Rattle.tf_models.specs.Reading.{tables}
use Rattle.tf_models.specs.Fit.{IsSymbolTable}
use Rattle.tf_models.proofs.FitTables.{list_read, fits_more, fits_needed, fits_all}
use Rattle.tf_models.proofs.structure.TypedStructure.symbols_fit.Goals as goal

pub returns-then-not-is_symbol_table : goal.returns-then-not-is_symbol_table
returns-then-not-is_symbol_table c = (
  λ holds. absurd (false≢true holds),
  λ fit.
      absurd
      (false≢true
      (sym c.if-not-is_symbol_table.true
      ∙ c.is_symbol_table.ensures.1
      (fits_needed (IsSymbolTable (tables c.args.self.now)) c.args.signature.now.symbols
      c.args.self.now.symbols c.loop-i.i c.index-symbols-i.result c.as_slice.result.now
      (rw c.as_slice-symbols.ensures at c.loop-i-test.true)
      (rw c.as_slice-symbols.ensures at c.index-symbols-i.is)
      (list_read c.args.self.now.symbols c.as_slice-tables.result.now c.loop-i.i
      c.index-tables-i.result c.as_slice.result.now c.as_slice-tables.ensures
      (omega (
        arith,
        c.loop-i-test.true,
        c.if-tables-symbols.false,
        ap length
            c.as_slice-tables.ensures,
      )) c.index-tables-i.is c.as_slice.ensures)
      fit.symbols))),
)

pub loop-i-preserved : goal.loop-i-preserved
loop-i-preserved c =
    fits_more (IsSymbolTable (tables c.args.self.now)) c.args.signature.now.symbols
    c.args.self.now.symbols c.loop-i.i c.index-symbols-i.result c.as_slice.result.now
    (rw c.as_slice-symbols.ensures at c.loop-i-test.true)
    (rw c.as_slice-symbols.ensures at c.index-symbols-i.is)
    (list_read c.args.self.now.symbols c.as_slice-tables.result.now c.loop-i.i
    c.index-tables-i.result c.as_slice.result.now c.as_slice-tables.ensures
    (omega (
      arith,
      c.loop-i-test.true,
      c.if-tables-symbols.false,
      ap length
          c.as_slice-tables.ensures,
    )) c.index-tables-i.is c.as_slice.ensures)
    (c.is_symbol_table.ensures.0 c.if-not-is_symbol_table.false)
    c.loop-i.invariant

pub returns : goal.returns
returns c = (
  λ _. record {
    constructors = c.requires.constructors;
    count =
        ap length (sym c.as_slice-tables.ensures) ∙ c.if-tables-symbols.false
        ∙ ap length c.as_slice-symbols.ensures;
    symbols =
        fits_all (IsSymbolTable (tables c.args.self.now)) c.args.signature.now.symbols
        c.args.self.now.symbols c.loop-i.i
        (rw c.as_slice-symbols.ensures at c.loop-i-test.false) c.loop-i.invariant;
  },
  λ _. refl,
)
