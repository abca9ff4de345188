use Rattle.std.proofs.Common.{ℕ, List, length, refl, sym, ap, ◌∙◌, arith}
use Rattle.std.proofs.lemmas.Bool.{false≢true}
use Rattle.tf_core.specs.declared.signature.Constructor.{Constructor}
use Rattle.tf_models.specs.Fit.{IsTable}
use Rattle.tf_models.proofs.FitTables.{list_read, fits_more, fits_needed, fits_all}
use Rattle.tf_models.proofs.structure.TypedStructure.constructors_fit.Goals as goal

pub returns-then-not-is_table : goal.returns-then-not-is_table
returns-then-not-is_table c = (
  λ holds. absurd (false≢true holds),
  λ fit.
      absurd
      (false≢true
      (sym c.if-not-is_table.true
      ∙ c.is_table.ensures.1
      (rw c.as_slice-2.ensures
      (fits_needed
      (λ (constructor : Constructor) (entries : List ℕ). IsTable (length c.args.self.now.sizes)
      constructor.arity entries) c.args.signature.now.constructors c.args.self.now.constructors
      c.loop-i.i c.index-constructors-i.result c.as_slice-in-loop-i.result.now
      (rw c.as_slice-constructors.ensures at c.loop-i-test.true)
      (rw c.as_slice-constructors.ensures at c.index-constructors-i.is)
      (list_read c.args.self.now.constructors c.as_slice-tables.result.now c.loop-i.i
      c.index-tables-i.result c.as_slice-in-loop-i.result.now c.as_slice-tables.ensures
      (omega (
        arith,
        c.loop-i-test.true,
        c.if-tables-constructors.false,
        ap length
            c.as_slice-tables.ensures,
      )) c.index-tables-i.is c.as_slice-in-loop-i.ensures)
      fit.tables)))),
)

pub loop-i-preserved : goal.loop-i-preserved
loop-i-preserved c =
    fits_more
    (λ (constructor : Constructor) (entries : List ℕ). IsTable (length c.args.self.now.sizes)
    constructor.arity entries) c.args.signature.now.constructors c.args.self.now.constructors
    c.loop-i.i c.index-constructors-i.result c.as_slice-in-loop-i.result.now
    (rw c.as_slice-constructors.ensures at c.loop-i-test.true)
    (rw c.as_slice-constructors.ensures at c.index-constructors-i.is)
    (list_read c.args.self.now.constructors c.as_slice-tables.result.now c.loop-i.i
    c.index-tables-i.result c.as_slice-in-loop-i.result.now c.as_slice-tables.ensures
    (omega (
      arith,
      c.loop-i-test.true,
      c.if-tables-constructors.false,
      ap length
          c.as_slice-tables.ensures,
    )) c.index-tables-i.is c.as_slice-in-loop-i.ensures)
    (rw c.as_slice-2.ensures at (c.is_table.ensures.0 c.if-not-is_table.false))
    c.loop-i.invariant

pub returns : goal.returns
returns c = (
  λ _. record {
    inhabited = rw c.as_slice.ensures at (c.is_inhabited.ensures.0 c.if-not-is_inhabited.false);
    count =
        ap length (sym c.as_slice-tables.ensures) ∙ c.if-tables-constructors.false
        ∙ ap length c.as_slice-constructors.ensures;
    tables =
        fits_all
        (λ (constructor : Constructor) (entries : List ℕ). IsTable (length c.args.self.now.sizes)
        constructor.arity entries) c.args.signature.now.constructors c.args.self.now.constructors
        c.loop-i.i (rw c.as_slice-constructors.ensures at c.loop-i-test.false) c.loop-i.invariant;
  },
  λ _. refl,
)
