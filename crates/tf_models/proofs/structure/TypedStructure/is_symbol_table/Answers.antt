use Rattle.std.proofs.Common.{arith}
use Rattle.std.proofs.lemmas.Bool.{false≢true}
use Rattle.tf_models.proofs.FitTables.{few_blocks, block_needed}
use Rattle.tf_models.proofs.structure.TypedStructure.is_symbol_table.Goals as goal

pub returns-in_default : goal.returns-in_default
returns-in_default c = (
  λ holds. absurd (false≢true holds),
  λ table.
      absurd
      (omega (
        arith,
        rw c.as_slice.ensures at c.in_default.ensures,
        few_blocks c.args.signature.now c.args.self.now c.args.symbol.now c.args.table.now
            (λ number within. record {
              constructors = c.requires.constructors;
              few = c.requires.few;
              typed = c.requires.typed;
              within = within;
            })
            table,
      )),
)

pub returns-in-None : goal.returns-in-None
returns-in-None c = (
  λ holds. absurd (false≢true holds),
  λ table.
      absurd
      (c.in-None.ensures
      (block_needed c.args.signature.now c.args.self.now c.args.symbol.now c.args.table.now
      (λ number within. record {
        constructors = c.requires.constructors;
        few = c.requires.few;
        typed = c.requires.typed;
        within = within;
      })
      c.loop-number.number c.loop-number.start
      (omega (arith, c.loop-number-test.true, rw c.as_slice.ensures at c.in-Some.ensures))
      c.loop-number.invariant.start_is table)),
)
