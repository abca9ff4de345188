use Rattle.std.proofs.Common.{arith, sym, ◌∙◌}
use Rattle.enc_base.proofs.Tables.{sum_below-next, sum_below-part}
use Rattle.tf_models.specs.Reading.{tables}
use Rattle.tf_models.specs.Fit.{length_at}
use Rattle.tf_models.proofs.EvenBlocks.{even_start, even_product}
use Rattle.tf_models.proofs.structure.TypedStructure.block_start.Goals as goal

pub overflow_mul-result : goal.overflow_mul-result
overflow_mul-result c =
    let closed = rw c.as_slice.ensures at (c.are_closed.ensures.exact.0 c.if-are_closed.true) in
    let even = even_start c.args.self.now c.args.symbol.now closed c.args.number c.args.number in
    omega (
      arith,
      c.requires.entries,
      even,
      even_product c.args.number
          (length_at (tables c.args.self.now) c.args.symbol.now c.args.number)
          c.block_length.result c.block_length.ensures.exact (omega (arith, c.requires.entries, even)),
    )

pub returns-then-are_closed : goal.returns-then-are_closed
returns-then-are_closed c =
    let closed = rw c.as_slice.ensures at (c.are_closed.ensures.exact.0 c.if-are_closed.true) in
    let even = even_start c.args.self.now c.args.symbol.now closed c.args.number c.args.number in
    record {
      exact =
          even_product c.args.number
          (length_at (tables c.args.self.now) c.args.symbol.now c.args.number)
          c.block_length.result c.block_length.ensures.exact (omega (arith, c.requires.entries, even))
          ∙ sym even;
    }

pub overflow_add-start : goal.overflow_add-start
overflow_add-start c =
    omega (
      arith,
      c.requires.entries,
      c.block_length-in-loop-earlier.ensures.exact,
      c.loop-earlier.invariant,
      sum_below-part c.loop-earlier.earlier c.args.number
          (length_at (tables c.args.self.now) c.args.symbol.now) c.loop-earlier-test.true,
    )

pub loop-earlier-preserved : goal.loop-earlier-preserved
loop-earlier-preserved c =
    omega (
      arith,
      c.requires.entries,
      c.block_length-in-loop-earlier.ensures.exact,
      c.loop-earlier.invariant,
      sum_below-next c.loop-earlier.earlier (length_at (tables c.args.self.now) c.args.symbol.now),
      sum_below-part c.loop-earlier.earlier c.args.number
          (length_at (tables c.args.self.now) c.args.symbol.now) c.loop-earlier-test.true,
    )
