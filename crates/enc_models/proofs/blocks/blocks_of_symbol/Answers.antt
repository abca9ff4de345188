use Rattle.std.proofs.Common.{arith}
use Rattle.enc_models.specs.Calls.Blocks.{IsKept}
use Rattle.enc_models.proofs.KeptBlocks.{each-pushed, next_block, next_fits, next_positive, next_within, next_start, all_blocks}
use Rattle.enc_models.proofs.blocks.blocks_of_symbol.Goals as goal

pub block_of-requires-clause-block : goal.block_of-requires-clause-block
block_of-requires-clause-block c =
    rw c.as_slice.ensures
    (next_block c.args.signature.now c.args.model.now c.requires.ready c.args.f
    c.args.symbol.now c.requires.at c.symbol_table-table.result.now c.symbol_table-table.ensures
    c.loop-start.blocks c.loop-start.start c.loop-start.invariant.within
    c.loop-start.invariant.start_is c.loop-start-test.true)

pub block_of-requires-clause-start : goal.block_of-requires-clause-start
block_of-requires-clause-start c = rw c.as_slice.ensures c.loop-start.invariant.start_is

pub block_length-requires : goal.block_length-requires
block_length-requires c =
    record {
      block = rw c.as_slice.ensures
          (next_block c.args.signature.now c.args.model.now c.requires.ready c.args.f
          c.args.symbol.now c.requires.at c.symbol_table-table.result.now c.symbol_table-table.ensures
          c.loop-start.blocks c.loop-start.start c.loop-start.invariant.within
          c.loop-start.invariant.start_is c.loop-start-test.true);
    }

pub overflow_add-start : goal.overflow_add-start
overflow_add-start c =
    omega (
      arith,
      rw c.as_slice.ensures at c.block_length.ensures.exact,
      next_fits c.args.signature.now c.args.model.now c.requires.ready c.args.f
          c.args.symbol.now c.requires.at c.symbol_table-table.result.now c.symbol_table-table.ensures
          c.loop-start.blocks c.loop-start.start c.loop-start.invariant.within
          c.loop-start.invariant.start_is c.loop-start-test.true,
    )

pub loop-start-smaller : goal.loop-start-smaller
loop-start-smaller c =
    omega (
      arith,
      rw c.as_slice.ensures at c.block_length.ensures.exact,
      c.loop-start-test.true,
      next_positive c.args.signature.now c.args.model.now c.requires.ready c.args.f
          c.args.symbol.now c.requires.at c.symbol_table-table.result.now c.symbol_table-table.ensures
          c.loop-start.blocks c.loop-start.start c.loop-start.invariant.within
          c.loop-start.invariant.start_is c.loop-start-test.true,
    )

pub loop-start-preserved : goal.loop-start-preserved
loop-start-preserved c =
    let fits = next_fits c.args.signature.now c.args.model.now c.requires.ready c.args.f
    c.args.symbol.now c.requires.at c.symbol_table-table.result.now c.symbol_table-table.ensures
    c.loop-start.blocks c.loop-start.start c.loop-start.invariant.within
    c.loop-start.invariant.start_is c.loop-start-test.true in
    rw c.in_ok-push.ensures.ok
    (record {
      within = next_within c.args.signature.now c.args.model.now c.requires.ready c.args.f
          c.args.symbol.now c.requires.at c.symbol_table-table.result.now c.symbol_table-table.ensures
          c.loop-start.blocks c.loop-start.start c.loop-start.invariant.within
          c.loop-start.invariant.start_is c.loop-start-test.true _;
      start_is = omega (
        arith,
        rw c.as_slice.ensures at c.block_length.ensures.exact,
        fits,
        next_start c.args.signature.now c.args.model.now c.requires.ready c.args.f
            c.args.symbol.now c.requires.at c.symbol_table-table.result.now c.symbol_table-table.ensures
            c.loop-start.blocks c.loop-start.start c.loop-start.invariant.within
            c.loop-start.invariant.start_is c.loop-start-test.true c.in_ok-block_of.field-0,
      );
      each =
          each-pushed (IsKept c.args.model.now c.args.symbol.now) c.loop-start.blocks
          c.in_ok-block_of.field-0 c.loop-start.invariant.each
          (rw c.as_slice.ensures at c.in_ok-block_of.ensures);
    })

pub returns : goal.returns
returns c =
    all_blocks c.args.signature.now c.args.model.now c.requires.ready c.args.f
    c.args.symbol.now c.requires.at c.symbol_table-table.result.now c.symbol_table-table.ensures
    c.loop-start.blocks c.loop-start.start c.loop-start.invariant.within
    c.loop-start.invariant.start_is c.loop-start.invariant.each
    (omega (arith, c.loop-start-test.false))
