use Rattle.std.specs.Prelude.{◌<◌, ◌≡◌}
use Rattle.std.proofs.Common.{arith}
use Rattle.tf_models.specs.Reading.{tables}
use Rattle.tf_models.specs.Fit.{block_count, length_at}
use Rattle.enc_mono.proofs.Starts.{no_starts, more_starts, all_starts}
use Rattle.enc_mono.proofs.StartsFit.{blocks_fit, block_at, next_fits}
use Rattle.enc_mono.proofs.blocks.starts_of_blocks.Goals as goal

pub block_length-requires : goal.block_length-requires
block_length-requires c =
    let counted = rw c.as_slice.ensures at c.count_tuples-count.ensures.exact in
    let within : c.loop-number.number < block_count (tables c.args.model.now) c.args.symbol.now =
    omega (arith, counted, c.loop-number-test.true) in
    record {
      block = block_at c.args.signature.now c.args.model.now c.requires.ready c.args.f
          c.args.symbol.now c.args.table.now c.requires.at c.requires.table c.loop-number.number
          within;
    }

pub overflow_add-start : goal.overflow_add-start
overflow_add-start c =
    let counted = rw c.as_slice.ensures at c.count_tuples-count.ensures.exact in
    let within : c.loop-number.number < block_count (tables c.args.model.now) c.args.symbol.now =
    omega (arith, counted, c.loop-number-test.true) in
    let fits = next_fits c.args.signature.now c.args.model.now c.requires.ready c.args.f
    c.args.symbol.now c.args.table.now c.requires.at c.requires.table c.loop-number.number
    within c.loop-number.start c.loop-number.invariant.next in
    omega (arith, fits, c.block_length.ensures.exact)

pub loop-number-init : goal.loop-number-init
loop-number-init c =
    rw c.new-starts.ensures (no_starts (tables c.args.model.now) c.args.symbol.now)

pub loop-number-preserved : goal.loop-number-preserved
loop-number-preserved c =
    let counted = rw c.as_slice.ensures at c.count_tuples-count.ensures.exact in
    let within : c.loop-number.number < block_count (tables c.args.model.now) c.args.symbol.now =
    omega (arith, counted, c.loop-number-test.true) in
    let fits = next_fits c.args.signature.now c.args.model.now c.requires.ready c.args.f
    c.args.symbol.now c.args.table.now c.requires.at c.requires.table c.loop-number.number
    within c.loop-number.start c.loop-number.invariant.next in
    let long : c.block_length.result
    ≡ length_at (tables c.args.model.now) c.args.symbol.now c.loop-number.number =
    omega (arith, fits, c.block_length.ensures.exact) in
    rw (c.in_ok-push.ensures.ok)
    (more_starts (tables c.args.model.now) c.args.symbol.now c.loop-number.number
    c.loop-number.start c.block_length.result c.loop-number.starts c.loop-number.invariant long)

pub returns : goal.returns
returns c =
    all_starts (tables c.args.model.now) c.args.symbol.now c.loop-number.number
    c.loop-number.start c.loop-number.starts c.loop-number.invariant
    (let whole = blocks_fit c.args.signature.now c.args.model.now c.requires.ready c.args.f
    c.args.symbol.now c.args.table.now c.requires.at c.requires.table in
    let counted = rw c.as_slice.ensures at c.count_tuples-count.ensures.exact in
    omega (arith, whole, counted, c.loop-number-test.false))
