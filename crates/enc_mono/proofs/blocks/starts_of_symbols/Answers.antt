use Rattle.std.specs.Prelude.{◌<◌, length}
use Rattle.std.proofs.Common.{ap, sym, arith}
use Rattle.tf_models.specs.Reading.{tables}
use Rattle.enc_mono.proofs.Starts.{no_all_starts, more_all_starts, all_all_starts, item_read}
use Rattle.enc_mono.proofs.blocks.starts_of_symbols.Goals as goal

pub loop-f-init : goal.loop-f-init
loop-f-init c =
    rw c.new-starts.ensures
    (no_all_starts (tables c.args.model.now) c.as_slice-symbol-items.result.now)

pub starts_of_blocks-requires-clause-at : goal.starts_of_blocks-requires-clause-at
starts_of_blocks-requires-clause-at c =
    rw (sym c.as_slice-symbol-items.ensures)
    (item_read c.as_slice-symbol-items.result.now c.loop-f.f c.symbol-item.result
    c.loop-f-test.true c.symbol-item.is)

pub starts_of_blocks-requires-clause-table : goal.starts_of_blocks-requires-clause-table
starts_of_blocks-requires-clause-table c =
    let same = ap length c.as_slice-symbol-items.ensures in
    let within : c.loop-f.f < length c.args.model.now.symbols =
    omega (arith, same, c.loop-f-test.true, c.requires.ready.well_formed.tables.symbol_count) in
    rw c.as_slice-table.ensures
    (item_read c.args.model.now.symbols c.loop-f.f c.index-as_slice-f.result within
    (rw c.as_slice.ensures at c.index-as_slice-f.is))

pub loop-f-preserved : goal.loop-f-preserved
loop-f-preserved c =
    rw (c.in_ok-push.ensures.ok)
    (more_all_starts (tables c.args.model.now) c.as_slice-symbol-items.result.now c.loop-f.f
    c.symbol-item.result c.loop-f.starts c.in_ok-starts_of_blocks.field-0 c.loop-f.invariant
    (item_read c.as_slice-symbol-items.result.now c.loop-f.f c.symbol-item.result
    c.loop-f-test.true c.symbol-item.is) c.in_ok-starts_of_blocks.ensures)

pub returns : goal.returns
returns c =
    rw (sym c.as_slice-symbol-items.ensures)
    (all_all_starts (tables c.args.model.now) c.as_slice-symbol-items.result.now c.loop-f.f
    c.loop-f.starts c.loop-f.invariant (omega (arith, c.loop-f-test.false, c.loop-f.auto)))
