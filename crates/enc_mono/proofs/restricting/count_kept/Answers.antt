use Rattle.std.specs.Prelude.{length, sum}
use Rattle.std.proofs.Common.{ap, ◌∙◌, arith}
use Rattle.structure_tables.proofs.Counting.{counted_more}
use Rattle.enc_mono.proofs.restricting.count_kept.Goals as goal

pub loop-table-preserved : goal.loop-table-preserved
loop-table-preserved c =
    let same = ap length c.as_slice-in-loop-table.ensures in
    c.saturating_add-entries.ensures
    ∙ counted_more length c.as_slice-table-items.result.now c.loop-table.table-index
    (sum c.args.model.now.sizes) (length c.as_slice-in-loop-table.result.now) c.loop-table.entries
    c.table-item.result c.loop-table-test.true c.table-item.is
    (omega (arith, same, c.as_slice-in-loop-table.type_inv)) c.loop-table.invariant
