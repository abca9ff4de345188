use Rattle.std.proofs.Common.{sym}
use Rattle.enc_base.proofs.Puts.{then_put, put_as}
use Rattle.fof_text.proofs.EntryParts.{entry_next}
use Rattle.fof_text.proofs.FewBinders.{entry_few}
use Rattle.fof_text.proofs.problem.put_entries.Goals as goal

pub put_entry-requires : goal.put_entry-requires
put_entry-requires g c = entry_few c.args.entries.now c.loop-entry.entry-index c.entry-item.result
    c.loop-entry-test.true c.entry-item.is c.requires

pub loop-entry-preserved : goal.loop-entry-preserved
loop-entry-preserved g c =
    put_as (sym (entry_next c.args.names.now c.args.entries.now c.loop-entry.entry-index
    c.entry-item.result c.loop-entry-test.true c.entry-item.is))
    (then_put c.loop-entry.invariant c.put_entry.ensures)
