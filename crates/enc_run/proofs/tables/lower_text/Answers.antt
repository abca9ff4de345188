use Rattle.std.proofs.Common.{inr, refl}
use Rattle.std.proofs.KnownBytes.{Keeps-refl}
use Rattle.enc_run.specs.Calls.Parts.{TextEnds}
use Rattle.enc_run.specs.Stop.{stop_of}
use Rattle.enc_run.specs.Work.{rest_of}
use Rattle.enc_run.specs.declared.job.Task.TheVariants.{Lower}
use Rattle.enc_pipeline.proofs.HandedOn.{handed_on}
use Rattle.enc_run.proofs.TextEndings.{text_stopped, table_unread, lowerable, lowering_stopped, lowering_done}
use Rattle.enc_run.proofs.tables.lower_text.Goals as goal

pub returns-in_err-prepared-clause-ends : goal.returns-in_err-prepared-clause-ends
returns-in_err-prepared-clause-ends g c =
    let stop = c.in_err-prepared.field-0.0 in
    handed_on (TextEnds (Lower c.args.table c.args.how) c.args.text.now _)
    c.from_residual.result stop c.from_residual.ensures
    (text_stopped (Lower c.args.table c.args.how) c.args.text.now _ stop
    (c.in_err-prepared.ensures.cause (Lower c.args.table c.args.how) refl) (Keeps-refl _, refl))

pub returns-in_err-table-clause-ends : goal.returns-in_err-table-clause-ends
returns-in_err-table-clause-ends g c =
    let stop = c.in_err-table.field-0.0 in
    let is = c.in_ok-prepared.ensures.exact in
    let accepted =
    lowerable c.args.how c.args.table c.args.text.now c.in_ok-prepared.prepared is in
    handed_on (TextEnds (Lower c.args.table c.args.how) c.args.text.now _)
    c.from_residual-in_err-table.result stop c.from_residual-in_err-table.ensures
    (table_unread (Lower c.args.table c.args.how) c.args.text.now _ c.args.table refl
    accepted stop c.in_err-table.ensures.cause (Keeps-refl _, refl))

pub returns-in_err-table-clause-reads : goal.returns-in_err-table-clause-reads
returns-in_err-table-clause-reads g c =
    let is = c.in_ok-prepared.ensures.exact in
    let accepted =
    lowerable c.args.how c.args.table c.args.text.now c.in_ok-prepared.prepared is in
    inr (c.args.table, refl, accepted, c.read_text.ensures.counted)

pub returns-in_err-lower_file-clause-ends : goal.returns-in_err-lower_file-clause-ends
returns-in_err-lower_file-clause-ends g c =
    let reason = c.in_err-lower_file.field-0.0 in
    handed_on (TextEnds (Lower c.args.table c.args.how) c.args.text.now _)
    c.from_residual-in_err-lower_file.result (stop_of reason) c.from_residual-in_err-lower_file.ensures
    (lowering_stopped c.args.how c.args.table c.args.text.now c.in_ok-prepared.prepared
    c.in_ok-prepared.ensures.exact _ c.in_ok-table.table.items c.in_ok-table.ensures.text reason
    (rw c.deref.ensures.value at c.in_err-lower_file.ensures.stopped))

pub returns-in_err-lower_file-clause-reads : goal.returns-in_err-lower_file-clause-reads
returns-in_err-lower_file-clause-reads g c =
    let is = c.in_ok-prepared.ensures.exact in
    let accepted =
    lowerable c.args.how c.args.table c.args.text.now c.in_ok-prepared.prepared is in
    inr (c.args.table, refl, accepted, c.read_text.ensures.counted)

pub returns-clause-ends : goal.returns-clause-ends
returns-clause-ends g c =
    let carried = rw c.deref.ensures.value at c.in_ok-lower_file.ensures.exact in
    lowering_done c.args.how c.args.table c.args.text.now c.in_ok-prepared.prepared
    c.in_ok-prepared.ensures.exact
    (rest_of g.L.Library g.O.Sink c.args.files.now c.read_text.new.files c.args.out.now
    c.lower_file.new.out)
    c.in_ok-table.table.items c.in_ok-table.ensures.text
    carried.0 carried.1 carried.2

pub returns-clause-reads : goal.returns-clause-reads
returns-clause-reads g c =
    let is = c.in_ok-prepared.ensures.exact in
    let accepted =
    lowerable c.args.how c.args.table c.args.text.now c.in_ok-prepared.prepared is in
    inr (c.args.table, refl, accepted, c.read_text.ensures.counted)
