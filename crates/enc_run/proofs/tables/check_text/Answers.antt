use Rattle.std.proofs.Common.{Ok, inr, refl}
use Rattle.std.proofs.KnownBytes.{Keeps-refl}
use Rattle.enc_run.specs.Calls.Parts.{TextEnds}
use Rattle.enc_run.specs.Stop.{stop_of}
use Rattle.enc_run.specs.Work.{rest_of}
use Rattle.enc_run.specs.declared.job.Task.TheVariants.{Check}
use Rattle.enc_pipeline.specs.Carried.{model_line}
use Rattle.enc_pipeline.proofs.HandedOn.{handed_on}
use Rattle.enc_run.proofs.TextEndings.{unreadable_stops, text_stopped, table_unread, table_stopped, done, checked}
use Rattle.enc_run.proofs.tables.check_text.Goals as goal

pub returns-in_err-problem-clause-ends : goal.returns-in_err-problem-clause-ends
returns-in_err-problem-clause-ends g c =
    let reason = c.in_err-problem.field-0.0 in
    let stops = unreadable_stops (Check c.args.table) c.args.text.now reason
    c.in_err-problem.ensures.refused in
    handed_on (TextEnds (Check c.args.table) c.args.text.now _)
    c.from_residual.result (stop_of reason) c.from_residual.ensures
    (text_stopped (Check c.args.table) c.args.text.now _ (stop_of reason) stops
    (Keeps-refl _, refl))

pub returns-in_err-table-clause-ends : goal.returns-in_err-table-clause-ends
returns-in_err-table-clause-ends g c =
    let stop = c.in_err-table.field-0.0 in
    let problem = c.in_ok-problem.problem in
    let has = c.in_ok-problem.ensures.exact in
    let accepted = checked c.args.table problem in
    handed_on (TextEnds (Check c.args.table) c.args.text.now _)
    c.from_residual-in_err-table.result stop c.from_residual-in_err-table.ensures
    (table_unread (Check c.args.table) c.args.text.now _ c.args.table refl (Ok problem, has, accepted) stop
    c.in_err-table.ensures.cause (Keeps-refl _, refl))

pub returns-in_err-table-clause-reads : goal.returns-in_err-table-clause-reads
returns-in_err-table-clause-reads g c =
    let problem = c.in_ok-problem.problem in
    let has = c.in_ok-problem.ensures.exact in
    let accepted = checked c.args.table problem in
    inr (c.args.table, refl, (Ok problem, has, accepted), c.read_text.ensures.counted)

pub returns-in_err-check_file-clause-ends : goal.returns-in_err-check_file-clause-ends
returns-in_err-check_file-clause-ends g c =
    let reason = c.in_err-check_file.field-0.0 in
    let problem = c.in_ok-problem.problem in
    let has = c.in_ok-problem.ensures.exact in
    let accepted = checked c.args.table problem in
    handed_on (TextEnds (Check c.args.table) c.args.text.now _)
    c.from_residual-in_err-check_file.result (stop_of reason)
    c.from_residual-in_err-check_file.ensures
    (table_stopped (Check c.args.table) c.args.text.now _ problem has accepted
    c.in_ok-table.table.items c.in_ok-table.ensures.text reason
    (rw c.deref.ensures.value at c.in_err-check_file.ensures.stopped))

pub returns-in_err-check_file-clause-reads : goal.returns-in_err-check_file-clause-reads
returns-in_err-check_file-clause-reads g c =
    let problem = c.in_ok-problem.problem in
    let has = c.in_ok-problem.ensures.exact in
    let accepted = checked c.args.table problem in
    inr (c.args.table, refl, (Ok problem, has, accepted), c.read_text.ensures.counted)

pub returns-clause-ends : goal.returns-clause-ends
returns-clause-ends g c =
    let problem = c.in_ok-problem.problem in
    let has = c.in_ok-problem.ensures.exact in
    let accepted = checked c.args.table problem in
    let is = rw c.deref.ensures.value at c.in_ok-check_file.ensures.model in
    done (Check c.args.table) c.args.text.now
    (rest_of g.L.Library g.O.Sink c.args.files.now c.read_text.new.files c.args.out.now
    c.check_file.new.out)
    problem has accepted c.in_ok-table.table.items
    c.in_ok-table.ensures.text model_line
    (record { model = is.0; is_table = is.1; output_is = refl })
    c.in_ok-check_file.ensures.exact

pub returns-clause-reads : goal.returns-clause-reads
returns-clause-reads g c =
    let problem = c.in_ok-problem.problem in
    let has = c.in_ok-problem.ensures.exact in
    let accepted = checked c.args.table problem in
    inr (c.args.table, refl, (Ok problem, has, accepted), c.read_text.ensures.counted)
