use Rattle.std.proofs.Common.{refl}
use Rattle.std.proofs.KnownBytes.{Keeps-refl}
use Rattle.enc_run.specs.Calls.Ending.{CountsFaults, EndsBy}
use Rattle.enc_run.proofs.RunEndings.{reads_problem, problem_unread, run_ends, run_reads, run_counts, run_goes}
use Rattle.enc_pipeline.proofs.HandedOn.{handed_on}
use Rattle.enc_run.proofs.running.finish.Goals as goal

pub returns-in_err-text-clause-ends : goal.returns-in_err-text-clause-ends
returns-in_err-text-clause-ends g c =
    let stop = c.in_err-text.field-0.0 in
    handed_on (EndsBy _) c.from_residual.result stop c.from_residual.ensures
    (problem_unread _ c.args.job refl stop c.in_err-text.ensures.cause c.read_text.ensures.counted
    (Keeps-refl _, refl))

pub returns-in_err-text-clause-reads : goal.returns-in_err-text-clause-reads
returns-in_err-text-clause-reads g c =
    reads_problem _ c.args.job refl c.read_text.ensures.counted

pub returns-clause-ends : goal.returns-clause-ends
returns-clause-ends g c =
    let files = c.read_text.new.files in
    let own = g.L.Library.own_faults files in
    run_ends _ c.args.job refl c.in_ok-text.text.items c.in_ok-text.ensures.text
    (g.L.Library.held files) c.read_text.ensures.same_files (g.L.Library.faults files)
    (g.L.Library.reads files) own c.read_text.ensures.later c.read_text.ensures.own_later
    c.perform.result (rw c.deref.ensures.value at c.perform.ensures.ends)

pub returns-clause-reads : goal.returns-clause-reads
returns-clause-reads g c =
    let files = c.read_text.new.files in
    let own = g.L.Library.own_faults files in
    run_reads _ c.args.job refl c.in_ok-text.text.items c.in_ok-text.ensures.text
    (g.L.Library.held files) c.read_text.ensures.same_files (g.L.Library.faults files)
    (g.L.Library.reads files) own c.read_text.ensures.counted
    (rw c.deref.ensures.value at c.perform.ensures.reads)

pub returns-in_err-text-clause-counts : goal.returns-in_err-text-clause-counts
returns-in_err-text-clause-counts g c =
    handed_on (CountsFaults _ _) c.from_residual.result c.in_err-text.field-0.0
    c.from_residual.ensures c.in_err-text.ensures.counts

pub returns-clause-counts : goal.returns-clause-counts
returns-clause-counts g c =
    let files = c.read_text.new.files in
    let counts = c.in_ok-text.ensures.counts in
    run_counts _ _ (g.L.Library.faults files) (g.L.Library.own_faults files) counts.same
    counts.own_same c.perform.result c.perform.ensures.counts

pub returns-clause-goes : goal.returns-clause-goes
returns-clause-goes g c =
    let files = c.read_text.new.files in
    let own = g.L.Library.own_faults files in
    run_goes _ c.args.job refl c.in_ok-text.text.items c.in_ok-text.ensures.text
    (g.L.Library.held files) c.read_text.ensures.same_files (g.L.Library.faults files)
    (g.L.Library.reads files) own c.read_text.ensures.later c.read_text.ensures.own_later _
    c.perform.ensures.goes
