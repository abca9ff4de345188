use Rattle.std.proofs.Common.{◌≡◌, Result, Some}
use Rattle.std.specs.Prelude.{IfErr}
use Rattle.enc_pipeline.specs.Way.{Preparation}
use Rattle.enc_pipeline.proofs.HandedOn.{handed_on}
use Rattle.enc_pipeline.proofs.PlainWays.{plain_in_range, plain_without_instances}
use Rattle.enc_run.specs.Calls.Parts.{TextStops}
use Rattle.enc_run.specs.Leads.{task_scheme}
use Rattle.enc_run.specs.Stop.{stop_of}
use Rattle.enc_run.specs.declared.job.Task.{Task}
use Rattle.enc_run.specs.declared.stop.Stop.{Stop}
use Rattle.enc_run.proofs.TextEndings.{unreadable_stops, unprepared_stops}
use Rattle.enc_run.proofs.problem.prepared.Goals as goal

pub prepare-requires-clause-range : goal.prepare-requires-clause-range
prepare-requires-clause-range c = plain_in_range c.args.how c.requires.plain

pub prepare-requires-clause-complete : goal.prepare-requires-clause-complete
prepare-requires-clause-complete c = plain_without_instances c.args.how c.requires.plain

pub returns-in_err-problem-clause-cause : goal.returns-in_err-problem-clause-cause
returns-in_err-problem-clause-cause c =
    let reason = c.in_err-problem.field-0.0 in
    let text = c.args.text.now in
    handed_on (λ (r : Result Preparation Stop). IfErr r (λ stop. (task : Task) →
    task_scheme task ≡ Some c.args.how.scheme → TextStops task text stop))
    c.from_residual.result (stop_of reason) c.from_residual.ensures
    (λ task scheme_is. unreadable_stops task text reason c.in_err-problem.ensures.refused)

pub returns-in_err-prepare-clause-cause : goal.returns-in_err-prepare-clause-cause
returns-in_err-prepare-clause-cause c =
    let reason = c.in_err-prepare.field-0.0 in
    let text = c.args.text.now in
    handed_on (λ (r : Result Preparation Stop). IfErr r (λ stop. (task : Task) →
    task_scheme task ≡ Some c.args.how.scheme → TextStops task text stop))
    c.from_residual-in_err-prepare.result (stop_of reason) c.from_residual-in_err-prepare.ensures
    (λ task scheme_is.
    unprepared_stops task text c.in_ok-problem.problem c.in_ok-problem.ensures.exact c.args.how
    scheme_is reason c.in_err-prepare.ensures.refused)
