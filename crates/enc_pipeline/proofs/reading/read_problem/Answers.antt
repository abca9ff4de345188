use Rattle.std.proofs.Common.{Result}
use Rattle.std.specs.Prelude.{IfErr}
use Rattle.tf_core.specs.declared.problem.Problem.{Problem}
use Rattle.enc_pipeline.specs.Faults.{fault_of_reading, fault_of_typing}
use Rattle.enc_pipeline.specs.Causes.{IsUnreadable}
use Rattle.enc_pipeline.specs.Reading.{HasProblem}
use Rattle.enc_pipeline.specs.declared.fault.Fault.{Fault}
use Rattle.enc_pipeline.proofs.DistinctNames.{typed_names_differ}
use Rattle.enc_pipeline.proofs.FileProblems.{is_within, has_writable_names}
use Rattle.enc_pipeline.proofs.HandedOn.{handed_on}
use Rattle.enc_pipeline.proofs.Refusals.{unread, ill_typed}
use Rattle.enc_pipeline.proofs.reading.read_problem.Goals as goal

pub check-requires : goal.check-requires
check-requires c = record {
  within = is_within c.args.text.now c.in_ok-file.file (c.in_ok-file.ensures.verdict (λ is. cc));
}

pub returns-in_err-file-clause-refused : goal.returns-in_err-file-clause-refused
returns-in_err-file-clause-refused c =
    let reason = c.in_err-file.field-0.0 in
    handed_on (λ (r : Result Problem Fault). IfErr r (IsUnreadable c.args.text.now))
    c.from_residual.result (fault_of_reading reason) c.from_residual.ensures
    (unread c.args.text.now reason (λ other. c.in_err-file.ensures.verdict (λ same. other cc)))

pub returns-in_err-problem-clause-refused : goal.returns-in_err-problem-clause-refused
returns-in_err-problem-clause-refused c =
    let reason = c.in_err-problem.field-0.0 in
    handed_on (λ (r : Result Problem Fault). IfErr r (IsUnreadable c.args.text.now))
    c.from_residual-in_err-problem.result (fault_of_typing reason)
    c.from_residual-in_err-problem.ensures
    (ill_typed c.args.text.now c.in_ok-file.file (c.in_ok-file.ensures.verdict (λ is. cc)) reason
    c.in_err-problem.ensures.refused)

pub returns-clause-exact : goal.returns-clause-exact
returns-clause-exact c =
    (c.in_ok-file.file, c.in_ok-file.ensures.verdict (λ is. cc), c.in_ok-problem.ensures.exact)

pub returns-clause-named : goal.returns-clause-named
returns-clause-named c =
    let has : HasProblem c.args.text.now c.in_ok-problem.problem =
    (c.in_ok-file.file, c.in_ok-file.ensures.verdict (λ is. cc), c.in_ok-problem.ensures.exact) in
    has_writable_names c.args.text.now c.in_ok-problem.problem has

pub returns-clause-distinct : goal.returns-clause-distinct
returns-clause-distinct c =
    typed_names_differ c.in_ok-file.file c.in_ok-problem.problem c.in_ok-problem.ensures.exact
