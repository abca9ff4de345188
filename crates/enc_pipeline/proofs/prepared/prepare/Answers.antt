use Rattle.std.proofs.Common.{◌≤◌, Result, subst}
use Rattle.std.specs.Prelude.{IfErr}
use Rattle.tf_core.specs.declared.normal.Normal.{Normal}
use Rattle.tf_nnf.specs.Nodes.{normal_nodes}
use Rattle.tf_nnf.specs.Refusal.{most_nodes}
use Rattle.enc_marks.specs.Applies.{IsRefused}
use Rattle.enc_pipeline.specs.Faults.{fault_of_normal, fault_of_scheme}
use Rattle.enc_pipeline.specs.Causes.{IsUnprepared}
use Rattle.enc_pipeline.specs.Way.{Preparation}
use Rattle.enc_pipeline.specs.declared.fault.Fault.{Fault}
use Rattle.enc_pipeline.proofs.HandedOn.{handed_on}
use Rattle.enc_pipeline.proofs.Refusals.{too_many_nodes, not_applied}
use Rattle.enc_pipeline.proofs.prepared.prepare.Goals as goal

pub returns-in_err-normal-clause-refused : goal.returns-in_err-normal-clause-refused
returns-in_err-normal-clause-refused c =
    let reason = c.in_err-normal.field-0.0 in
    handed_on (λ (r : Result Preparation Fault). IfErr r (IsUnprepared c.args.problem c.args.how))
    c.from_residual.result (fault_of_normal reason) c.from_residual.ensures
    (too_many_nodes c.args.problem c.args.how reason c.in_err-normal.ensures.refused)

pub returns-in_err-encoded-clause-refused : goal.returns-in_err-encoded-clause-refused
returns-in_err-encoded-clause-refused c =
    let reason = c.in_err-encoded.field-0.0 in
    let normal = c.in_ok-normal.ensures in
    handed_on (λ (r : Result Preparation Fault). IfErr r (IsUnprepared c.args.problem c.args.how))
    c.from_residual-in_err-encoded.result (fault_of_scheme reason)
    c.from_residual-in_err-encoded.ensures
    (not_applied c.args.problem c.args.how reason
    (subst (λ (n : Normal). normal_nodes n ≤ most_nodes) normal.exact normal.within)
    (subst (λ (n : Normal). IsRefused c.args.how.scheme n reason) normal.exact
    c.in_err-encoded.ensures.refused))
