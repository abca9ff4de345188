use Rattle.std.proofs.Common.{ap, ◌∙◌}
use Rattle.std.proofs.lemmas.Result.{on_ok_weaker}
use Rattle.enc_mono.specs.Instances.{term_instances}
use Rattle.enc_mono.proofs.InstanceEquations.{term_instances-variable, term_instances-apply}
use Rattle.enc_mono.proofs.ListedInstances.{Lists-nothing, Lists-next, Lists-application}
use Rattle.enc_mono.proofs.listing.+list_in_term.Goals as goal

pub list_in_term-returns-in-Var : goal.list_in_term-returns-in-Var
list_in_term-returns-in-Var t c =
    Lists-nothing (term_instances c.args.term.now) c.args.listed.now
    (ap term_instances c.in-Var.is ∙ term_instances-variable c.in-Var.field-0)

pub list_in_term-returns-in_ok-list_instance-in-Apply :
    goal.list_in_term-returns-in_ok-list_instance-in-Apply
list_in_term-returns-in_ok-list_instance-in-Apply t c =
    on_ok_weaker c.list_in_terms.result
    (Lists-application c.in-Apply.f c.in-Apply.types c.in-Apply.terms c.as_slice.result.now
    c.as_slice-in-Apply.result.now c.as_slice.ensures c.as_slice-in-Apply.ensures
    (term_instances c.args.term.now)
    (ap term_instances c.in-Apply.is
    ∙ term_instances-apply c.in-Apply.f c.in-Apply.types c.in-Apply.terms)
    c.args.listed.now c.list_instance.new.listed c.list_in_terms.new.listed
    c.in_ok-list_instance-in-Apply.ensures)
    c.list_in_terms.ensures

pub list_in_terms-loop-term-preserved : goal.list_in_terms-loop-term-preserved
list_in_terms-loop-term-preserved t c =
    Lists-next term_instances c.args.terms.now c.loop-term.term-index c.term-item.result
    c.args.listed.now c.loop-term.listed c.list_in_term.new.listed c.loop-term-test.true
    c.term-item.is c.loop-term.invariant c.in_ok-list_in_term.ensures
