use Rattle.std.proofs.Common.{◌++◌, map, sym, ap, ◌∙◌}
use Rattle.std.proofs.lemmas.Result.{on_ok_weaker}
use Rattle.tf_core.specs.Sorts.{joined}
use Rattle.enc_mono.specs.Instances.{term_instances, symbol_instances}
use Rattle.enc_mono.proofs.InstanceEquations.{symbol_instances-true, symbol_instances-false, symbol_instances-atom, symbol_instances-equation, symbol_instances-and, symbol_instances-or, symbol_instances-for_all, symbol_instances-exists}
use Rattle.enc_mono.proofs.ListedInstances.{Lists-nothing, Lists-same, Lists-twice, Lists-next, Lists-application}
use Rattle.enc_mono.proofs.listing.+list_instances.Goals as goal

pub list_in_parts-loop-part-preserved : goal.list_in_parts-loop-part-preserved
list_in_parts-loop-part-preserved t c =
    Lists-next symbol_instances c.args.parts.now c.loop-part.part-index c.part-item.result
    c.args.listed.now c.loop-part.listed c.list_instances.new.listed c.loop-part-test.true
    c.part-item.is c.loop-part.invariant c.in_ok-list_instances.ensures

pub list_instances-returns-in-True : goal.list_instances-returns-in-True
list_instances-returns-in-True t c =
    Lists-nothing (symbol_instances c.args.formula.now) c.args.listed.now
    (ap symbol_instances c.in-True.is ∙ symbol_instances-true)

pub list_instances-returns-in-False : goal.list_instances-returns-in-False
list_instances-returns-in-False t c =
    Lists-nothing (symbol_instances c.args.formula.now) c.args.listed.now
    (ap symbol_instances c.in-False.is ∙ symbol_instances-false)

pub list_instances-returns-in_ok-list_instance-in-Atom :
    goal.list_instances-returns-in_ok-list_instance-in-Atom
list_instances-returns-in_ok-list_instance-in-Atom t c =
    on_ok_weaker c.list_in_terms.result
    (Lists-application c.in-Atom.f c.in-Atom.types c.in-Atom.terms c.as_slice.result.now
    c.as_slice-in-Atom.result.now c.as_slice.ensures c.as_slice-in-Atom.ensures
    (symbol_instances c.args.formula.now)
    (ap symbol_instances c.in-Atom.is
    ∙ symbol_instances-atom c.in-Atom.field-0 c.in-Atom.f c.in-Atom.types c.in-Atom.terms)
    c.args.listed.now c.list_instance.new.listed c.list_in_terms.new.listed
    c.in_ok-list_instance-in-Atom.ensures)
    c.list_in_terms.ensures

pub list_instances-returns-in_ok-list_in_term-in-Equation :
    goal.list_instances-returns-in_ok-list_in_term-in-Equation
list_instances-returns-in_ok-list_in_term-in-Equation t c =
    on_ok_weaker c.list_in_term-in-Equation.result
    (λ more. Lists-same (term_instances c.in-Equation.left ++ term_instances c.in-Equation.right)
    (symbol_instances c.args.formula.now) c.args.listed.now c.list_in_term-in-Equation.new.listed
    (ap symbol_instances c.in-Equation.is
    ∙ symbol_instances-equation c.in-Equation.field-0 c.in-Equation.field-1 c.in-Equation.left
    c.in-Equation.right)
    (Lists-twice (term_instances c.in-Equation.left) (term_instances c.in-Equation.right)
    c.args.listed.now c.list_in_term.new.listed c.list_in_term-in-Equation.new.listed
    c.in_ok-list_in_term-in-Equation.ensures more))
    c.list_in_term-in-Equation.ensures

pub list_instances-returns-in-And : goal.list_instances-returns-in-And
list_instances-returns-in-And t c =
    on_ok_weaker c.list_in_parts.result
    (Lists-same (joined (map symbol_instances c.as_slice-in-And.result.now))
    (symbol_instances c.args.formula.now) c.args.listed.now c.list_in_parts.new.listed
    (ap symbol_instances c.in-And.is ∙ symbol_instances-and c.in-And.parts
    ∙ ap (λ parts. joined (map symbol_instances parts)) (sym c.as_slice-in-And.ensures)))
    c.list_in_parts.ensures

pub list_instances-returns-in-Or : goal.list_instances-returns-in-Or
list_instances-returns-in-Or t c =
    on_ok_weaker c.list_in_parts-in-Or.result
    (Lists-same (joined (map symbol_instances c.as_slice-in-Or.result.now))
    (symbol_instances c.args.formula.now) c.args.listed.now c.list_in_parts-in-Or.new.listed
    (ap symbol_instances c.in-Or.is ∙ symbol_instances-or c.in-Or.parts
    ∙ ap (λ parts. joined (map symbol_instances parts)) (sym c.as_slice-in-Or.ensures)))
    c.list_in_parts-in-Or.ensures

pub list_instances-returns-in-ForAll : goal.list_instances-returns-in-ForAll
list_instances-returns-in-ForAll t c =
    on_ok_weaker c.list_instances.result
    (Lists-same (symbol_instances c.get.result.now) (symbol_instances c.args.formula.now)
    c.args.listed.now c.list_instances.new.listed
    (ap symbol_instances c.in-ForAll.is
    ∙ symbol_instances-for_all c.in-ForAll.field-0 c.in-ForAll.body
    ∙ ap symbol_instances (sym c.get.ensures)))
    c.list_instances.ensures

pub list_instances-returns-in-Exists : goal.list_instances-returns-in-Exists
list_instances-returns-in-Exists t c =
    on_ok_weaker c.list_instances-in-Exists.result
    (Lists-same (symbol_instances c.get-in-Exists.result.now) (symbol_instances c.args.formula.now)
    c.args.listed.now c.list_instances-in-Exists.new.listed
    (ap symbol_instances c.in-Exists.is
    ∙ symbol_instances-exists c.in-Exists.field-0 c.in-Exists.body
    ∙ ap symbol_instances (sym c.get-in-Exists.ensures)))
    c.list_instances-in-Exists.ensures
