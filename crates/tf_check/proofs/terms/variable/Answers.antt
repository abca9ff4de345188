use Rattle.std.proofs.Common.{◌≡◌, sym}
use Rattle.tf_core.specs.declared.term.Term.TheVariants.{Var}
use Rattle.tf_types.specs.Numbers.{type_at}
use Rattle.tf_check.specs.declared.error.TypeError.TheVariants.{FreeVariable, NotATerm}
use Rattle.tf_check.specs.Scope.{meaning, Unbound, OfType, OfTerm}
use Rattle.tf_check.specs.Terms.{no_term}
use Rattle.tf_check.proofs.AnswerLemmas.{answers-good, answers-bad}
use Rattle.tf_check.proofs.TermAnswers.{answers-refused}
use Rattle.tf_check.proofs.terms.variable.Goals as goal

pub returns-in_ok-copy-in-Unbound-clause-exact : goal.returns-in_ok-copy-in-Unbound-clause-exact
returns-in_ok-copy-in-Unbound-clause-exact c =
    let is : Unbound ≡ meaning c.args.scope.now.names c.args.name.now =
    rw c.as_slice.ensures at c.in-Unbound.ensures.exact in
    rw (sym is, c.in_ok-copy-in-Unbound.ensures)
    (answers-bad (FreeVariable c.args.context.now.entry c.args.name.now) no_term)

pub returns-in-OfType-clause-exact : goal.returns-in-OfType-clause-exact
returns-in-OfType-clause-exact c =
    let is : OfType c.in-OfType.field-0 ≡ meaning c.args.scope.now.names c.args.name.now =
    rw c.as_slice.ensures at c.in-OfType.ensures.exact in
    rw (sym is)
    (answers-refused (NotATerm c.args.context.now.entry c.args.name.now) c.not_a_term.result no_term
    (rw c.as_slice-in-OfType.ensures at c.not_a_term.ensures))

pub returns-in-OfTerm-clause-exact : goal.returns-in-OfTerm-clause-exact
returns-in-OfTerm-clause-exact c =
    let ty = type_at c.args.scope.now.types c.in-OfTerm.ty in
    let is : OfTerm c.in-OfTerm.i ty ≡ meaning c.args.scope.now.names c.args.name.now =
    rw c.as_slice.ensures at c.in-OfTerm.ensures.exact in
    rw (sym is) (answers-good (Var c.in-OfTerm.i, ty))
