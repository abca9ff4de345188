use Rattle.tf_core.proofs.CheckedTerms.{answered}
use Rattle.tf_core.proofs.CheckedNnf.{at_true, at_false, at_atom, at_equation, at_and, at_or, at_for_all, at_exists}
use Rattle.tf_core.proofs.nnf_typing.+typed_nnf.Goals as goal

pub is_nnf-returns-in-True-clause-exact : goal.is_nnf-returns-in-True-clause-exact
is_nnf-returns-in-True-clause-exact t c =
    at_true c.args.scope.now.signature.now c.args.scope.now.variables c.args.context.now
    c.args.formula.now c.in-True.is

pub is_nnf-returns-in-False-clause-exact : goal.is_nnf-returns-in-False-clause-exact
is_nnf-returns-in-False-clause-exact t c =
    at_false c.args.scope.now.signature.now c.args.scope.now.variables c.args.context.now
    c.args.formula.now c.in-False.is

pub is_nnf-returns-in-Atom-clause-exact : goal.is_nnf-returns-in-Atom-clause-exact
is_nnf-returns-in-Atom-clause-exact t c =
    at_atom c.args.scope.now.signature.now c.args.scope.now.variables c.args.context.now
    c.args.formula.now c.in-Atom.field-0 c.in-Atom.f c.in-Atom.types c.as_slice.result.now c.in-Atom.terms
    c.as_slice-in-Atom.result.now c.is_atom.result c.in-Atom.is c.as_slice.ensures
    c.as_slice-in-Atom.ensures c.is_atom.ensures

pub is_nnf-returns-in-Equation-clause-exact : goal.is_nnf-returns-in-Equation-clause-exact
is_nnf-returns-in-Equation-clause-exact t c =
    at_equation c.args.scope.now.signature.now c.args.scope.now.variables c.args.context.now
    c.args.formula.now c.in-Equation.field-0 c.in-Equation.ty c.in-Equation.left c.in-Equation.right c.is_equation.result
    c.in-Equation.is c.is_equation.ensures

pub is_nnf-returns-in-And-clause-exact : goal.is_nnf-returns-in-And-clause-exact
is_nnf-returns-in-And-clause-exact t c =
    answered c.all_typed.result _ _ c.all_typed.ensures.exact
    (at_and c.args.scope.now.signature.now c.args.scope.now.variables c.args.context.now
    c.args.formula.now c.in-And.parts c.as_slice-in-And.result.now
    c.in-And.is c.as_slice-in-And.ensures)

pub is_nnf-returns-in-Or-clause-exact : goal.is_nnf-returns-in-Or-clause-exact
is_nnf-returns-in-Or-clause-exact t c =
    answered c.all_typed-in-Or.result _ _ c.all_typed-in-Or.ensures.exact
    (at_or c.args.scope.now.signature.now c.args.scope.now.variables c.args.context.now
    c.args.formula.now c.in-Or.parts c.as_slice-in-Or.result.now
    c.in-Or.is c.as_slice-in-Or.ensures)

pub is_nnf-returns-in-ForAll-clause-exact : goal.is_nnf-returns-in-ForAll-clause-exact
is_nnf-returns-in-ForAll-clause-exact t c =
    answered c.binds_typed.result _ _ c.binds_typed.ensures.exact
    (at_for_all c.args.scope.now.signature.now c.args.scope.now.variables c.args.context.now
    c.args.formula.now c.in-ForAll.ty c.in-ForAll.body c.in-ForAll.is)

pub is_nnf-returns-in-Exists-clause-exact : goal.is_nnf-returns-in-Exists-clause-exact
is_nnf-returns-in-Exists-clause-exact t c =
    answered c.binds_typed-in-Exists.result _ _ c.binds_typed-in-Exists.ensures.exact
    (at_exists c.args.scope.now.signature.now c.args.scope.now.variables c.args.context.now
    c.args.formula.now c.in-Exists.ty c.in-Exists.body c.in-Exists.is)
