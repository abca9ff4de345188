use Rattle.std.proofs.Common.{ap, ◌∙◌}
use Rattle.tf_core.specs.TypingTests.{is_formula}
use Rattle.tf_core.proofs.TypingTests.{is_formula-implies, is_formula-if, is_formula-iff, is_formula-xor, is_formula-nand, is_formula-nor}
use Rattle.tf_core.proofs.CheckedTerms.{answered}
use Rattle.tf_core.proofs.CheckedFormulas.{at_true, at_false, at_atom, at_equal, at_not, at_two, at_and, at_or, at_for_all, at_exists}
use Rattle.tf_core.proofs.formula_typing.+typed_formula.Goals as goal

pub is_formula-returns-in-True-clause-exact : goal.is_formula-returns-in-True-clause-exact
is_formula-returns-in-True-clause-exact t c =
    at_true c.args.scope.now.signature.now c.args.scope.now.variables c.args.context.now
    c.args.formula.now c.in-True.is

pub is_formula-returns-in-False-clause-exact : goal.is_formula-returns-in-False-clause-exact
is_formula-returns-in-False-clause-exact t c =
    at_false c.args.scope.now.signature.now c.args.scope.now.variables c.args.context.now
    c.args.formula.now c.in-False.is

pub is_formula-returns-in-Atom-clause-exact : goal.is_formula-returns-in-Atom-clause-exact
is_formula-returns-in-Atom-clause-exact t c =
    at_atom c.args.scope.now.signature.now c.args.scope.now.variables c.args.context.now
    c.args.formula.now c.in-Atom.f c.in-Atom.types c.as_slice.result.now c.in-Atom.terms
    c.as_slice-in-Atom.result.now c.is_atom.result c.in-Atom.is c.as_slice.ensures
    c.as_slice-in-Atom.ensures c.is_atom.ensures

pub is_formula-returns-in-Equal-clause-exact : goal.is_formula-returns-in-Equal-clause-exact
is_formula-returns-in-Equal-clause-exact t c =
    at_equal c.args.scope.now.signature.now c.args.scope.now.variables c.args.context.now
    c.args.formula.now c.in-Equal.ty c.in-Equal.left c.in-Equal.right c.is_equation.result
    c.in-Equal.is c.is_equation.ensures

pub is_formula-returns-in-Not-clause-exact : goal.is_formula-returns-in-Not-clause-exact
is_formula-returns-in-Not-clause-exact t c =
    answered c.is_formula.result _ _ c.is_formula.ensures.exact
    (at_not c.args.scope.now.signature.now c.args.scope.now.variables c.args.context.now
    c.args.formula.now c.in-Not.a c.get.result.now c.in-Not.is c.get.ensures)

pub is_formula-returns-in-And-clause-exact : goal.is_formula-returns-in-And-clause-exact
is_formula-returns-in-And-clause-exact t c =
    answered c.all_typed.result _ _ c.all_typed.ensures.exact
    (at_and c.args.scope.now.signature.now c.args.scope.now.variables c.args.context.now
    c.args.formula.now c.in-And.parts c.as_slice-in-And.result.now
    c.in-And.is c.as_slice-in-And.ensures)

pub is_formula-returns-in-Or-clause-exact : goal.is_formula-returns-in-Or-clause-exact
is_formula-returns-in-Or-clause-exact t c =
    answered c.all_typed-in-Or.result _ _ c.all_typed-in-Or.ensures.exact
    (at_or c.args.scope.now.signature.now c.args.scope.now.variables c.args.context.now
    c.args.formula.now c.in-Or.parts c.as_slice-in-Or.result.now
    c.in-Or.is c.as_slice-in-Or.ensures)

pub is_formula-returns-in_ok-is_formula-in-Implies-clause-exact : goal.is_formula-returns-in_ok-is_formula-in-Implies-clause-exact
is_formula-returns-in_ok-is_formula-in-Implies-clause-exact t c =
    answered c.also_typed.result _ _ c.also_typed.ensures.exact
    (at_two c.args.scope.now.signature.now c.args.scope.now.variables c.args.context.now
    c.args.formula.now c.in-Implies.a c.in-Implies.b c.get-in-Implies.result.now
    c.in_ok-is_formula-in-Implies.field-0 c.is_formula-in-Implies.new.context
    (ap (λ p. is_formula c.args.scope.now.signature.now c.args.scope.now.variables p c.args.context.now) c.in-Implies.is
    ∙ is_formula-implies c.args.scope.now.signature.now c.args.scope.now.variables c.in-Implies.a c.in-Implies.b c.args.context.now)
    c.get-in-Implies.ensures c.in_ok-is_formula-in-Implies.ensures.exact c.in_ok-is_formula-in-Implies.ensures.kept)

pub is_formula-returns-in_ok-is_formula-in-If-clause-exact : goal.is_formula-returns-in_ok-is_formula-in-If-clause-exact
is_formula-returns-in_ok-is_formula-in-If-clause-exact t c =
    answered c.also_typed-in-If.result _ _ c.also_typed-in-If.ensures.exact
    (at_two c.args.scope.now.signature.now c.args.scope.now.variables c.args.context.now
    c.args.formula.now c.in-If.a c.in-If.b c.get-in-If.result.now
    c.in_ok-is_formula-in-If.field-0 c.is_formula-in-If.new.context
    (ap (λ p. is_formula c.args.scope.now.signature.now c.args.scope.now.variables p c.args.context.now) c.in-If.is
    ∙ is_formula-if c.args.scope.now.signature.now c.args.scope.now.variables c.in-If.a c.in-If.b c.args.context.now)
    c.get-in-If.ensures c.in_ok-is_formula-in-If.ensures.exact c.in_ok-is_formula-in-If.ensures.kept)

pub is_formula-returns-in_ok-is_formula-in-Iff-clause-exact : goal.is_formula-returns-in_ok-is_formula-in-Iff-clause-exact
is_formula-returns-in_ok-is_formula-in-Iff-clause-exact t c =
    answered c.also_typed-in-Iff.result _ _ c.also_typed-in-Iff.ensures.exact
    (at_two c.args.scope.now.signature.now c.args.scope.now.variables c.args.context.now
    c.args.formula.now c.in-Iff.a c.in-Iff.b c.get-in-Iff.result.now
    c.in_ok-is_formula-in-Iff.field-0 c.is_formula-in-Iff.new.context
    (ap (λ p. is_formula c.args.scope.now.signature.now c.args.scope.now.variables p c.args.context.now) c.in-Iff.is
    ∙ is_formula-iff c.args.scope.now.signature.now c.args.scope.now.variables c.in-Iff.a c.in-Iff.b c.args.context.now)
    c.get-in-Iff.ensures c.in_ok-is_formula-in-Iff.ensures.exact c.in_ok-is_formula-in-Iff.ensures.kept)

pub is_formula-returns-in_ok-is_formula-in-Xor-clause-exact : goal.is_formula-returns-in_ok-is_formula-in-Xor-clause-exact
is_formula-returns-in_ok-is_formula-in-Xor-clause-exact t c =
    answered c.also_typed-in-Xor.result _ _ c.also_typed-in-Xor.ensures.exact
    (at_two c.args.scope.now.signature.now c.args.scope.now.variables c.args.context.now
    c.args.formula.now c.in-Xor.a c.in-Xor.b c.get-in-Xor.result.now
    c.in_ok-is_formula-in-Xor.field-0 c.is_formula-in-Xor.new.context
    (ap (λ p. is_formula c.args.scope.now.signature.now c.args.scope.now.variables p c.args.context.now) c.in-Xor.is
    ∙ is_formula-xor c.args.scope.now.signature.now c.args.scope.now.variables c.in-Xor.a c.in-Xor.b c.args.context.now)
    c.get-in-Xor.ensures c.in_ok-is_formula-in-Xor.ensures.exact c.in_ok-is_formula-in-Xor.ensures.kept)

pub is_formula-returns-in_ok-is_formula-in-Nand-clause-exact : goal.is_formula-returns-in_ok-is_formula-in-Nand-clause-exact
is_formula-returns-in_ok-is_formula-in-Nand-clause-exact t c =
    answered c.also_typed-in-Nand.result _ _ c.also_typed-in-Nand.ensures.exact
    (at_two c.args.scope.now.signature.now c.args.scope.now.variables c.args.context.now
    c.args.formula.now c.in-Nand.a c.in-Nand.b c.get-in-Nand.result.now
    c.in_ok-is_formula-in-Nand.field-0 c.is_formula-in-Nand.new.context
    (ap (λ p. is_formula c.args.scope.now.signature.now c.args.scope.now.variables p c.args.context.now) c.in-Nand.is
    ∙ is_formula-nand c.args.scope.now.signature.now c.args.scope.now.variables c.in-Nand.a c.in-Nand.b c.args.context.now)
    c.get-in-Nand.ensures c.in_ok-is_formula-in-Nand.ensures.exact c.in_ok-is_formula-in-Nand.ensures.kept)

pub is_formula-returns-in_ok-is_formula-in-Nor-clause-exact : goal.is_formula-returns-in_ok-is_formula-in-Nor-clause-exact
is_formula-returns-in_ok-is_formula-in-Nor-clause-exact t c =
    answered c.also_typed-in-Nor.result _ _ c.also_typed-in-Nor.ensures.exact
    (at_two c.args.scope.now.signature.now c.args.scope.now.variables c.args.context.now
    c.args.formula.now c.in-Nor.a c.in-Nor.b c.get-in-Nor.result.now
    c.in_ok-is_formula-in-Nor.field-0 c.is_formula-in-Nor.new.context
    (ap (λ p. is_formula c.args.scope.now.signature.now c.args.scope.now.variables p c.args.context.now) c.in-Nor.is
    ∙ is_formula-nor c.args.scope.now.signature.now c.args.scope.now.variables c.in-Nor.a c.in-Nor.b c.args.context.now)
    c.get-in-Nor.ensures c.in_ok-is_formula-in-Nor.ensures.exact c.in_ok-is_formula-in-Nor.ensures.kept)

pub is_formula-returns-in-ForAll-clause-exact : goal.is_formula-returns-in-ForAll-clause-exact
is_formula-returns-in-ForAll-clause-exact t c =
    answered c.binds_typed.result _ _ c.binds_typed.ensures.exact
    (at_for_all c.args.scope.now.signature.now c.args.scope.now.variables c.args.context.now
    c.args.formula.now c.in-ForAll.ty c.in-ForAll.body c.in-ForAll.is)

pub is_formula-returns-in-Exists-clause-exact : goal.is_formula-returns-in-Exists-clause-exact
is_formula-returns-in-Exists-clause-exact t c =
    answered c.binds_typed-in-Exists.result _ _ c.binds_typed-in-Exists.ensures.exact
    (at_exists c.args.scope.now.signature.now c.args.scope.now.variables c.args.context.now
    c.args.formula.now c.in-Exists.ty c.in-Exists.body c.in-Exists.is)
