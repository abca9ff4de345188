use Rattle.std.proofs.Common.{◌≡◌, sym, ap, ◌∙◌, subst, length, arith, Ok}
use Rattle.std.proofs.lemmas.List.{nil_from_length}
use Rattle.tf_core.specs.declared.formula.Formula.TheVariants as formula
use Rattle.tf_check.specs.Answers.{Answers}
use Rattle.tf_check.specs.Core.{maker}
use Rattle.tf_check.specs.Formulas.{quantified}
use Rattle.tf_check.specs.Visited.{good}
use Rattle.tf_check.proofs.AnswerLemmas.{answers-good}
use Rattle.tf_check.proofs.FormulaAnswers.{quantified-popped}
use Rattle.tf_check.proofs.formulas.quantified.Goals as goal

pub loop-ty-preserved-in-ForAll : goal.loop-ty-preserved-in-ForAll
loop-ty-preserved-in-ForAll c =
    quantified-popped (maker c.args.quantifier) c.loop-ty.types.items c.pop.new.self.items
    c.in-Some.ty
    c.loop-ty.formula (formula.ForAll c.in-Some.ty c.in_ok-inner.inner) c.in-Some.ensures.items
    (ap (formula.ForAll c.in-Some.ty) c.in_ok-inner.ensures
    ∙ ap (λ q. maker q c.in-Some.ty c.loop-ty.formula) (sym c.in-ForAll.is))
    ∙ c.loop-ty.invariant

pub loop-ty-preserved : goal.loop-ty-preserved
loop-ty-preserved c =
    quantified-popped (maker c.args.quantifier) c.loop-ty.types.items c.pop.new.self.items
    c.in-Some.ty
    c.loop-ty.formula (formula.Exists c.in-Some.ty c.in_ok-inner.inner) c.in-Some.ensures.items
    (ap (formula.Exists c.in-Some.ty) c.in_ok-inner.ensures
    ∙ ap (λ q. maker q c.in-Some.ty c.loop-ty.formula) (sym c.in-Exists.is))
    ∙ c.loop-ty.invariant

pub returns : goal.returns
returns c =
    let none : length c.loop-ty.types.items ≡ 0 =
    omega (arith, c.in_default.ensures.cases.0, c.loop-ty.types.ok.0) in
    let is : c.loop-ty.formula ≡ quantified (maker c.args.quantifier) c.args.types c.args.body =
    ap (λ types. quantified (maker c.args.quantifier) types c.loop-ty.formula)
    (sym (nil_from_length c.loop-ty.types.items none))
    ∙ c.loop-ty.invariant in
    subst (λ a. Answers (good (quantified (maker c.args.quantifier) c.args.types c.args.body))
    (Ok a))
    (sym is) (answers-good (quantified (maker c.args.quantifier) c.args.types c.args.body))
