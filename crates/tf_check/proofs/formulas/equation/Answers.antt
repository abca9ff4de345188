use Rattle.std.proofs.Common.{◌≡◌, [], ◌∷◌, sym, ap, subst, ◌∙◌}
use Rattle.std.proofs.lemmas.Bool.{false≢true}
use Rattle.tf_types.specs.Numbers.{type_at}
use Rattle.tf_types.proofs.Numbers.{type_at-extended}
use Rattle.tf_check.proofs.AnswerLemmas.{answers-on}
use Rattle.tf_check.proofs.FormulaAnswers.{equation_left, equation_right, equation_done, equation_refused}
use Rattle.tf_check.specs.declared.error.TypeError.TheVariants.{Mismatch}
use Rattle.tf_check.specs.Answers.{IsFirst}
use Rattle.tf_check.specs.Bound.{typed_at}
use Rattle.tf_check.specs.Formulas.{equation}
use Rattle.tf_check.proofs.formulas.equation.Goals as goal

pub returns-in_err-a-clause-exact : goal.returns-in_err-a-clause-exact
returns-in_err-a-clause-exact c =
    answers-on
    (equation c.args.context.now.entry c.args.context.now.table.now (λ body. body)
    c.args.left.now c.args.right.now c.args.scope.now.names)
    c.from_residual.result c.in_err-a.field-0.0 c.from_residual.ensures
    (equation_left c.args.context.now.entry c.args.context.now.table.now (λ body. body)
    c.args.left.now c.args.right.now c.args.scope.now.names
    c.in_err-a.field-0.0 c.in_err-a.ensures.exact)

pub returns-in_err-b-clause-exact : goal.returns-in_err-b-clause-exact
returns-in_err-b-clause-exact c =
    answers-on
    (equation c.args.context.now.entry c.args.context.now.table.now (λ body. body)
    c.args.left.now c.args.right.now c.args.scope.now.names)
    c.from_residual-in_err-b.result c.in_err-b.field-0.0 c.from_residual-in_err-b.ensures
    (equation_right c.args.context.now.entry c.args.context.now.table.now (λ body. body)
    c.args.left.now c.args.right.now c.args.scope.now.names
    (typed_at c.term_of.new.scope.types (c.in_ok-a.a, c.in_ok-a.expected)) c.in_err-b.field-0.0
    c.in_ok-a.ensures.exact (rw c.in_ok-a.ensures.kept.names at c.in_err-b.ensures.exact))

pub returns-in_ok-tree_of-clause-exact : goal.returns-in_ok-tree_of-clause-exact
returns-in_ok-tree_of-clause-exact c =
    let first = c.term_of.new.scope.types in
    let last = c.term_of-2.new.scope.types in
    let still : type_at last c.in_ok-a.expected ≡ type_at first c.in_ok-a.expected =
    type_at-extended first last c.in_ok-b.ensures.kept.grows.types c.in_ok-a.expected
    c.in_ok-a.ensures.number in
    rw (c.in_ok-tree_of.ensures ∙ still)
    (equation_done c.args.context.now.entry c.args.context.now.table.now (λ body. body)
    c.args.left.now c.args.right.now c.args.scope.now.names
    (typed_at first (c.in_ok-a.a, c.in_ok-a.expected)) (typed_at last (c.in_ok-b.b, c.in_ok-b.found))
    c.in_ok-a.ensures.exact (rw c.in_ok-a.ensures.kept.names at c.in_ok-b.ensures.exact)
    (sym still ∙ c.same.ensures.0 c.if-same.true))

pub returns-else-same-clause-exact : goal.returns-else-same-clause-exact
returns-else-same-clause-exact c =
    let first = c.term_of.new.scope.types in
    let last = c.term_of-2.new.scope.types in
    let still : type_at last c.in_ok-a.expected ≡ type_at first c.in_ok-a.expected =
    type_at-extended first last c.in_ok-b.ensures.kept.grows.types c.in_ok-a.expected
    c.in_ok-a.ensures.number in
    equation_refused c.args.context.now.entry c.args.context.now.table.now (λ body. body)
    c.args.left.now c.args.right.now c.args.scope.now.names
    (typed_at first (c.in_ok-a.a, c.in_ok-a.expected)) (typed_at last (c.in_ok-b.b, c.in_ok-b.found))
    c.in_ok-a.ensures.exact (rw c.in_ok-a.ensures.kept.names at c.in_ok-b.ensures.exact)
    (λ same. false≢true (sym c.if-same.false ∙ c.same.ensures.1 (still ∙ same)))
    c.mismatch.result
    (subst
    (λ ty. IsFirst
    (Mismatch c.args.context.now.entry ty (type_at last c.in_ok-b.found) ∷ []) c.mismatch.result)
    still c.mismatch.ensures)
