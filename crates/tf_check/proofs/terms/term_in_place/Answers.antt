use Rattle.std.proofs.Common.{sym, ◌∙◌}
use Rattle.std.proofs.lemmas.Bool.{false≢true}
use Rattle.tf_types.specs.Numbers.{type_at}
use Rattle.tf_check.specs.Bound.{typed_at}
use Rattle.tf_check.specs.Visited.{good}
use Rattle.tf_check.proofs.AnswerLemmas.{answers-good}
use Rattle.tf_check.proofs.TermAnswers.{place_done, place_refused}
use Rattle.tf_check.proofs.terms.term_in_place.Goals as goal

pub returns-then-same : goal.returns-then-same
returns-then-same c =
    place_done c.args.context.now.entry c.args.context.now.table.now c.args.scope.now.names
    (type_at c.args.scope.now.types c.args.place) (good (typed_at c.args.scope.now.types c.args.given))
    c.args.given.0 (type_at c.args.scope.now.types c.args.given.1)
    (answers-good (typed_at c.args.scope.now.types c.args.given))
    (c.same.ensures.0 c.if-same.true)

pub returns-else-same : goal.returns-else-same
returns-else-same c =
    place_refused c.args.context.now.entry c.args.context.now.table.now c.args.scope.now.names
    (type_at c.args.scope.now.types c.args.place) (good (typed_at c.args.scope.now.types c.args.given))
    c.args.given.0 (type_at c.args.scope.now.types c.args.given.1)
    (answers-good (typed_at c.args.scope.now.types c.args.given))
    (λ same. false≢true (sym c.if-same.false ∙ c.same.ensures.1 same)) c.mismatch.result
    c.mismatch.ensures
