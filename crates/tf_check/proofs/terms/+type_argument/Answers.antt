use Rattle.std.proofs.Common.{◌≤◌, map, length, sym, arith, subst, Ok}
use Rattle.std.proofs.lemmas.List.{take_all}
use Rattle.tf_check.specs.Answers.{Answers}
use Rattle.tf_check.specs.Terms.{term_reading, type_readings}
use Rattle.tf_check.specs.Types.{constructor_named, type_applied, individuals}
use Rattle.tf_check.specs.Visited.{in_turn}
use Rattle.tf_check.proofs.AnswerLemmas.{answers-good, answers-none, answers-next, answers-break}
use Rattle.tf_check.proofs.TermAnswers.{passed_on, applied_refused, applied_stop, applied_done, type_visit, type_visits, type_count}
use Rattle.tf_check.proofs.TermLemmas as l
use Rattle.tf_check.proofs.terms.+type_argument.Goals as goal

pub type_argument-returns-in_err-place-in-Apply : goal.type_argument-returns-in_err-place-in-Apply
type_argument-returns-in_err-place-in-Apply t c =
    let at = constructor_named c.in-Apply.name c.args.context.now.table.now.constructors in
    let parts = type_readings (map (term_reading c.args.context.now.entry c.args.context.now.table.now) c.in-Apply.parts) c.args.scope.now.names in
    rw (c.in-Apply.is, l.term_reading-apply c.args.context.now.entry c.args.context.now.table.now c.in-Apply.name c.in-Apply.parts)
    (passed_on (type_applied c.args.context.now.entry c.in-Apply.name at parts) c.from_residual.result
    c.in_err-place-in-Apply.field-0.0 c.from_residual.ensures.1
    (applied_refused c.args.context.now.entry c.in-Apply.name at parts (length c.in-Apply.parts)
    (type_count c.args.context.now.entry c.args.context.now.table.now c.args.scope.now.names c.in-Apply.parts) c.in_err-place-in-Apply.field-0.0
    (rw c.as_slice.ensures at c.in_err-place-in-Apply.ensures)))

pub type_argument-returns-in_err-types-in-Apply : goal.type_argument-returns-in_err-types-in-Apply
type_argument-returns-in_err-types-in-Apply t c =
    let at = constructor_named c.in-Apply.name c.args.context.now.table.now.constructors in
    let parts = type_readings (map (term_reading c.args.context.now.entry c.args.context.now.table.now) c.in-Apply.parts) c.args.scope.now.names in
    rw (c.in-Apply.is, l.term_reading-apply c.args.context.now.entry c.args.context.now.table.now c.in-Apply.name c.in-Apply.parts)
    (passed_on (type_applied c.args.context.now.entry c.in-Apply.name at parts) c.from_residual-in_err-types-in-Apply.result
    c.in_err-types-in-Apply.field-0.0 c.from_residual-in_err-types-in-Apply.ensures.1
    (applied_stop c.args.context.now.entry c.in-Apply.name at parts (length c.in-Apply.parts)
    (type_count c.args.context.now.entry c.args.context.now.table.now c.args.scope.now.names c.in-Apply.parts) c.in_ok-place-in-Apply.place c.in_err-types-in-Apply.field-0.0
    (rw c.as_slice.ensures at c.in_ok-place-in-Apply.ensures)
    (rw c.as_slice-in-Apply.ensures at c.in_err-types-in-Apply.ensures)))

pub type_argument-returns-in-Variable : goal.type_argument-returns-in-Variable
type_argument-returns-in-Variable t c =
    rw (c.in-Variable.is, l.term_reading-variable c.args.context.now.entry c.args.context.now.table.now c.in-Variable.name) c.type_variable.ensures

pub type_argument-returns-in_ok-types-in-Apply : goal.type_argument-returns-in_ok-types-in-Apply
type_argument-returns-in_ok-types-in-Apply t c =
    let at = constructor_named c.in-Apply.name c.args.context.now.table.now.constructors in
    let parts = type_readings (map (term_reading c.args.context.now.entry c.args.context.now.table.now) c.in-Apply.parts) c.args.scope.now.names in
    rw (c.in-Apply.is, l.term_reading-apply c.args.context.now.entry c.args.context.now.table.now c.in-Apply.name c.in-Apply.parts)
    (applied_done c.args.context.now.entry c.in-Apply.name at parts (length c.in-Apply.parts)
    (type_count c.args.context.now.entry c.args.context.now.table.now c.args.scope.now.names c.in-Apply.parts) c.in_ok-place-in-Apply.place c.in_ok-types-in-Apply.types
    (rw c.as_slice.ensures at c.in_ok-place-in-Apply.ensures)
    (rw c.as_slice-in-Apply.ensures at c.in_ok-types-in-Apply.ensures))

pub type_argument-returns-in-Individuals : goal.type_argument-returns-in-Individuals
type_argument-returns-in-Individuals t c =
    rw (c.in-Individuals.is, l.term_reading-individuals c.args.context.now.entry c.args.context.now.table.now, c.individuals.ensures)
    (answers-good individuals)

pub type_arguments-loop-part-init : goal.type_arguments-loop-part-init
type_arguments-loop-part-init t c = rw c.new-types.ensures answers-none

pub type_arguments-returns-in_err-type_argument : goal.type_arguments-returns-in_err-type_argument
type_arguments-returns-in_err-type_argument t c =
    subst (λ visits. Answers (in_turn visits) c.from_residual.result)
    (sym (type_visits c.args.context.now.entry c.args.context.now.table.now c.args.scope.now.names c.args.parts.now))
    (passed_on (in_turn (map (type_visit c.args.context.now.entry c.args.context.now.table.now c.args.scope.now.names) c.args.parts.now)) c.from_residual.result
    c.in_err-type_argument.field-0.0 c.from_residual.ensures.1
    (answers-break (type_visit c.args.context.now.entry c.args.context.now.table.now c.args.scope.now.names) c.args.parts.now c.loop-part.part-index c.part-item.result
    c.loop-part.types c.in_err-type_argument.field-0.0 c.loop-part-test.true c.part-item.is
    c.loop-part.invariant c.in_err-type_argument.ensures))

pub type_arguments-loop-part-preserved : goal.type_arguments-loop-part-preserved
type_arguments-loop-part-preserved t c =
    rw c.in_ok-push.ensures.ok
    (answers-next (type_visit c.args.context.now.entry c.args.context.now.table.now c.args.scope.now.names) c.args.parts.now c.loop-part.part-index c.part-item.result
    c.loop-part.types c.in_ok-type_argument.field-0 c.loop-part-test.true c.part-item.is
    c.loop-part.invariant c.in_ok-type_argument.ensures)

pub type_arguments-returns : goal.type_arguments-returns
type_arguments-returns t c =
    let past : length c.args.parts.now ≤ c.loop-part.part-index = omega arith in
    subst (λ visits. Answers (in_turn visits) (Ok c.loop-part.types))
    (sym (type_visits c.args.context.now.entry c.args.context.now.table.now c.args.scope.now.names c.args.parts.now))
    (subst (λ parts. Answers (in_turn (map (type_visit c.args.context.now.entry c.args.context.now.table.now c.args.scope.now.names) parts)) (Ok c.loop-part.types))
    (take_all c.loop-part.part-index c.args.parts.now past)
    c.loop-part.invariant)
