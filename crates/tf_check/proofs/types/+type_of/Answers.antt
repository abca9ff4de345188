use Rattle.std.proofs.Common.{map}
use Rattle.tf_check.specs.Context.{type_in}
use Rattle.tf_check.specs.Types.{types_of_all}
use Rattle.tf_check.specs.Visited.{in_turn}
use Rattle.tf_check.proofs.AnswerLemmas.{answers-on, answers-none}
use Rattle.tf_check.proofs.TypeSteps.{types_next, types_break, type_variable_is, type_no_place, type_no_types, type_is, type_individuals, type_other}
use Rattle.tf_check.proofs.Variants.{variant}
use Rattle.tf_check.proofs.types.+type_of.Goals as goal

pub type_of-returns-in_err-place-in-Apply : goal.type_of-returns-in_err-place-in-Apply
type_of-returns-in_err-place-in-Apply t c =
    answers-on ((type_in c.args.context.now c.args.expression.now).as_type c.args.scope.now.names)
    c.from_residual.result c.in_err-place-in-Apply.field-0.0 c.from_residual.ensures
    (rw c.in-Apply.is
    (type_no_place c.args.context.now.entry c.args.context.now.table.now.constructors
    c.args.scope.now.names
    c.in-Apply.name c.in-Apply.parts c.in_err-place-in-Apply.field-0.0
    (rw c.as_slice.ensures at c.in_err-place-in-Apply.ensures)))

pub type_of-returns-in_err-types-in-Apply : goal.type_of-returns-in_err-types-in-Apply
type_of-returns-in_err-types-in-Apply t c =
    answers-on ((type_in c.args.context.now c.args.expression.now).as_type c.args.scope.now.names)
    c.from_residual-in_err-types-in-Apply.result c.in_err-types-in-Apply.field-0.0
    c.from_residual-in_err-types-in-Apply.ensures
    (rw c.in-Apply.is
    (type_no_types c.args.context.now.entry c.args.context.now.table.now.constructors
    c.args.scope.now.names
    c.in-Apply.name c.in-Apply.parts c.in_ok-place-in-Apply.place c.in_err-types-in-Apply.field-0.0
    (rw c.as_slice.ensures at c.in_ok-place-in-Apply.ensures)
    (rw c.as_slice-in-Apply.ensures at c.in_err-types-in-Apply.ensures)))

pub type_of-returns-in-Variable : goal.type_of-returns-in-Variable
type_of-returns-in-Variable t c =
    rw c.in-Variable.is
    (type_variable_is c.args.context.now.entry c.args.context.now.table.now.constructors
    c.args.scope.now.names
    c.in-Variable.name c.type_variable.result
    c.type_variable.ensures)

pub type_of-returns-in_ok-types-in-Apply : goal.type_of-returns-in_ok-types-in-Apply
type_of-returns-in_ok-types-in-Apply t c =
    rw c.in-Apply.is
    (type_is c.args.context.now.entry c.args.context.now.table.now.constructors c.args.scope.now.names
    c.in-Apply.name c.in-Apply.parts c.in_ok-place-in-Apply.place c.in_ok-types-in-Apply.types
    (rw c.as_slice.ensures at c.in_ok-place-in-Apply.ensures)
    (rw c.as_slice-in-Apply.ensures at c.in_ok-types-in-Apply.ensures))

pub type_of-returns-in-Individuals : goal.type_of-returns-in-Individuals
type_of-returns-in-Individuals t c =
    rw (c.in-Individuals.is, c.individuals.ensures)
    (type_individuals c.args.context.now.entry c.args.context.now.table.now.constructors
    c.args.scope.now.names)

pub type_of-returns-in_default : goal.type_of-returns-in_default
type_of-returns-in_default t c =
    type_other c.args.context.now.entry c.args.context.now.table.now.constructors c.args.scope.now.names
    c.args.expression.now (variant c.args.expression.now) c.in_default.not-Variable
    c.in_default.not-Apply c.in_default.not-Individuals

pub types_of-loop-part-init : goal.types_of-loop-part-init
types_of-loop-part-init t c = rw c.new-types.ensures answers-none

pub types_of-returns-in_err-type_of : goal.types_of-returns-in_err-type_of
types_of-returns-in_err-type_of t c =
    answers-on
    (in_turn (types_of_all (map (type_in c.args.context.now) c.args.parts.now) c.args.scope.now.names))
    c.from_residual.result c.in_err-type_of.field-0.0 c.from_residual.ensures
    (types_break c.args.context.now.entry c.args.context.now.table.now.constructors
    c.args.scope.now.names
    c.args.parts.now c.loop-part.part-index c.part-item.result c.loop-part.types
    c.in_err-type_of.field-0.0 c.loop-part-test.true c.part-item.is c.loop-part.invariant
    c.in_err-type_of.ensures)

pub types_of-loop-part-preserved : goal.types_of-loop-part-preserved
types_of-loop-part-preserved t c =
    rw c.in_ok-push.ensures.ok
    (types_next c.args.context.now.entry c.args.context.now.table.now.constructors c.args.scope.now.names
    c.args.parts.now c.loop-part.part-index c.part-item.result c.loop-part.types
    c.in_ok-type_of.field-0 c.loop-part-test.true c.part-item.is c.loop-part.invariant
    c.in_ok-type_of.ensures)
