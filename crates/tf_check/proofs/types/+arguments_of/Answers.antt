use Rattle.std.proofs.Common.{map}
use Rattle.tf_check.specs.Answers.{appended}
use Rattle.tf_check.specs.Context.{type_in}
use Rattle.tf_check.specs.Types.{arguments_of_all}
use Rattle.tf_check.proofs.ProfileSteps.{answers-on_value, argument_is, argument_stop, arguments_none, arguments_next, arguments_break}
use Rattle.tf_check.proofs.TypeLemmas as l
use Rattle.tf_check.proofs.types.+arguments_of.Goals as goal

pub arguments_of-returns-in_err-type_of-in_default :
    goal.arguments_of-returns-in_err-type_of-in_default
arguments_of-returns-in_err-type_of-in_default t c =
    answers-on_value
    (appended c.args.types.now
    ((type_in c.args.context.now c.args.expression.now).as_arguments c.args.scope.now.names))
    c.from_residual.result c.args.types.now c.in_err-type_of-in_default.field-0.0
    c.from_residual.ensures
    (argument_stop c.args.context.now.entry c.args.context.now.table.now.constructors
    c.args.scope.now.names
    c.args.expression.now c.args.types.now c.in_err-type_of-in_default.field-0.0
    c.in_default.not-Product
    c.in_err-type_of-in_default.ensures)

pub arguments_of-returns-in-Product : goal.arguments_of-returns-in-Product
arguments_of-returns-in-Product t c =
    rw (
      c.in-Product.is,
      l.reading-product c.args.context.now.entry c.args.context.now.table.now.constructors
          c.in-Product.parts,
    )
    (rw c.as_slice.ensures at c.arguments_of_all.ensures)

pub arguments_of-returns-in_ok-push-in_default : goal.arguments_of-returns-in_ok-push-in_default
arguments_of-returns-in_ok-push-in_default t c =
    rw c.in_ok-push-in_default.ensures.ok
    (argument_is c.args.context.now.entry c.args.context.now.table.now.constructors
    c.args.scope.now.names
    c.args.expression.now c.args.types.now c.in_ok-type_of-in_default.field-0
    c.in_default.not-Product
    c.in_ok-type_of-in_default.ensures)

pub arguments_of_all-loop-part-init : goal.arguments_of_all-loop-part-init
arguments_of_all-loop-part-init t c = arguments_none c.args.scope.now.names c.args.types.now

pub arguments_of_all-returns-in_err-arguments_of :
    goal.arguments_of_all-returns-in_err-arguments_of
arguments_of_all-returns-in_err-arguments_of t c =
    answers-on_value
    (appended c.args.types.now
    (arguments_of_all (map (type_in c.args.context.now) c.args.parts.now) c.args.scope.now.names))
    c.from_residual.result c.arguments_of.new.types c.in_err-arguments_of.field-0.0
    c.from_residual.ensures
    (arguments_break c.args.context.now.entry c.args.context.now.table.now.constructors
    c.args.scope.now.names
    c.args.types.now c.loop-part.types c.args.parts.now c.loop-part.part-index c.part-item.result
    c.loop-part-test.true c.part-item.is c.loop-part.invariant c.in_err-arguments_of.field-0.0
    c.in_err-arguments_of.ensures)

pub arguments_of_all-loop-part-preserved : goal.arguments_of_all-loop-part-preserved
arguments_of_all-loop-part-preserved t c =
    arguments_next c.args.context.now.entry c.args.context.now.table.now.constructors
    c.args.scope.now.names
    c.args.types.now c.loop-part.types c.args.parts.now c.loop-part.part-index c.part-item.result
    c.loop-part-test.true c.part-item.is c.loop-part.invariant c.arguments_of.new.types
    c.in_ok-arguments_of.ensures
