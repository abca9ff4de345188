use Rattle.tf_check.specs.Context.{type_in}
use Rattle.tf_check.proofs.AnswerLemmas.{answers-on}
use Rattle.tf_check.proofs.ProfileSteps.{result_truth, result_is, result_stop}
use Rattle.tf_check.proofs.types.result_of.Goals as goal

pub returns-in_err-type_of-in_default : goal.returns-in_err-type_of-in_default
returns-in_err-type_of-in_default c =
    answers-on ((type_in c.args.context.now c.args.expression.now).as_result c.args.scope.now.names)
    c.from_residual.result c.in_err-type_of-in_default.field-0.0 c.from_residual.ensures
    (result_stop c.args.context.now.entry c.args.context.now.table.now.constructors
    c.args.scope.now.names
    c.args.expression.now c.in_err-type_of-in_default.field-0.0 c.in_default.not-Truth
    c.in_err-type_of-in_default.ensures)

pub returns-in-Truth : goal.returns-in-Truth
returns-in-Truth c =
    rw c.in-Truth.is
    (result_truth c.args.context.now.entry c.args.context.now.table.now.constructors
    c.args.scope.now.names)

pub returns-in_ok-type_of-in_default : goal.returns-in_ok-type_of-in_default
returns-in_ok-type_of-in_default c =
    result_is c.args.context.now.entry c.args.context.now.table.now.constructors c.args.scope.now.names
    c.args.expression.now c.in_ok-type_of-in_default.field-0 c.in_default.not-Truth
    c.in_ok-type_of-in_default.ensures
