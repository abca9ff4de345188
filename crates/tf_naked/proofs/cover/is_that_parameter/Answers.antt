use Rattle.std.proofs.Common.{sym, ap, ◌∙◌}
use Rattle.tf_naked.specs.Covers.{is_parameter, parameter_of}
use Rattle.tf_naked.proofs.Covers.{parameter_of-variable, parameter_of-apply}
use Rattle.tf_naked.proofs.cover.is_that_parameter.Goals as goal

pub returns-in-Var : goal.returns-in-Var
returns-in-Var c =
    sym (ap (is_parameter c.args.parameter)
    (ap parameter_of c.in-Var.is ∙ parameter_of-variable c.in-Var.i))

pub returns-in-Apply : goal.returns-in-Apply
returns-in-Apply c =
    sym (ap (is_parameter c.args.parameter)
    (ap parameter_of c.in-Apply.is ∙ parameter_of-apply c.in-Apply.field-0 c.in-Apply.field-1))
