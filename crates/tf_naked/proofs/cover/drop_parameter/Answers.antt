use Rattle.std.proofs.Common.{false, sym, ap, ◌∙◌, arith}
use Rattle.std.proofs.lemmas.List.{set_past}
use Rattle.tf_naked.specs.Covers.{parameter_of}
use Rattle.tf_naked.specs.Calls.Flags.{flagged}
use Rattle.tf_naked.proofs.Covers.{parameter_of-variable, parameter_of-apply}
use Rattle.tf_naked.proofs.cover.drop_parameter.Goals as goal

pub returns-then-place-len : goal.returns-then-place-len
returns-then-place-len c =
    sym (ap (flagged false c.args.kept.now.items)
    (ap parameter_of c.in-Var.is ∙ parameter_of-variable c.in-Var.i))

pub returns-else-place-len : goal.returns-else-place-len
returns-else-place-len c =
    sym (ap (flagged false c.args.kept.now.items)
    (ap parameter_of c.in-Var.is ∙ parameter_of-variable c.in-Var.i)
    ∙ set_past c.args.kept.now.items c.in-Var.i false
    (omega (arith, c.len.ensures, c.args.kept.now.ok.0, c.if-place-len.false)))

pub returns-in-Apply : goal.returns-in-Apply
returns-in-Apply c =
    sym (ap (flagged false c.args.kept.now.items)
    (ap parameter_of c.in-Apply.is ∙ parameter_of-apply c.in-Apply.field-0 c.in-Apply.field-1))
