use Rattle.std.proofs.Common.{ap, sym, ◌∙◌}
use Rattle.tf_core.specs.Occurrences.{occurs_in_type, occurs_in_types}
use Rattle.tf_core.proofs.Occurrences.{occurs_in_type-variable, occurs_in_type-apply}
use Rattle.enc_mono.proofs.occurs.+occurs.Goals as goal

pub occurs-returns-in-Var : goal.occurs-returns-in-Var
occurs-returns-in-Var t c =
    sym (ap (occurs_in_type c.args.i) c.in-Var.is ∙ occurs_in_type-variable c.args.i c.in-Var.j)

pub occurs-returns-in-Apply : goal.occurs-returns-in-Apply
occurs-returns-in-Apply t c =
    c.occurs_in_some.ensures ∙ ap (occurs_in_types c.args.i) c.as_slice.ensures
    ∙ sym (ap (occurs_in_type c.args.i) c.in-Apply.is
    ∙ occurs_in_type-apply c.args.i c.in-Apply.field-0 c.in-Apply.types)
