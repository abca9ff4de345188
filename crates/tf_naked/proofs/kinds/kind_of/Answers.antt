use Rattle.std.proofs.Common.{sym, ap, ◌∙◌}
use Rattle.tf_naked.specs.Standing.{kind_of}
use Rattle.tf_naked.specs.Calls.Frames.{kinds_of}
use Rattle.tf_naked.proofs.Standing.{kind_of-variable, kind_of-apply}
use Rattle.tf_naked.proofs.kinds.kind_of.Goals as goal

pub returns-in-Var : goal.returns-in-Var
returns-in-Var c =
    c.kind_at.ensures
    ∙ sym (ap (kind_of (kinds_of c.args.frames.now)) c.in-Var.is
    ∙ kind_of-variable (kinds_of c.args.frames.now) c.in-Var.i)

pub returns-in-Apply : goal.returns-in-Apply
returns-in-Apply c =
    sym (ap (kind_of (kinds_of c.args.frames.now)) c.in-Apply.is
    ∙ kind_of-apply (kinds_of c.args.frames.now) c.in-Apply.field-0 c.in-Apply.field-1
    c.in-Apply.field-2)
