use Rattle.std.proofs.Common.{get_or, sym, ap, ◌∙◌}
use Rattle.tf_naked.specs.declared.position.Kind.TheVariants.{Universal}
use Rattle.tf_naked.specs.Calls.Frames.{kinds_of}
use Rattle.tf_naked.proofs.Frames.{kinds_of-outside, kinds_of-inside}
use Rattle.tf_naked.proofs.kinds.first.Goals as goal

pub returns-in-Outside : goal.returns-in-Outside
returns-in-Outside c =
    sym (ap (λ kinds. get_or kinds 0 Universal)
    (ap kinds_of c.in-Outside.is ∙ kinds_of-outside))

pub returns-in-Inside : goal.returns-in-Inside
returns-in-Inside c =
    sym (ap (λ kinds. get_or kinds 0 Universal)
    (ap kinds_of c.in-Inside.is ∙ kinds_of-inside c.in-Inside.kind c.in-Inside.field-1))
