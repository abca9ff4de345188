use Rattle.std.proofs.Common.{drop, sym, ap, ◌∙◌}
use Rattle.tf_naked.specs.Calls.Frames.{kinds_of}
use Rattle.tf_naked.proofs.Frames.{kinds_of-outside, kinds_of-inside}
use Rattle.tf_naked.proofs.kinds.behind.Goals as goal

pub returns-in-Outside : goal.returns-in-Outside
returns-in-Outside c =
    ap kinds_of c.in-Outside.is ∙ kinds_of-outside
    ∙ sym (ap (λ kinds. drop 1 kinds) (ap kinds_of c.in-Outside.is ∙ kinds_of-outside))

pub returns-in-Inside : goal.returns-in-Inside
returns-in-Inside c =
    sym (ap (λ kinds. drop 1 kinds)
    (ap kinds_of c.in-Inside.is ∙ kinds_of-inside c.in-Inside.field-0 c.in-Inside.outer))
