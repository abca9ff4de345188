use Rattle.std.proofs.Common.{drop, ap, ◌∙◌}
use Rattle.tf_naked.specs.Calls.Frames.{kinds_of}
use Rattle.tf_naked.proofs.Frames.{drop_one_more}
use Rattle.tf_naked.proofs.kinds.kind_at.Goals as goal

pub loop-preserved : goal.loop-preserved
loop-preserved c =
    c.behind-nearest.ensures
    ∙ ap (λ kinds. drop 1 kinds) c.loop.invariant
    ∙ drop_one_more c.loop.counter (kinds_of c.args.frames.now)
