use Rattle.std.proofs.Common.{[], ◌∷◌, ◌++◌, not, ap, ◌∙◌}
use Rattle.tf_naked.proofs.Sets.{Adds-none}
use Rattle.tf_naked.proofs.FreeSorts.{outside-push, outside-end}
use Rattle.tf_naked.proofs.free.outside.Goals as goal

pub loop-ty-preserved : goal.loop-ty-preserved
loop-ty-preserved c held is =
    let before = c.loop-ty.invariant held is in (
      Adds-none c.loop-ty.set c.contains.new.self held c.in_ok-there.ensures.kept before.0,
      c.in_ok-push.ensures.ok
          ∙ ap (λ there. c.loop-ty.free ++ not there ∷ [])
          (c.in_ok-there.ensures.exact held before.0)
          ∙ outside-push held c.args.types.now c.loop-ty.ty-index c.ty-item.result
          c.loop-ty.free c.loop-ty-test.true c.ty-item.is before.1,
    )

pub returns : goal.returns
returns c held is =
    outside-end held c.args.types.now c.loop-ty.ty-index c.loop-ty.free c.loop-ty-test.false
    (c.loop-ty.invariant held is).1
