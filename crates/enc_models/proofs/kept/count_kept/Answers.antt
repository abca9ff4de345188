use Rattle.std.proofs.Common.{◌+◌, false, ap, sym, ◌∙◌, arith}
use Rattle.std.proofs.lemmas.List.Sums.{count_by_more_yes, count_by_more_no}
use Rattle.enc_models.proofs.kept.count_kept.Goals as goal
use Rattle.enc_models.proofs.kept.count_kept.Goals.{then-is_kept, else-is_kept}

pub loop-is_kept-preserved : goal.loop-is_kept-preserved
loop-is_kept-preserved c =
    let kept = c.args.kept.now in
    let i = c.loop-is_kept.is_kept-index in
    let before = c.loop-is_kept.invariant in
    elim c.if-is_kept.branch [
      | then-is_kept w ↦ (
        w.count-is ∙ ap (λ n. n + 1) before.0
            ∙ sym (count_by_more_yes (λ b. b) kept i false c.loop-is_kept-test.true w.if-is_kept.true),
        omega (arith, w.count-is, before.1),
      )
      | else-is_kept w ↦ (
        w.count-is ∙ before.0
            ∙ sym (count_by_more_no (λ b. b) kept i false c.loop-is_kept-test.true w.if-is_kept.false),
        omega (arith, w.count-is, before.1),
      )
    ]
