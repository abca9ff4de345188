use Rattle.std.proofs.Common.{◌+◌, false, ap, sym, ◌∙◌, arith}
use Rattle.std.proofs.lemmas.List.Sums.{count_by_more_yes, count_by_more_no}
use Rattle.enc_marks.proofs.tables.count_raised.Goals as goal
use Rattle.enc_marks.proofs.tables.count_raised.Goals.{then-flag, else-flag}

pub loop-flag-preserved : goal.loop-flag-preserved
loop-flag-preserved c =
    let flags = c.args.flags.now in
    let i = c.loop-flag.flag-index in
    let before = c.loop-flag.invariant in
    elim c.if-flag.branch [
      | then-flag w ↦ (
        w.count-is ∙ ap (λ n. n + 1) before.0
            ∙ sym (count_by_more_yes (λ b. b) flags i false c.loop-flag-test.true w.if-flag.true),
        omega (arith, w.count-is, before.1),
      )
      | else-flag w ↦ (
        w.count-is ∙ before.0
            ∙ sym (count_by_more_no (λ b. b) flags i false c.loop-flag-test.true w.if-flag.false),
        omega (arith, w.count-is, before.1),
      )
    ]
