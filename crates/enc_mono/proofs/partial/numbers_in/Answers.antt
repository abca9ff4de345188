use Rattle.std.proofs.Common.{ap, ◌∙◌}
use Rattle.enc_mono.specs.Calls.Searched.{bound_to}
use Rattle.enc_mono.proofs.Partials.{numbers-more, total_has_no_gap}
use Rattle.enc_mono.proofs.partial.numbers_in.Goals as goal
use Rattle.enc_mono.proofs.partial.numbers_in.Goals.{in-Some+in_ok-push, in_default}

pub loop-entry-preserved : goal.loop-entry-preserved
loop-entry-preserved c =
    elim c.match-entry.branch [
      | in-Some+in_ok-push w ↦
          ap bound_to (w.ids-is ∙ w.in_ok-push.ensures.ok)
          ∙ numbers-more c.args.bound.now c.loop-entry.ids c.loop-entry.entry-index w.in-Some.id
          c.loop-entry-test.true w.in-Some.is c.loop-entry.invariant
      | in_default w ↦ absurd
          (total_has_no_gap c.args.bound.now c.loop-entry.entry-index c.requires.total
          c.loop-entry-test.true w.in_default.is)
    ]
