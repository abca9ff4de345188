use Rattle.std.proofs.Common.{arith, ap, sym, ◌∙◌, ◌<◌, ◌≡◌, ◌+◌, length, get_or, None, Some, true, false}
use Rattle.enc_marks.specs.declared.mark.Mark.TheVariants as mark
use Rattle.enc_marks.proofs.Ranks.{count_below-le}
use Rattle.enc_laws.proofs.MarksFound.{count_below-next}
use Rattle.enc_models.specs.Calls.Lifting.{occurs_in, mark_count}
use Rattle.enc_models.proofs.KeptBlocks.{length-pushed}
use Rattle.enc_models.proofs.MarkedTables.{occurs_here, fails_past, fails_other, some_more, none_more}
use Rattle.enc_models.proofs.marked.places_of_marks.Goals as goal
use Rattle.enc_models.proofs.marked.places_of_marks.Goals.{then-at-marks+then-number_of-number+in_ok-push, else-at-marks+in_ok-push-2, else-at-marks-via-then-at-marks+else-number_of-number, else-at-marks-via-else-at-marks}

pub overflow_cast-at : goal.overflow_cast-at
overflow_cast-at g c =
    let inside : c.loop-number.number < mark_count (g.C.Choices.choices c.args.choices.now) c.args.normal.now =
    rw (c.as_slice-symbols.ensures, c.as_slice-constructors.ensures, c.requires.own) at c.loop-number-test.true in
    omega (
      arith,
      c.requires.few,
      inside,
      c.loop-number.invariant.at_is,
      count_below-le c.loop-number.number (occurs_in (g.C.Choices.choices c.args.choices.now) c.args.normal.now),
    )

pub loop-number-preserved : goal.loop-number-preserved
loop-number-preserved g c =
    let normal = c.args.normal.now in
    let number = c.loop-number.number in
    let at = c.loop-number.at in
    let so_far = c.loop-number.invariant in
    let inside : number < mark_count (g.C.Choices.choices c.args.choices.now) normal =
    rw (c.as_slice-symbols.ensures, c.as_slice-constructors.ensures, c.requires.own) at c.loop-number-test.true in
    elim c.if-at-marks.branch [
      | then-at-marks+then-number_of-number+in_ok-push w ↦
          let occurs = occurs_here (g.C.Choices.choices c.args.choices.now) normal c.args.marks.now c.requires.marks number at _
          w.if-at-marks.true
          (sym (rw (c.as_slice-symbols.ensures, c.as_slice-constructors.ensures) at
          w.number_of.ensures) ∙ w.if-number_of-number.true) in
          record {
            at_is = omega (
              arith,
              w.at-is,
              so_far.at_is,
              count_below-next number (occurs_in (g.C.Choices.choices c.args.choices.now) normal) true occurs,
            );
            length_is =
                ap length (w.places-is ∙ w.in_ok-push.ensures.ok)
                ∙ length-pushed c.loop-number.places (Some at)
                ∙ ap (λ n. n + 1) so_far.length_is;
            each = λ m within.
                ap (λ places. get_or places m None) (w.places-is ∙ w.in_ok-push.ensures.ok)
                ∙ some_more (g.C.Choices.choices c.args.choices.now) normal c.loop-number.places number at so_far.length_is so_far.each
                so_far.at_is occurs m within;
          }
      | else-at-marks+in_ok-push-2 w ↦
          let fails : occurs_in (g.C.Choices.choices c.args.choices.now) normal number ≡ false =
          elim w.else-at-marks.branch [
            | else-at-marks-via-then-at-marks+else-number_of-number v ↦
                fails_other (g.C.Choices.choices c.args.choices.now) normal c.args.marks.now c.requires.marks number at _ inside so_far.at_is
                v.if-at-marks.true
                (λ is. v.if-number_of-number.false
                (rw (c.as_slice-symbols.ensures, c.as_slice-constructors.ensures) at
                v.number_of.ensures ∙ is))
            | else-at-marks-via-else-at-marks v ↦
                fails_past (g.C.Choices.choices c.args.choices.now) normal c.args.marks.now c.requires.marks number at (mark.Guard) inside
                so_far.at_is v.if-at-marks.false
          ] in
          record {
            at_is = omega (
              arith,
              w.at-is,
              so_far.at_is,
              count_below-next number (occurs_in (g.C.Choices.choices c.args.choices.now) normal) false fails,
            );
            length_is =
                ap length (w.places-is ∙ w.in_ok-push-2.ensures.ok)
                ∙ length-pushed c.loop-number.places None
                ∙ ap (λ n. n + 1) so_far.length_is;
            each = λ m within.
                ap (λ places. get_or places m None) (w.places-is ∙ w.in_ok-push-2.ensures.ok)
                ∙ none_more (g.C.Choices.choices c.args.choices.now) normal c.loop-number.places number at so_far.length_is so_far.each
                so_far.at_is fails m within;
          }
    ]
