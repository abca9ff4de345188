use Rattle.std.proofs.Common.{arith, ap, sym, ◌∙◌, ◌≡◌, ◌+◌, subst, true, false}
use Rattle.enc_marks.specs.Occurrence.{count_below}
use Rattle.enc_marks.proofs.Ranks.{count_below-le}
use Rattle.enc_laws.proofs.MarksFound.{count_below-next}
use Rattle.enc_models.specs.Calls.Lifting.{parts_of, picks_in}
use Rattle.enc_models.proofs.PickedNumbers.{ArePickedBelow, more_picked, same_picked}
use Rattle.enc_models.proofs.marked.Marked.row.Goals as goal
use Rattle.enc_models.proofs.marked.Marked.row.Goals.{then-picks+in_ok-push, else-picks}

pub overflow_add-size : goal.overflow_add-size
overflow_add-size g c =
    omega (
      arith,
      c.ranges.bound.fits,
      c.loop-number.invariant.size,
      c.loop-number-test.true,
      count_below-le c.loop-number.number (picks_in (parts_of g.C.Choices.choices c.args.self.now) c.args.member),
    )

pub loop-number-preserved : goal.loop-number-preserved
loop-number-preserved g c =
    let test = picks_in (parts_of g.C.Choices.choices c.args.self.now) c.args.member in
    let number = c.loop-number.number in
    let so_far = c.loop-number.invariant in
    record {
      size = elim c.if-picks.branch [
        | then-picks+in_ok-push w ↦
            omega (
              arith,
              w.size-is,
              so_far.size,
              count_below-next number test true (sym c.picks.ensures ∙ w.if-picks.true),
            )
        | else-picks w ↦
            omega (
              arith,
              w.size-is,
              so_far.size,
              count_below-next number test false (sym c.picks.ensures ∙ w.if-picks.false),
            )
      ];
      picked = elim c.if-picks.branch [
        | then-picks+in_ok-push w ↦
            subst (ArePickedBelow test c.args.bound (number + 1))
            (sym (w.picked-is ∙ w.in_ok-push.ensures.ok))
            (more_picked test c.args.bound number c.loop-number.picked so_far.picked
            c.loop-number-test.true (sym c.picks.ensures ∙ w.if-picks.true))
        | else-picks w ↦
            subst (ArePickedBelow test c.args.bound (number + 1)) (sym w.picked-is)
            (same_picked test c.args.bound number c.loop-number.picked so_far.picked
            (sym c.picks.ensures ∙ w.if-picks.false))
      ];
    }

pub returns : goal.returns
returns g c =
    let test = picks_in (parts_of g.C.Choices.choices c.args.self.now) c.args.member in
    let so_far = c.loop-number.invariant in
    let all : c.loop-number.number ≡ c.args.bound =
    omega (arith, c.loop-number.auto.number-end, c.loop-number-test.false) in
    let counted = ap (λ n. count_below n test) all in
    record {
      size = so_far.size ∙ counted;
      picked = record {
        length_is = so_far.picked.length_is ∙ counted;
        each = λ rank within. so_far.picked.each rank (omega (arith, within, counted));
      };
    }
