use Rattle.std.proofs.Common.{◌<◌, ◌^◌, length, sym, ◌∙◌, ap, subst, arith}
use Rattle.tptp_words.specs.Scanning.{left}
use Rattle.tptp_words.proofs.Steps.{gap_step, word_step, end_step, bad_step, open_step, gap_smaller}
use Rattle.tptp_words.proofs.Steps.{word_within, bad_within}
use Rattle.tptp_words.proofs.words.Words.next.Goals as goal

pub loop-count-smaller : goal.loop-count-smaller
loop-count-smaller c =
    subst (λ z. length z < length c.loop-count.rest.now) (sym c.behind-rest.ensures.exact)
    (gap_smaller c.loop-count.rest.now c.in-Gap.count (sym c.piece_at.ensures.exact ∙ c.in-Gap.is))

pub loop-count-preserved : goal.loop-count-preserved
loop-count-preserved c = record {
  same =
      gap_step (length c.loop-count.self-inside.text.now) c.loop-count.rest.now _
      c.loop-count.invariant.same c.in-Gap.count (sym c.piece_at.ensures.exact ∙ c.in-Gap.is)
      ∙ ap (left (length c.loop-count.self-inside.text.now)) (sym c.behind-rest.ensures.exact);
  within = omega (arith, c.behind-rest.ensures.within, c.loop-count.invariant.within);
  unmoved = c.loop-count.invariant.unmoved;
}

pub overflow_add-to : goal.overflow_add-to
overflow_add-to c =
    let within = word_within c.loop-count.rest.now c.in-Word.kind c.in-Word.count
    (sym c.piece_at.ensures.exact ∙ c.in-Word.is) in
    let small : length c.loop-count.self-inside.text.now < 2 ^ 64 =
    subst (λ i. length i.text.now < 2 ^ 64) (sym c.loop-count.invariant.unmoved) c.self.told.0.0 in
    omega (arith, within, c.loop-count.invariant.within, small)

pub returns-in-Word : goal.returns-in-Word
returns-in-Word c = record {
  exact = word_step (length c.loop-count.self-inside.text.now) c.loop-count.rest.now _
      c.loop-count.invariant.same c.in-Word.kind c.in-Word.count c.behind-self-inside.result.now
      (sym c.piece_at.ensures.exact ∙ c.in-Word.is) c.behind-self-inside.ensures.exact;
}

pub returns-in-End : goal.returns-in-End
returns-in-End c =
    let k = end_step (length c.loop-count.self-inside.text.now) c.loop-count.rest.now _
    c.loop-count.invariant.same (sym c.piece_at.ensures.exact ∙ c.in-End.is) in
    record {
      exact = (
        k.0,
        k.1,
        sym c.self.view_is
            ∙ ap (λ i. left (length i.text.now) i.rest.now) (sym c.loop-count.invariant.unmoved),
      );
    }

pub overflow_add-result : goal.overflow_add-result
overflow_add-result c =
    let within = bad_within c.loop-count.rest.now c.in-Bad.distance
    (sym c.piece_at.ensures.exact ∙ c.in-Bad.is) in
    let small : length c.loop-count.self-inside.text.now < 2 ^ 64 =
    subst (λ i. length i.text.now < 2 ^ 64) (sym c.loop-count.invariant.unmoved) c.self.told.0.0 in
    omega (arith, within, c.loop-count.invariant.within, small)

pub returns-in-Bad : goal.returns-in-Bad
returns-in-Bad c =
    let k = bad_step (length c.loop-count.self-inside.text.now) c.loop-count.rest.now _
    c.loop-count.invariant.same c.in-Bad.distance (sym c.piece_at.ensures.exact ∙ c.in-Bad.is)
    c.loop-count.invariant.within in
    record {
      exact = (
        k.0,
        k.1,
        sym c.self.view_is
            ∙ ap (λ i. left (length i.text.now) i.rest.now) (sym c.loop-count.invariant.unmoved),
      );
    }

pub returns-in-Open : goal.returns-in-Open
returns-in-Open c =
    let k = open_step (length c.loop-count.self-inside.text.now) c.loop-count.rest.now _
    c.loop-count.invariant.same (sym c.piece_at.ensures.exact ∙ c.in-Open.is) in
    record {
      exact = (
        k.0,
        k.1,
        sym c.self.view_is
            ∙ ap (λ i. left (length i.text.now) i.rest.now) (sym c.loop-count.invariant.unmoved),
      );
    }
