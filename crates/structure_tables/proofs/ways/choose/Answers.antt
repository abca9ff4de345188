use Rattle.std.proofs.Common.{◌≡◌, ◌+◌, ◌*◌, sym, ap, ◌∙◌, arith, ◌++◌, ◌∷◌, [], take, slice_index}
use Rattle.std.specs.Prelude.{suc}
use Rattle.enc_base.specs.Counts.{in_64_bits}
use Rattle.structure_tables.specs.CountedWays.{count_at, choices_at, counts_at}
use Rattle.structure_tables.proofs.CountedWays.{choice_within, choices_at-more, counts_at-more, counted_choice}
use Rattle.structure_tables.proofs.ways.choose.Goals as goal

pub bounds-numbers-i : goal.bounds-numbers-i
bounds-numbers-i c =
    (choice_within c.args.members c.args.parts.now c.args.numbers.now c.loop-i.i
    c.index-parts-i.result c.requires.within c.loop-i-test.true c.index-parts-i.is).0

pub count-requires-clause-within : goal.count-requires-clause-within
count-requires-clause-within c =
    (choice_within c.args.members c.args.parts.now c.args.numbers.now c.loop-i.i
    c.index-parts-i.result c.requires.within c.loop-i-test.true c.index-parts-i.is).1

pub loop-i-preserved : goal.loop-i-preserved
loop-i-preserved c =
    let parts = c.args.parts.now in
    let numbers = c.args.numbers.now in
    let i = c.loop-i.i in
    let part = c.index-parts-i.result in
    let next : suc i ≡ i + 1 = omega arith in
    record {
      chosen =
          c.in_ok-push.ensures.items
          ∙ ap (λ ns. ns ++ c.choice.result ∷ []) c.loop-i.invariant.chosen
          ∙ ap (λ n. choices_at (take i parts) numbers ++ n ∷ []) c.choice.ensures
          ∙ sym (choices_at-more c.args.members parts numbers i part c.requires.within
          c.loop-i-test.true c.index-parts-i.is)
          ∙ ap (λ n. choices_at (take n parts) numbers) next;
      counted =
          c.saturating_mul-tuples.ensures
          ∙ ap (λ n. in_64_bits (c.loop-i.tuples * n)) c.count.ensures
          ∙ counted_choice c.loop-i.tuples (counts_at (take i parts) numbers)
          (count_at part (slice_index numbers i)) c.loop-i.invariant.counted
          ∙ ap in_64_bits (sym (counts_at-more c.args.members parts numbers i part
          c.requires.within c.loop-i-test.true c.index-parts-i.is))
          ∙ ap (λ n. in_64_bits (counts_at (take n parts) numbers)) next;
    }
