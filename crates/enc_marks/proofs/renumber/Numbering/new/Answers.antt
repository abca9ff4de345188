use Rattle.std.proofs.lemmas.Bool.{cases_lt}
use Rattle.std.proofs.Common.{◌≡◌, ℕ, ◌-◌, ◌+◌, ◌<◌, ◌≤◌, Bool, List, [], ◌∷◌, ◌++◌, length, get_or, map, cond, true, false, ap, sym, ◌∙◌, arith, ⊎_elim, refl}
use Rattle.std.specs.List.{range_with_len}
use Rattle.std.proofs.lemmas.List.FromFn.{map-range_with_len_more, get_or-map-range_with_len, length-map-range_with_len}
use Rattle.std.proofs.lemmas.List.{get_or_past}
use Rattle.enc_marks.specs.Calls.Flags.{is_set, number_of}
use Rattle.enc_marks.specs.Occurrence.{count_below}
use Rattle.enc_marks.proofs.Ranks.{count_below-more, count_below-le, count_below-beyond}
use Rattle.enc_marks.proofs.renumber.Numbering.new.Goals as goal
use Rattle.enc_marks.proofs.renumber.Numbering.new.Goals.{then-occurs, else-occurs}

pub loop-occurs-init : goal.loop-occurs-init
loop-occurs-init c = record { numbers = c.new-numbers.ensures.items; count = refl }

pub overflow_add-count : goal.overflow_add-count
overflow_add-count c =
    omega (
      arith,
      c.loop-occurs.invariant.count,
      count_below-le c.loop-occurs.occurs-index (is_set c.args.occurring.now),
      c.args.occurring.now.short,
      ap (λ (flags : List Bool). length flags) c.as_slice-occurs-items.ensures.value,
    )

-- one flag more
counted : (test : ℕ → Bool) (i count : ℕ) (flag : Bool) → test i ≡ flag → count ≡ count_below i test →
    count + cond flag 1 0 ≡ count_below (i + 1) test
counted test i count flag is so_far =
    ap (λ n. n + cond flag 1 0) so_far ∙ ap (λ b. count_below i test + cond b 1 0) (sym is)
    ∙ sym (count_below-more i test)

pub loop-occurs-preserved : goal.loop-occurs-preserved
unfolding is_set
loop-occurs-preserved c =
    let test = is_set c.args.occurring.now in
    let i = c.loop-occurs.occurs-index in
    let front = map (λ m. count_below m test) (range_with_len 0 i) in
    let flag = ap (λ (flags : List Bool). get_or flags i false) (sym c.as_slice-occurs-items.ensures.value) in
    record {
      numbers =
          c.in_ok-push.ensures.items
          ∙ ap (λ (numbers : List ℕ). numbers ++ c.loop-occurs.count ∷ []) c.loop-occurs.invariant.numbers
          ∙ ap (λ n. front ++ n ∷ []) c.loop-occurs.invariant.count
          ∙ sym (map-range_with_len_more (λ m. count_below m test) 0 i i (omega arith));
      count = elim c.if-occurs.branch [
        | then-occurs w ↦ w.count-is ∙ counted test i c.loop-occurs.count true (flag ∙ w.if-occurs.true) c.loop-occurs.invariant.count
        | else-occurs w ↦ w.count-is ∙ (let same : c.loop-occurs.count ≡ c.loop-occurs.count + 0 = omega arith in same) ∙ counted test i c.loop-occurs.count false (flag ∙ w.if-occurs.false) c.loop-occurs.invariant.count
      ];
    }

-- a number that a table of ranks gives, or behind the table the last rank
ranked : (test : ℕ → Bool) (numbers : List ℕ) (count end m : ℕ) →
    numbers ≡ map (λ n. count_below n test) (range_with_len 0 end) → count ≡ count_below end test →
    ((n : ℕ) → end ≤ n → test n ≡ false) → get_or numbers m count ≡ count_below m test
ranked test numbers count end m are last none =
    ap (λ (items : List ℕ). get_or items m count) are ∙ ⊎_elim within behind (cases_lt m end)
  where
    within : m < end → get_or (map (λ n. count_below n test) (range_with_len 0 end)) m count ≡ count_below m test
    within below = get_or-map-range_with_len (λ n. count_below n test) 0 end m m count below (omega arith)

    behind : end ≤ m → get_or (map (λ n. count_below n test) (range_with_len 0 end)) m count ≡ count_below m test
    behind above =
        let whole : end + (m - end) ≡ m = omega arith in
        get_or_past (map (λ n. count_below n test) (range_with_len 0 end)) m count
        (let long = length-map-range_with_len (λ n. count_below n test) 0 end in omega (arith, long))
        ∙ last ∙ sym (count_below-beyond end (m - end) test none) ∙ ap (λ n. count_below n test) whole

pub returns : goal.returns
unfolding number_of is_set
returns c = λ m.
    let flags = c.args.occurring.now.flags.items in
    let count : length c.as_slice-occurs-items.result.now ≡ length flags =
    ap (λ (items : List Bool). length items) c.as_slice-occurs-items.ensures.value in
    ranked (is_set c.args.occurring.now) c.loop-occurs.numbers.items c.loop-occurs.count
    c.loop-occurs.occurs-index m c.loop-occurs.invariant.numbers c.loop-occurs.invariant.count
    (λ n above. get_or_past flags n false (omega (arith, count, c.loop-occurs-test.false)))
