-- The numbers that members pick, and their ranks, listed one after another.
use Rattle.std.specs.Prelude.{ℕ, zero, suc, ◌≡◌, ◌<◌, ◌≤◌, ◌+◌, ◌++◌, Bool, true, false, ◌||◌, List, [], ◌∷◌, length, replicate, take, drop, eqb, get_or, slice_index}
use Rattle.std.proofs.Common.{refl, sym, ap, subst, ◌∙◌, arith, ⊎_elim}
use Rattle.std.proofs.lemmas.Bool.{cases_eq, cases_lt, eq-eqb, ne_eqb}
use Rattle.std.proofs.lemmas.List.{get_or_default, get_or-replicate, length-replicate, take_all, drop_all, append-nil}
use Rattle.enc_marks.specs.Occurrence.{count_below}
use Rattle.enc_laws.specs.Ranks.{nth, listed}
use Rattle.enc_laws.proofs.MarksFound.{count_below-next}
use Rattle.enc_laws.proofs.Ranked.{HasRank, count_below-less, nth-count_below, ranked}
use Rattle.enc_models.specs.Calls.Lifting.{Parts, picks_in, gives_below, AreGiven, AreNoted, ArePicked, AreRows}
use Rattle.enc_models.proofs.KeptBlocks.{length-pushed}
use Rattle.enc_models.proofs.MarkedTables.{each_pushed}

-- the numbers below one of them that pass, as a list whose bound is a larger one
pub record ArePickedBelow (test : ℕ → Bool) (bound number : ℕ) (picked : List ℕ) : Type 0 where
  pub length_is : length picked ≡ count_below number test
  pub each : (rank : ℕ) → rank < count_below number test →
      slice_index picked rank ≡ nth bound test rank

pub none_picked : (test : ℕ → Bool) (bound : ℕ) → ArePickedBelow test bound 0 []
none_picked test bound = record { length_is = refl; each = λ rank within. absurd (omega (arith, within)) }

module _ (test : ℕ → Bool) (bound number : ℕ) (picked : List ℕ)
    (are : ArePickedBelow test bound number picked)
  where
    pub more_picked : number < bound → test number ≡ true →
        ArePickedBelow test bound (number + 1) (picked ++ number ∷ [])
    more_picked within passes =
        let next = count_below-next number test true passes in
        record {
          length_is = omega (arith, length-pushed picked number, are.length_is, next);
          each = λ rank inside.
              each_pushed (λ r v. v ≡ nth bound test r) picked 0 number (count_below number test)
              are.length_is are.each (sym (nth-count_below bound number test within passes)) rank
              (omega (arith, inside, next));
        }

    pub same_picked : test number ≡ false → ArePickedBelow test bound (number + 1) picked
    same_picked fails =
        let next = count_below-next number test false fails in
        record {
          length_is = omega (arith, are.length_is, next);
          each = λ rank inside. are.each rank (omega (arith, inside, next));
        }

-- the number of a rank is below the bound
pub nth_below : (bound rank : ℕ) (test : ℕ → Bool) → rank < count_below bound test →
    nth bound test rank < bound
nth_below bound rank test below =
    let found = ranked bound rank test below in
    subst (λ n. n < bound)
    (sym (ap (nth bound test) (sym found.1.rank_is)
    ∙ nth-count_below bound found.0 test found.1.below found.1.passes)) found.1.below

-- the values of a function, one more
listed-suc : (count first : ℕ) (f : ℕ → ℕ) →
    listed (suc count) first f ≡ listed count first f ++ f (first + count) ∷ []
listed-suc zero first f = let e : first ≡ first + 0 = omega arith in ap (λ n. f n ∷ []) e
listed-suc (suc count) first f =
    let e : first + 1 + count ≡ first + suc count = omega arith in
    ap (λ rest. f first ∷ rest)
    (listed-suc count (first + 1) f
    ∙ ap (λ n. listed count (first + 1) f ++ f n ∷ []) e)

pub listed-more : (count : ℕ) (f : ℕ → ℕ) →
    listed (count + 1) 0 f ≡ listed count 0 f ++ f count ∷ []
listed-more count f =
    let next : count + 1 ≡ suc count = omega arith in
    let e : 0 + count ≡ count = omega arith in
    ap (λ n. listed n 0 f) next
    ∙ listed-suc count 0 f
    ∙ ap (λ n. listed count 0 f ++ f n ∷ []) e

-- the elements of one member more
pub more_rows : (m : Parts) (count : ℕ) (picked : List (List ℕ)) (new : List ℕ) →
    AreRows m count picked → ArePicked (picks_in m count) m.model.size new →
    AreRows m (count + 1) (picked ++ new ∷ [])
more_rows m count picked new are picks = record {
  picked_count = omega (arith, length-pushed picked new, are.picked_count);
  each_picked = λ member within.
      each_pushed (λ k row. ArePicked (picks_in m k) m.model.size row) picked [] new count
      are.picked_count are.each_picked picks member within;
}

-- the elements of a member, as code reads them
pub picked_row : (m : Parts) (count : ℕ) (picked : List (List ℕ)) → AreRows m count picked →
    (member : ℕ) → member < count → (row other : List ℕ) → row ≡ get_or picked member other →
    ArePicked (picks_in m member) m.model.size row
picked_row m count picked are member within row other is =
    subst (ArePicked (picks_in m member) m.model.size)
    (sym (is ∙ get_or_default picked member other [] (omega (arith, within, are.picked_count))))
    (are.each_picked member within)

-- as many of the smaller numbers pass, or more
count_below-monotone : (less bound : ℕ) (test : ℕ → Bool) → less ≤ bound →
    count_below less test ≤ count_below bound test
count_below-monotone less zero test within =
    let none : less ≡ 0 = omega (arith, within) in
    omega (arith, ap (λ n. count_below n test) none)
count_below-monotone less (suc bound) test within =
    ⊎_elim
    (λ below.
    omega (
      arith,
      count_below-monotone less bound test (omega (arith, below)),
      count_below-suc bound test,
    ))
    (λ last.
    let same : less ≡ suc bound = omega (arith, last, within) in
    omega (arith, ap (λ n. count_below n test) same))
    (cases_lt less (suc bound))
  where
    count_below-suc : (n : ℕ) (test : ℕ → Bool) → count_below n test ≤ count_below (suc n) test
    count_below-suc n test = omega arith

-- all of the smaller numbers pass
pub count_below-all : (bound : ℕ) (test : ℕ → Bool) →
    ((number : ℕ) → number < bound → test number ≡ true) → count_below bound test ≡ bound
count_below-all zero test all = refl
count_below-all (suc bound) test all =
    let before = count_below-all bound test (λ number within. all number (omega (arith, within))) in
    let next = count_below-next bound test true (all bound (omega arith)) in
    let e : suc bound ≡ bound + 1 = omega arith in
    omega (arith, before, next, ap (λ n. count_below n test) e)

-- the rank of a number, found among the picked ones
module _ (test : ℕ → Bool) (bound : ℕ) (picked : List ℕ) (are : ArePicked test bound picked)
    (number i : ℕ) (within : i < length picked)
  where
    found : (v : ℕ) × HasRank bound test i v
    found = ranked bound i test (omega (arith, within, are.length_is))

    value_is : slice_index picked i ≡ found.0
    value_is =
        are.each i (omega (arith, within, are.length_is))
        ∙ ap (nth bound test) (sym found.1.rank_is)
        ∙ nth-count_below bound found.0 test found.1.below found.1.passes

    pub rank_above : slice_index picked i < number → i < count_below number test
    rank_above smaller =
        let less : found.0 < number = subst (λ n. n < number) value_is smaller in
        subst (λ n. n < count_below number test) found.1.rank_is
        (count_below-less number found.0 test less found.1.passes)

    pub rank_not_above : (slice_index picked i < number → ⊥) → count_below number test ≤ i
    rank_not_above larger =
        let most : number ≤ found.0 =
        ⊎_elim (λ less. absurd (larger (subst (λ n. n < number) (sym value_is) less)))
        (λ past. past) (cases_lt found.0 number) in
        omega (arith, count_below-monotone number found.0 test most, found.1.rank_is)

-- no more numbers pass than are picked
pub rank_within : (test : ℕ → Bool) (bound : ℕ) (picked : List ℕ) → ArePicked test bound picked →
    (number : ℕ) → number ≤ bound → count_below number test ≤ length picked
rank_within test bound picked are number within =
    omega (arith, count_below-monotone number bound test within, are.length_is)

-- numbers noted, one mark more

or-swapped : (a b : Bool) → (a || b) ≡ (b || a)
or-swapped true true = refl
or-swapped true false = refl
or-swapped false true = refl
or-swapped false false = refl

or-assoc : (a b d : Bool) → ((a || b) || d) ≡ (a || (b || d))
or-assoc true b d = refl
or-assoc false b d = refl

or-none : (a : Bool) → a ≡ (a || false)
or-none true = refl
or-none false = refl

eqb-swapped : (a b : ℕ) → eqb a b ≡ eqb b a
eqb-swapped a b =
    ⊎_elim (λ same. eq-eqb a b same ∙ sym (eq-eqb b a (sym same)))
    (λ differs. ne_eqb a b differs ∙ sym (ne_eqb b a (λ is. differs (sym is)))) (cases_eq a b)

pub none_noted : (mark : ℕ → ℕ) (before : List Bool) → AreNoted (gives_below mark 0) before before
none_noted mark before = record { count = refl; at = λ v within. or-none (get_or before v false) }

pub noted_more : (mark : ℕ → ℕ) (n number : ℕ) (before between after : List Bool) →
    number ≡ mark n → AreNoted (gives_below mark n) before between →
    AreNoted (λ v. eqb v number) between after → AreNoted (gives_below mark (n + 1)) before after
noted_more mark n number before between after is first second = record {
  count = second.count ∙ first.count;
  at = λ v within.
      let e : suc n ≡ n + 1 = omega arith in
      second.at v (omega (arith, within, first.count))
      ∙ ap (λ b. b || eqb v number) (first.at v within)
      ∙ or-assoc (get_or before v false) (gives_below mark n v) (eqb v number)
      ∙ ap (λ b. get_or before v false || b)
      (or-swapped (gives_below mark n v) (eqb v number)
      ∙ ap (λ b. b || gives_below mark n v)
      (eqb-swapped v number ∙ ap (λ u. eqb u v) is)
      ∙ ap (λ k. gives_below mark k v) e);
}

pub noted_all : (mark : ℕ → ℕ) (n size : ℕ) (before after : List Bool) → n ≡ size →
    AreNoted (gives_below mark n) before after → AreNoted (gives_below mark size) before after
noted_all mark n size before after all are =
    subst (λ k. AreNoted (gives_below mark k) before after) all are

-- the list that was lent, of so many numbers, none of them noted before
pub given_lent : (mark : ℕ → ℕ) (count lent : ℕ) (before after : List Bool) →
    before ≡ replicate count false → lent ≡ count → AreNoted (gives_below mark count) before after →
    AreGiven mark count (take lent (after ++ drop (length after) before))
given_lent mark count lent before after none all are =
    let long : length before ≡ count = ap length none ∙ length-replicate count false in
    let whole : take lent (after ++ drop (length after) before) ≡ after =
    ap (λ rest. take lent (after ++ rest)) (drop_all (length after) before (omega (arith, are.count)))
    ∙ ap (take lent) (append-nil after)
    ∙ take_all lent after (omega (arith, are.count, long, all)) in
    subst (AreGiven mark count) (sym whole)
    (record {
      length_is = are.count ∙ long;
      each = λ v within.
          are.at v (omega (arith, within, long))
          ∙ ap (λ b. b || gives_below mark count v)
          (ap (λ marks. get_or marks v false) none
          ∙ get_or-replicate count v false false within);
    })
