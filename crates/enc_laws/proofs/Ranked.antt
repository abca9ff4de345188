-- Ranks of the numbers that pass a test.
use Rattle.std.specs.Prelude.{ℕ, zero, suc, ◌+◌, ◌<◌, ◌≤◌, ◌≡◌, Bool, true, false, ◌&&◌, length, cond, eqb, slice_index}
use Rattle.std.proofs.Common.{refl, sym, ap, ◌∙◌, arith, ⊎_elim}
use Rattle.std.proofs.lemmas.Bool.{and_from, eq-eqb, ne_eqb, cases_eq, cases_lt, cond-true, cond-false}
use Rattle.enc_marks.specs.Occurrence.{count_below}
use Rattle.enc_laws.specs.Ranks.{nth, listed}

abbrev one_if : Bool → ℕ
one_if b = cond b 1 0

pub count_below-less : (bound v : ℕ) (test : ℕ → Bool) → v < bound → test v ≡ true →
    count_below v test < count_below bound test
count_below-less zero v test within passes = absurd (omega arith)
count_below-less (suc bound) v test within passes =
    ⊎_elim
    (λ same.
    let q : one_if (test bound) ≡ 1 = ap (λ x. one_if (test x)) (sym same) ∙ ap one_if passes in
    omega (arith, q, ap (λ x. count_below x test) same))
    (λ differs.
    let other : v ≡ bound → ⊥ = differs in
    omega (arith, count_below-less bound v test (omega arith) passes))
    (cases_eq v bound)

and_no : (a b : Bool) → b ≡ false → (a && b) ≡ false
and_no true b h = h
and_no false b h = refl

pub nth-count_below : (bound v : ℕ) (test : ℕ → Bool) → v < bound → test v ≡ true →
    nth bound test (count_below v test) ≡ v
nth-count_below zero v test within passes = absurd (omega arith)
nth-count_below (suc bound) v test within passes =
    ⊎_elim
    (λ same.
    cond-true (test bound && eqb (count_below v test) (count_below bound test)) bound _
    (and_from (test bound) _ (ap test (sym same) ∙ passes)
    (eq-eqb _ _ (ap (λ x. count_below x test) same)))
    ∙ sym same)
    (λ differs.
    let other : v ≡ bound → ⊥ = differs in
    let less = count_below-less bound v test (omega arith) passes in
    cond-false (test bound && eqb (count_below v test) (count_below bound test)) bound _
    (and_no (test bound) _ (ne_eqb _ _ (λ q. absurd (omega (arith, less, q)))))
    ∙ nth-count_below bound v test (omega arith) passes)
    (cases_eq v bound)

-- there is a number of each rank
pub record HasRank (bound : ℕ) (test : ℕ → Bool) (rank v : ℕ) : Type 0 where
  pub below : v < bound
  pub passes : test v ≡ true
  pub rank_is : count_below v test ≡ rank

rank_here : (bound rank : ℕ) (test : ℕ → Bool) → rank < count_below (suc bound) test → (b : Bool) →
    test bound ≡ b → count_below bound test ≤ rank → (v : ℕ) × HasRank (suc bound) test rank v
rank_here bound rank test below true is past = (
  bound,
  record {
    below = omega arith;
    passes = is;
    rank_is = omega (arith, below, ap one_if is);
  },
)
rank_here bound rank test below false is past = absurd (omega (arith, below, ap one_if is))

pub ranked : (bound rank : ℕ) (test : ℕ → Bool) → rank < count_below bound test →
    (v : ℕ) × HasRank bound test rank v
ranked zero rank test below = absurd (omega arith)
ranked (suc bound) rank test below =
    ⊎_elim
    (λ less.
    let found = ranked bound rank test less in
    let facts = found.1 in (
      found.0,
      record {
        below = omega (arith, facts.below);
        passes = facts.passes;
        rank_is = facts.rank_is;
      },
    ))
    (λ past. rank_here bound rank test below (test bound) refl past)
    (cases_lt rank (count_below bound test))

pub length-listed : (count first : ℕ) (f : ℕ → ℕ) → length (listed count first f) ≡ count
length-listed zero first f = refl
length-listed (suc count) first f = ap suc (length-listed count (first + 1) f)

pub listed-at : (count first v : ℕ) (f : ℕ → ℕ) → v < count →
    slice_index (listed count first f) v ≡ f (first + v)
listed-at zero first v f within = absurd (omega arith)
listed-at (suc count) first zero f within = ap f (omega arith)
listed-at (suc count) first (suc v) f within =
    listed-at count (first + 1) v f (omega arith) ∙ ap f (omega arith)
