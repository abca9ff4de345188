-- How many numbers below a bound pass.
use Rattle.std.proofs.Common.{ℕ, zero, suc, ◌≡◌, ◌≤◌, ◌+◌, Bool, true, false, cond, ap, ◌∙◌, arith}
use Rattle.enc_marks.specs.Occurrence.{count_below}

pub count_below-more : (bound : ℕ) (test : ℕ → Bool) →
    count_below (bound + 1) test ≡ count_below bound test + cond (test bound) 1 0
count_below-more bound test = let next : bound + 1 ≡ suc bound = omega arith in ap (λ n. count_below n test) next

pub count_below-le : (bound : ℕ) (test : ℕ → Bool) → count_below bound test ≤ bound
count_below-le zero test = omega arith
count_below-le (suc bound) test = more (test bound) (count_below-le bound test)
  where
    more : (b : Bool) → count_below bound test ≤ bound → count_below bound test + cond b 1 0 ≤ suc bound
    more true within = omega arith
    more false within = omega arith

-- where none from a number on passes
pub count_below-beyond : (length more : ℕ) (test : ℕ → Bool) →
    ((m : ℕ) → length ≤ m → test m ≡ false) →
    count_below (length + more) test ≡ count_below length test
count_below-beyond length zero test none = let same : length + 0 ≡ length = omega arith in ap (λ n. count_below n test) same
count_below-beyond length (suc more) test none =
    let next : length + suc more ≡ suc (length + more) = omega arith in
    ap (λ n. count_below n test) next
    ∙ ap (λ b. count_below (length + more) test + cond b 1 0) (none (length + more) (omega arith))
    ∙ (let same : count_below (length + more) test + 0 ≡ count_below (length + more) test = omega arith in same)
    ∙ count_below-beyond length more test none
