-- What tests of the parts of a term or formula make, and counts that stop at the greatest.
use Rattle.std.specs.Prelude.{ℕ, ◌≡◌, ◌+◌, ◌-◌, ◌^◌, ◌<◌, Bool, true, false, ◌&&◌, ltb, min}
use Rattle.std.proofs.Common.{sym, ap, ◌∙◌, arith}
use Rattle.std.proofs.lemmas.Bool.Decides.{nat_tests}
use Rattle.fof_models.specs.Counted.{Counts}

-- two tests, of which the second is made where the first holds
module _ (whole p q first : Bool) (both : whole ≡ (p && q)) (first_is : first ≡ p) where
  pub and_then : (second : Bool) → second ≡ q → first ≡ true → second ≡ whole
  and_then second second_is holds =
      second_is ∙ ap (λ b. b && q) (sym holds ∙ first_is) ∙ sym both

  pub and_else : first ≡ false → first ≡ whole
  and_else fails = fails ∙ ap (λ b. b && q) (sym fails ∙ first_is) ∙ sym both

-- one more than a count that stops at the greatest, and so many more
pub Counts-plus : (count next n more : ℕ) → Counts count n →
    next ≡ min (count + (1 + more)) (2 ^ 64 - 1) → Counts next (n + 1 + more)
Counts-plus count next n more counts is = omega arith

pub ltb-counted : (i count n : ℕ) → i < 2 ^ 32 → Counts count n → ltb i count ≡ ltb i n
ltb-counted i count n small counts = grind (arith, nat_tests)
