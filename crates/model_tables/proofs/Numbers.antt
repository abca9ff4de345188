-- Numbers that digits are.
use Rattle.std.proofs.Common.{◌≡◌, ℕ, ◌+◌, ◌-◌, ◌*◌, ◌^◌, ◌≤◌, ◌<◌, List, [], ◌∷◌, length, get_or, arith}
use Rattle.std.proofs.Common.{Bool, true, false, Option, Some, None, refl}
use Rattle.std.specs.Prelude.{ltb, if◌then◌else◌}
use borrow.Author.Tests.{ltb-true}
use Rattle.model_tables.specs.Grammar.{decimal_from, below_limit, digit_zero}

-- more digits make no number smaller
pub decimal_from-grows : (n : ℕ) (ds : List ℕ) → n ≤ decimal_from n ds
decimal_from-grows n [] = omega arith
decimal_from-grows n (d ∷ ds) =
    let more = decimal_from-grows (n * 10 + (d - digit_zero)) ds in omega arith

not_below : (m : ℕ) → 4294967295 < m → None ≡ below_limit m
not_below m over = by (ltb m (2 ^ 32)) refl
  where
    by : (b : Bool) → ltb m (2 ^ 32) ≡ b → None ≡ (if b then Some m else None)
    by true is = let less = ltb-true m (2 ^ 32) is in absurd (omega arith)
    by false is = refl

-- a number that is too large already stays so
pub decimal_over : (n : ℕ) (left all : List ℕ) → 1 ≤ length left
    → decimal_from n left ≡ decimal_from 0 all
    → 4294967295 < n * 10 + (get_or left 0 0 - digit_zero)
    → None ≡ below_limit (decimal_from 0 all)
decimal_over n [] all some is over = absurd (omega arith)
decimal_over n (d ∷ ds) all some is over =
    let more = decimal_from-grows (n * 10 + (d - digit_zero)) ds in
    not_below (decimal_from 0 all) (omega arith)
