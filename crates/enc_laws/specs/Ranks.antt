-- The numbers that pass a test, by their ranks.
use Rattle.std.specs.Prelude.{ℕ, zero, suc, ◌+◌, Bool, ◌&&◌, List, [], ◌∷◌, cond, eqb}
use Rattle.enc_marks.specs.Occurrence.{count_below}

-- the number below a bound that passes and has a rank: so many smaller ones pass
abbrev pub nth : ℕ → (ℕ → Bool) → ℕ → ℕ
nth zero test rank = 0
nth (suc bound) test rank =
    cond (test bound && eqb rank (count_below bound test)) bound (nth bound test rank)

-- the values of a function at so many numbers, from this one on
abbrev pub listed : ℕ → ℕ → (ℕ → ℕ) → List ℕ
listed zero first f = []
listed (suc count) first f = f first ∷ listed count (first + 1) f
