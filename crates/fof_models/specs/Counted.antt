-- A word of the contracts of the tests of soundness: a number that code counts.
use Rattle.std.specs.Prelude.{ℕ, ◌≡◌, ◌-◌, ◌^◌, min}

-- the count in 64 bits of a number, which stops at the greatest that fits
abbrev pub Counts : ℕ → ℕ → Type 0
Counts count n = count ≡ min n (2 ^ 64 - 1)
