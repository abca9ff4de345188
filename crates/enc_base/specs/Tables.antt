-- Tables over tuples of numbers, in lexicographic order: the first part of a tuple changes slowest.
use Rattle.std.specs.Prelude.{ℕ, zero, suc, ◌+◌, ◌*◌, ◌<◌, List, [], ◌∷◌, ◌++◌}

-- each number is below its bound, and there are as many numbers as bounds
abbrev pub EachBelow : List ℕ → List ℕ → Type 0
EachBelow [] [] = Unit {0}
EachBelow [] (value ∷ values) = ⊥
EachBelow (bound ∷ bounds) [] = ⊥
EachBelow (bound ∷ bounds) (value ∷ values) = (value < bound) × EachBelow bounds values

-- the sum of a function over the numbers below a bound
abbrev pub sum_below : ℕ → (ℕ → ℕ) → ℕ
sum_below zero f = 0
sum_below (suc bound) f = sum_below bound f + f bound

-- how many tuples there are: the product of the bounds
abbrev pub tuple_count : List ℕ → ℕ
tuple_count [] = 1
tuple_count (bound ∷ bounds) = bound * tuple_count bounds

-- the place of a tuple: how many tuples stand before it
abbrev pub place : List ℕ → List ℕ → ℕ
place [] values = 0
place (bound ∷ bounds) [] = 0
place (bound ∷ bounds) (value ∷ values) = value * tuple_count bounds + place bounds values

-- the sum of the lengths of the blocks of all tuples
abbrev pub total : List ℕ → (List ℕ → ℕ) → ℕ
total [] lengths = lengths []
total (bound ∷ bounds) lengths =
    sum_below bound (λ value. total bounds (λ values. lengths (value ∷ values)))

-- where the block of a tuple begins: the sum of the lengths of the blocks before it
abbrev pub begins : List ℕ → (List ℕ → ℕ) → List ℕ → ℕ
begins [] lengths values = 0
begins (bound ∷ bounds) lengths [] = 0
begins (bound ∷ bounds) lengths (value ∷ values) =
    sum_below value (λ earlier. total bounds (λ others. lengths (earlier ∷ others)))
    + begins bounds (λ others. lengths (value ∷ others)) values

-- the lists of the numbers below a bound, one after another
abbrev pub rows : ℕ → (ℕ → List ℕ) → List ℕ
rows zero row = []
rows (suc bound) row = rows bound row ++ row bound

-- the blocks of all tuples, one after another
abbrev pub blocks : List ℕ → (List ℕ → List ℕ) → List ℕ
blocks [] block = block []
blocks (bound ∷ bounds) block =
    rows bound (λ value. blocks bounds (λ values. block (value ∷ values)))

-- the table of a function: one entry for each tuple
abbrev pub table : List ℕ → (List ℕ → ℕ) → List ℕ
table bounds f = blocks bounds (λ values. f values ∷ [])
