-- Numbers that are counted alike in 64 bits: they are equal, or both too large.
use Rattle.std.specs.Prelude.{ℕ, zero, suc, ◌≡◌, ◌<◌, ◌≤◌, ◌+◌, ◌-◌, ◌*◌, ◌^◌, List, [], ◌∷◌}
use Rattle.std.proofs.Common.{refl, sym, ap, ◌∙◌, arith}
use Rattle.std.proofs.Math.Nat.{mul-le-mul_left}
use Rattle.enc_base.specs.Tables.{EachBelow, sum_below, total}
use Rattle.enc_base.specs.Counts.{in_64_bits}
use Rattle.structure_tables.proofs.Counting.{in_64_bits-factors}

abbrev pub AreAlike : ℕ → ℕ → Type 0
AreAlike a b = in_64_bits a ≡ in_64_bits b

pub alike_itself : (a : ℕ) → AreAlike (in_64_bits a) a
alike_itself a = omega arith

pub alike_sums : (a b c d : ℕ) → AreAlike a b → AreAlike c d → AreAlike (a + c) (b + d)
alike_sums a b c d first second = omega (arith, first, second)

pub alike_products : (a b c d : ℕ) → AreAlike a b → AreAlike c d → AreAlike (a * c) (b * d)
alike_products a b c d first second =
    sym (in_64_bits-factors a c)
    ∙ ap (λ n. in_64_bits (n * in_64_bits c)) first
    ∙ ap (λ n. in_64_bits (in_64_bits b * n)) second
    ∙ in_64_bits-factors b d

pub sum_below-alike : (bound : ℕ) (f g : ℕ → ℕ) → ((n : ℕ) → n < bound → AreAlike (f n) (g n)) →
    AreAlike (sum_below bound f) (sum_below bound g)
sum_below-alike zero f g each = refl
sum_below-alike (suc bound) f g each =
    alike_sums (sum_below bound f) (sum_below bound g) (f bound) (g bound)
    (sum_below-alike bound f g (λ n within. each n (omega (arith, within))))
    (each bound (omega arith))

pub total-alike : (bounds : List ℕ) (f g : List ℕ → ℕ) →
    ((values : List ℕ) → EachBelow bounds values → AreAlike (f values) (g values)) →
    AreAlike (total bounds f) (total bounds g)
total-alike [] f g each = each [] tt
total-alike (bound ∷ bounds) f g each =
    sum_below-alike bound (λ value. total bounds (λ values. f (value ∷ values)))
    (λ value. total bounds (λ values. g (value ∷ values)))
    (λ value within. total-alike bounds (λ values. f (value ∷ values)) (λ values. g (value ∷ values))
    (λ values below. each (value ∷ values) (within, below)))

-- a product that is too large stays so where a factor grows
pub product_enough : (factor a b : ℕ) → a ≤ b → in_64_bits (factor * in_64_bits a) ≡ 2 ^ 64 - 1 →
    in_64_bits (factor * in_64_bits a) ≡ in_64_bits (factor * b)
product_enough factor a b grows full =
    let within : in_64_bits a ≤ b = omega (arith, grows) in
    omega (arith, full, mul-le-mul_left factor within)
