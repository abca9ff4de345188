-- Sums over tuples: of one summand, of equal summands, and of products.
use Rattle.std.specs.Prelude.{ℕ, zero, suc, ◌≡◌, ◌<◌, ◌≤◌, ◌+◌, ◌*◌, List, [], ◌∷◌, replicate}
use Rattle.std.proofs.Common.{refl, sym, ap, ◌∙◌, arith}
use Rattle.enc_base.specs.Tables.{EachBelow, sum_below, tuple_count, total}
use Rattle.enc_base.proofs.Tables.{sum_below-same}

-- where summands are equal
pub total-each : (bounds : List ℕ) (f g : List ℕ → ℕ) →
    ((values : List ℕ) → EachBelow bounds values → f values ≡ g values) →
    total bounds f ≡ total bounds g
total-each [] f g same = same [] tt
total-each (bound ∷ bounds) f g same =
    sum_below-same bound (λ value. total bounds (λ values. f (value ∷ values)))
    (λ value. total bounds (λ values. g (value ∷ values)))
    (λ value within. total-each bounds (λ values. f (value ∷ values)) (λ values. g (value ∷ values))
    (λ values below. same (value ∷ values) (within, below)))

pub total-same : (bounds : List ℕ) (f g : List ℕ → ℕ) → ((values : List ℕ) → f values ≡ g values) →
    total bounds f ≡ total bounds g
total-same bounds f g same = total-each bounds f g (λ values _. same values)

-- sums of sums

sum_below-plus : (bound : ℕ) (f g : ℕ → ℕ) →
    sum_below bound (λ n. f n + g n) ≡ sum_below bound f + sum_below bound g
sum_below-plus zero f g = refl
sum_below-plus (suc bound) f g = omega (arith, sum_below-plus bound f g)

sum_below-zeros : (bound : ℕ) → sum_below bound (λ _. 0) ≡ 0
sum_below-zeros zero = refl
sum_below-zeros (suc bound) = omega (arith, sum_below-zeros bound)

sum_below-swap : (bound other : ℕ) (f : ℕ → ℕ → ℕ) →
    sum_below bound (λ n. sum_below other (λ m. f n m))
    ≡ sum_below other (λ m. sum_below bound (λ n. f n m))
sum_below-swap zero other f = sym (sum_below-zeros other)
sum_below-swap (suc bound) other f =
    ap (λ k. k + sum_below other (f bound)) (sum_below-swap bound other f)
    ∙ sym (sum_below-plus other (λ m. sum_below bound (λ n. f n m)) (f bound))

pub total-swap : (bound : ℕ) (bounds : List ℕ) (f : ℕ → List ℕ → ℕ) →
    sum_below bound (λ n. total bounds (f n)) ≡ total bounds (λ values. sum_below bound (λ n. f n values))
total-swap bound [] f = refl
total-swap bound (first ∷ bounds) f =
    sum_below-swap bound first (λ n value. total bounds (λ values. f n (value ∷ values)))
    ∙ sum_below-same first
    (λ value. sum_below bound (λ n. total bounds (λ values. f n (value ∷ values))))
    (λ value. total bounds (λ values. sum_below bound (λ n. f n (value ∷ values))))
    (λ value _. total-swap bound bounds (λ n values. f n (value ∷ values)))

-- a factor

pub sum_below-factor : (bound c : ℕ) (f : ℕ → ℕ) →
    sum_below bound (λ n. c * f n) ≡ c * sum_below bound f
sum_below-factor zero c f = omega arith
sum_below-factor (suc bound) c f =
    ap (λ n. n + c * f bound) (sum_below-factor bound c f)
    ∙ sym (distributes c (sum_below bound f) (f bound))
  where
    distributes : (a b d : ℕ) → a * (b + d) ≡ a * b + a * d
    distributes a b d = grind arith

pub total-factor : (bounds : List ℕ) (c : ℕ) (f : List ℕ → ℕ) →
    total bounds (λ values. c * f values) ≡ c * total bounds f
total-factor [] c f = refl
total-factor (bound ∷ bounds) c f =
    sum_below-same bound (λ value. total bounds (λ values. c * f (value ∷ values)))
    (λ value. c * total bounds (λ values. f (value ∷ values)))
    (λ value _. total-factor bounds c (λ values. f (value ∷ values)))
    ∙ sum_below-factor bound c (λ value. total bounds (λ values. f (value ∷ values)))

-- equal summands

sum_below-const : (bound c : ℕ) → sum_below bound (λ _. c) ≡ bound * c
sum_below-const zero c = omega arith
sum_below-const (suc bound) c = omega (arith, sum_below-const bound c)

pub total-const : (bounds : List ℕ) (c : ℕ) → total bounds (λ _. c) ≡ tuple_count bounds * c
total-const [] c = omega arith
total-const (bound ∷ bounds) c =
    ap (λ n. sum_below bound (λ _. n)) (total-const bounds c)
    ∙ sum_below-const bound (tuple_count bounds * c)
    ∙ times bound (tuple_count bounds) c
  where
    times : (a b d : ℕ) → a * (b * d) ≡ a * b * d
    times a b d = grind arith

-- one tuple alone

one_factor : (a b : ℕ) → a * b ≡ 1 → (a ≡ 1) × (b ≡ 1)
one_factor zero b one = absurd (omega (arith, one))
one_factor (suc a) zero one = absurd (omega (arith, none a, one))
  where
    none : (n : ℕ) → suc n * 0 ≡ 0
    none n = omega arith
one_factor (suc zero) (suc b) one = (refl, omega (arith, one))
one_factor (suc (suc a)) (suc b) one = absurd (more a b one)
  where
    more : (n m : ℕ) → suc (suc n) * suc m ≡ 1 → ⊥
    more n m is = omega (arith, is, grows n m)
      where
        grows : (i j : ℕ) → 2 ≤ suc (suc i) * suc j
        grows i j = grind arith

pub total-single : (count bound : ℕ) (lengths : List ℕ → ℕ) →
    tuple_count (replicate count bound) ≡ 1 →
    total (replicate count bound) lengths ≡ lengths (replicate count 0)
total-single zero bound lengths one = refl
total-single (suc count) bound lengths one =
    let parts = one_factor bound (tuple_count (replicate count bound)) one in
    let first : ℕ → ℕ = λ value. total (replicate count bound) (λ values. lengths (value ∷ values)) in
    let alone : sum_below 1 first ≡ first 0 = omega arith in
    ap (λ n. sum_below n first) parts.0
    ∙ alone
    ∙ total-single count bound (λ values. lengths (0 ∷ values)) parts.1

-- where each summand is at least 1

sum_below-grows : (bound least : ℕ) (f : ℕ → ℕ) → ((n : ℕ) → n < bound → least ≤ f n) →
    bound * least ≤ sum_below bound f
sum_below-grows zero least f each = omega arith
sum_below-grows (suc bound) least f each =
    omega (
      arith,
      each bound (omega arith),
      sum_below-grows bound least f
          (λ n within. each n (omega (arith, within))),
    )

pub total-grows : (bounds : List ℕ) (lengths : List ℕ → ℕ) →
    ((values : List ℕ) → EachBelow bounds values → 1 ≤ lengths values) →
    tuple_count bounds ≤ total bounds lengths
total-grows [] lengths each = each [] tt
total-grows (bound ∷ bounds) lengths each =
    sum_below-grows bound (tuple_count bounds)
    (λ value. total bounds (λ values. lengths (value ∷ values)))
    (λ value within. total-grows bounds (λ values. lengths (value ∷ values))
    (λ values below. each (value ∷ values) (within, below)))
