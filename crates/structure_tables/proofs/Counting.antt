-- Counts in 64 bits.
use Rattle.std.specs.Prelude.{ℕ, zero, suc, ◌≡◌, ◌<◌, ◌≤◌, ◌+◌, ◌-◌, ◌*◌, ◌^◌, List, length, replicate, take, get_or, sum_by}
use Rattle.std.proofs.Common.{sym, ap, subst, ◌∙◌, arith, mul_comm}
use Rattle.enc_base.specs.Tables.{tuple_count}
use Rattle.enc_base.proofs.Tables.{tuple_count-more, tuple_count-grows, tuple_count-one}
use Rattle.tf_models.proofs.SymbolBlocks.{in_64_bits-times}
use Rattle.std.proofs.lemmas.List.Sums.{sum_by_more, sum_by-take-le}
use Rattle.enc_base.specs.Counts.{in_64_bits}
use Rattle.enc_base.proofs.Placing.{tuple_count-next}

pub in_64_bits-plus : (a b : ℕ) → in_64_bits (in_64_bits a + in_64_bits b) ≡ in_64_bits (a + b)
in_64_bits-plus a b = omega arith

pub tuples_none : (bound count : ℕ) → count ≡ 0 → 1 ≡ in_64_bits (tuple_count (replicate count bound))
tuples_none bound count none =
    ap (λ n. in_64_bits (tuple_count (replicate n bound))) (sym none)

pub tuples_one : (bound count : ℕ) → bound ≡ 1 →
    1 ≡ in_64_bits (tuple_count (replicate count bound))
tuples_one bound count one =
    ap in_64_bits (sym (tuple_count-one count))
    ∙ ap (λ n. in_64_bits (tuple_count (replicate count n))) (sym one)

pub tuples_empty : (bound count : ℕ) → 0 < count → bound ≡ 0 →
    0 ≡ in_64_bits (tuple_count (replicate count bound))
tuples_empty bound zero some none = absurd (omega arith)
tuples_empty bound (suc count) some none =
    rw none (omega arith)

pub tuples_more : (bound i tuples : ℕ) → 0 < bound →
    tuples ≡ in_64_bits (tuple_count (replicate i bound)) →
    in_64_bits (tuples * bound) ≡ in_64_bits (tuple_count (replicate (i + 1) bound))
tuples_more bound i tuples some so_far =
    let next : suc i ≡ i + 1 = omega arith in
    ap (λ n. in_64_bits (n * bound)) so_far
    ∙ in_64_bits-times (tuple_count (replicate i bound)) bound some
    ∙ ap in_64_bits (sym (tuple_count-more i bound))
    ∙ ap (λ n. in_64_bits (tuple_count (replicate n bound))) next

pub tuples_enough : (bound i count : ℕ) → 0 < bound → i < count →
    in_64_bits (tuple_count (replicate (i + 1) bound)) ≡ 2 ^ 64 - 1 →
    in_64_bits (tuple_count (replicate count bound)) ≡ 2 ^ 64 - 1
tuples_enough bound i count some within full =
    let whole : i + 1 + (count - (i + 1)) ≡ count = omega arith in
    let grows : tuple_count (replicate (i + 1) bound) ≤ tuple_count (replicate count bound) =
    subst (λ n. tuple_count (replicate (i + 1) bound) ≤ tuple_count (replicate n bound)) whole
    (tuple_count-grows bound (i + 1) (count - (i + 1)) some) in
    omega (arith, full, grows)

pub in_64_bits-product : (a b : ℕ) → in_64_bits (in_64_bits a * b) ≡ in_64_bits (a * b)
in_64_bits-product a zero =
    let first : in_64_bits a * 0 ≡ 0 = omega arith in
    let second : a * 0 ≡ 0 = omega arith in
    ap in_64_bits (first ∙ sym second)
in_64_bits-product a (suc b) = in_64_bits-times a (suc b) (omega arith)

pub in_64_bits-factors : (a b : ℕ) → in_64_bits (in_64_bits a * in_64_bits b) ≡ in_64_bits (a * b)
in_64_bits-factors a b =
    in_64_bits-product a (in_64_bits b)
    ∙ ap in_64_bits (mul_comm a (in_64_bits b))
    ∙ in_64_bits-product b a
    ∙ ap in_64_bits (mul_comm b a)

pub factor_more : (bounds : List ℕ) (i bound tuples : ℕ) → i < length bounds →
    bound ≡ get_or bounds i 0 → tuples ≡ in_64_bits (tuple_count (take i bounds)) →
    in_64_bits (tuples * bound) ≡ in_64_bits (tuple_count (take (i + 1) bounds))
factor_more bounds i bound tuples within is so_far =
    ap (λ n. in_64_bits (n * bound)) so_far
    ∙ in_64_bits-product (tuple_count (take i bounds)) bound
    ∙ ap (λ n. in_64_bits (tuple_count (take i bounds) * n)) is
    ∙ ap in_64_bits (sym (tuple_count-next bounds i within))

-- counts added to a count before them

module _ {A : Type 0} (f : A → ℕ) (items : List A) (i before : ℕ) where
  pub counted_more : (count entries : ℕ) (item : A) → i < length items → item ≡ get_or items i item →
      count ≡ in_64_bits (f item) → entries ≡ in_64_bits (before + sum_by f (take i items)) →
      in_64_bits (entries + count) ≡ in_64_bits (before + sum_by f (take (i + 1) items))
  counted_more count entries item within is same so_far =
      let whole = sum_by_more f items i item within in
      omega (arith, so_far, same, ap f is, whole)

  -- the count is too large already
  pub counted_full : (entries : ℕ) → entries ≡ in_64_bits (before + sum_by f (take i items)) →
      entries ≡ 2 ^ 64 - 1 → entries ≡ in_64_bits (before + sum_by f items)
  counted_full entries so_far full = omega (arith, so_far, full, sum_by-take-le f items i)
