-- The next tuple of numbers below bounds, the last one and the first.
use Rattle.std.specs.Prelude.{ℕ, zero, suc, ◌≡◌, ◌<◌, ◌≤◌, ◌+◌, ◌*◌, ◌-◌, ◌/◌, ◌%◌, List, [], ◌∷◌, length, replicate, drop, get_or}
use Rattle.std.proofs.Common.{refl, sym, ap, subst, ◌∙◌, arith}
use Rattle.std.proofs.Math.ListN.{set}
use Rattle.std.proofs.lemmas.Nat.{div-mul-add, mod-mul-add}
use Rattle.enc_base.specs.Tables.{EachBelow, tuple_count, place}
use Rattle.enc_base.specs.Tuples.{IsNext, IsLast}
use Rattle.enc_base.proofs.Tables.{place_within}
use Rattle.enc_base.proofs.Placing.{EachBelow-at}

-- one part replaced

pub EachBelow-set : (bounds values : List ℕ) (i value : ℕ) → EachBelow bounds values →
    value < get_or bounds i 0 → EachBelow bounds (set values i value)
EachBelow-set [] [] i value below within = tt
EachBelow-set [] (first ∷ values) i value below within = absurd below
EachBelow-set (bound ∷ bounds) [] i value below within = absurd below
EachBelow-set (bound ∷ bounds) (first ∷ values) zero value below within = (within, below.1)
EachBelow-set (bound ∷ bounds) (first ∷ values) (suc i) value below within =
    (below.0, EachBelow-set bounds values i value below.1 within)

place-set : (bounds values : List ℕ) (i value : ℕ) → EachBelow bounds values → i < length bounds →
    place bounds (set values i value) + get_or values i 0 * tuple_count (drop (suc i) bounds)
    ≡ place bounds values + value * tuple_count (drop (suc i) bounds)
place-set [] values i value below within = absurd (omega arith)
place-set (bound ∷ bounds) [] i value below within = absurd below
place-set (bound ∷ bounds) (first ∷ values) zero value below within = omega arith
place-set (bound ∷ bounds) (first ∷ values) (suc i) value below within =
    omega (arith, place-set bounds values i value below.1 (omega arith))

tuple_count-drop : (bounds : List ℕ) (i : ℕ) → i < length bounds →
    tuple_count (drop i bounds) ≡ get_or bounds i 0 * tuple_count (drop (suc i) bounds)
tuple_count-drop [] i within = absurd (omega arith)
tuple_count-drop (bound ∷ bounds) zero within = refl
tuple_count-drop (bound ∷ bounds) (suc i) within = tuple_count-drop bounds i (omega arith)

-- The parts from the i-th on were the last of theirs, and are zeros now.
pub record IsStepping (bounds before now : List ℕ) (i : ℕ) : Type 0 where
  pub below : EachBelow bounds now
  pub place_is : place bounds now + tuple_count (drop i bounds) ≡ place bounds before + 1

-- at the beginning, where no part from the i-th on varies
pub stepping_none : (bounds before : List ℕ) (i : ℕ) → EachBelow bounds before →
    tuple_count (drop i bounds) ≡ 1 → IsStepping bounds before before i
stepping_none bounds before i below one = record {
  below = below;
  place_is = ap (λ n. place bounds before + n) one;
}

-- a part, as code reads it when the parts behind it are done
module _ (bounds before values : List ℕ) (done : ℕ) (some : 0 < done)
    (inside : done ≤ length bounds) (stepping : IsStepping bounds before values done)
    (value bound : ℕ)
    (is : value ≡ get_or values (done - 1) 0) (bounded : bound ≡ get_or bounds (done - 1) 0)
  where
    within : done - 1 < length bounds
    within = omega arith

    abbrev rest : ℕ
    rest = tuple_count (drop (suc (done - 1)) bounds)

    behind : place bounds values + rest ≡ place bounds before + 1
    behind =
        let same : done ≡ suc (done - 1) = omega arith in
        subst (λ n. place bounds values + tuple_count (drop n bounds) ≡ place bounds before + 1)
        same stepping.place_is

    moved : (other : ℕ) →
        place bounds (set values (done - 1) other) + value * rest
        ≡ place bounds values + other * rest
    moved other =
        ap (λ n. place bounds (set values (done - 1) other) + n * rest) is
        ∙ place-set bounds values (done - 1) other stepping.below within

    pub part_below : value < bound
    part_below =
        rw (is, bounded) (EachBelow-at bounds values (done - 1) stepping.below within)

    pub stepping_ends : value + 1 < bound →
        IsNext bounds before (set values (done - 1) (value + 1))
    stepping_ends higher = record {
      below = EachBelow-set bounds values (done - 1) (value + 1) stepping.below
          (subst (λ n. value + 1 < n) bounded higher);
      place_is = omega (arith, moved (value + 1), behind);
    }

    pub stepping_more : bound ≤ value + 1 →
        IsStepping bounds before (set values (done - 1) 0) (done - 1)
    stepping_more full =
        let whole : bound ≡ value + 1 = omega (arith, part_below) in
        let wide : tuple_count (drop (done - 1) bounds) ≡ (value + 1) * rest =
        tuple_count-drop bounds (done - 1) within ∙ ap (λ n. n * rest) (sym bounded ∙ whole) in
        record {
          below = EachBelow-set bounds values (done - 1) 0 stepping.below
              (subst (λ n. 0 < n) bounded (omega (arith, part_below)));
          place_is = omega (arith, moved 0, behind, wide);
        }

pub stepping_last : (bounds before now : List ℕ) → EachBelow bounds before →
    IsStepping bounds before now 0 → IsLast bounds before
stepping_last bounds before now below stepping =
    omega (arith, stepping.place_is, place_within bounds before below)

-- the first tuple

pub place-zeros : (bounds : List ℕ) → place bounds (replicate (length bounds) 0) ≡ 0
place-zeros [] = refl
place-zeros (bound ∷ bounds) = omega (arith, place-zeros bounds)

pub place-zeros-over : (count bound : ℕ) → place (replicate count bound) (replicate count 0) ≡ 0
place-zeros-over zero bound = refl
place-zeros-over (suc count) bound = omega (arith, place-zeros-over count bound)

pub zeros_below : (count bound : ℕ) → 0 < bound →
    EachBelow (replicate count bound) (replicate count 0)
zeros_below zero bound some = tt
zeros_below (suc count) bound some = (some, zeros_below count bound some)

-- how many tuples are left behind one falls
pub fewer_left : (bounds values after : List ℕ) → IsNext bounds values after →
    tuple_count bounds - place bounds after < tuple_count bounds - place bounds values
fewer_left bounds values after next =
    omega (arith, next.place_is, place_within bounds after next.below)

-- tuples with one place are one

pub place-same : (bounds xs ys : List ℕ) → EachBelow bounds xs → EachBelow bounds ys →
    place bounds xs ≡ place bounds ys → xs ≡ ys
place-same [] [] [] below other same = refl
place-same [] (x ∷ xs) ys below other same = absurd below
place-same [] [] (y ∷ ys) below other same = absurd other
place-same (bound ∷ bounds) [] ys below other same = absurd below
place-same (bound ∷ bounds) (x ∷ xs) [] below other same = absurd other
place-same (bound ∷ bounds) (x ∷ xs) (y ∷ ys) below other same =
    let inside = place_within bounds xs below.1 in
    let other_inside = place_within bounds ys other.1 in
    let first : x ≡ y =
    sym (div-mul-add x (tuple_count bounds) (place bounds xs) inside)
    ∙ ap (λ n. n / tuple_count bounds) same
    ∙ div-mul-add y (tuple_count bounds) (place bounds ys) other_inside in
    let rest : place bounds xs ≡ place bounds ys =
    sym (mod-mul-add x (tuple_count bounds) (place bounds xs) inside)
    ∙ ap (λ n. n % tuple_count bounds) same
    ∙ mod-mul-add y (tuple_count bounds) (place bounds ys) other_inside in
    ap (λ n. n ∷ xs) first ∙ ap (λ ns. y ∷ ns) (place-same bounds xs ys below.1 other.1 rest)
