-- The entries of blocks, counted one after another.
use Rattle.std.specs.Prelude.{ℕ, suc, ◌≡◌, ◌<◌, ◌+◌, ◌-◌, ◌*◌, ◌/◌, ◌^◌, List, [], ◌∷◌, length, replicate}
use Rattle.std.proofs.Common.{refl, sym, ap, ◌∙◌, arith, ⊎_elim}
use Rattle.std.proofs.lemmas.Nat.{div-mul-add}
use Rattle.std.proofs.lemmas.Bool.{cases_eq}
use Rattle.enc_base.specs.Tables.{EachBelow, sum_below, tuple_count, place, total, begins}
use Rattle.enc_base.specs.Counts.{in_64_bits}
use Rattle.enc_base.specs.Tuples.{IsNext, IsLast}
use Rattle.enc_base.proofs.Tables.{place_within, begins_within}
use Rattle.structure_tables.proofs.CountedAlike.{alike_products, alike_itself, product_enough}

-- numbers with one remainder and one quotient

quotients_same : (a b w r t : ℕ) → r < w → t < w → a * w + r ≡ b * w + t → a ≡ b
quotients_same a b w r t first second same =
    sym (div-mul-add a w r first) ∙ ap (λ n. n / w) same ∙ div-mul-add b w t second

next_quotient : (a w : ℕ) → suc a * w ≡ a * w + w
next_quotient a w = grind arith

last_parts : (a b w r : ℕ) → r < w → a * w + r + 1 ≡ b * w → a < b → (suc a ≡ b) × (r + 1 ≡ w)
last_parts a b w r within same below =
    ⊎_elim
    (λ full.
    let whole : suc a * w + 0 ≡ b * w + 0 = omega (arith, full, same, next_quotient a w) in
    (quotients_same (suc a) b w 0 0 (omega (arith, within)) (omega (arith, within)) whole, full))
    (λ differs.
    let other : r + 1 ≡ w → ⊥ = differs in
    let small : r + 1 < w = omega (arith, within, other) in
    let moved : a * w + (r + 1) ≡ b * w + 0 = omega (arith, same) in
    let equal = quotients_same a b w (r + 1) 0 small (omega (arith, within)) moved in
    absurd (omega (arith, equal, below)))
    (cases_eq (r + 1) w)

-- what stands before tuples

begins-first : (bounds values : List ℕ) (lengths : List ℕ → ℕ) → EachBelow bounds values →
    place bounds values ≡ 0 → begins bounds lengths values ≡ 0
begins-first [] values lengths below first = refl
begins-first (bound ∷ bounds) [] lengths below first = absurd below
begins-first (bound ∷ bounds) (value ∷ values) lengths below first =
    let within = place_within bounds values below.1 in
    let none : value * tuple_count bounds + place bounds values ≡ 0 * tuple_count bounds + 0 =
    omega (arith, first) in
    let zero_value = quotients_same value 0 (tuple_count bounds) (place bounds values) 0 within
    (omega (arith, within)) none in
    let inner = begins-first bounds values (λ others. lengths (value ∷ others)) below.1
    (omega (arith, first)) in
    let nothing = ap (λ n. sum_below n (λ earlier. total bounds (λ others. lengths (earlier ∷ others))))
    zero_value in
    omega (arith, nothing, inner)

begins-last : (bounds values : List ℕ) (lengths : List ℕ → ℕ) → EachBelow bounds values →
    IsLast bounds values → begins bounds lengths values + lengths values ≡ total bounds lengths
begins-last [] [] lengths below last = omega arith
begins-last [] (value ∷ values) lengths below last = absurd below
begins-last (bound ∷ bounds) [] lengths below last = absurd below
begins-last (bound ∷ bounds) (value ∷ values) lengths below last =
    let parts = last_parts value bound (tuple_count bounds) (place bounds values)
    (place_within bounds values below.1) last below.0 in
    let rest : ℕ → ℕ = λ earlier. total bounds (λ others. lengths (earlier ∷ others)) in
    let inner = begins-last bounds values (λ others. lengths (value ∷ others)) below.1 parts.1 in
    let whole : sum_below (suc value) rest ≡ sum_below bound rest =
    ap (λ n. sum_below n rest) parts.0 in
    omega (arith, inner, whole)

-- one part more, before tuples that follow one another
module _ (bounds before after : List ℕ) (value other : ℕ) (lengths : List ℕ → ℕ)
    (below : EachBelow bounds before) (next : EachBelow bounds after)
    (is : other * tuple_count bounds + place bounds after
    ≡ value * tuple_count bounds + place bounds before + 1)
  where
    abbrev w : ℕ
    w = tuple_count bounds

    abbrev rest : ℕ → ℕ
    rest earlier = total bounds (λ others. lengths (earlier ∷ others))

    abbrev behind : ℕ → List ℕ → ℕ
    behind first values = begins bounds (λ others. lengths (first ∷ others)) values

    before_within : place bounds before < w
    before_within = place_within bounds before below

    after_within : place bounds after < w
    after_within = place_within bounds after next

    part_moves : place bounds before + 1 ≡ w →
        sum_below other rest + behind other after
        ≡ sum_below value rest + behind value before + lengths (value ∷ before)
    part_moves last =
        let moved : other * w + place bounds after ≡ suc value * w + 0 =
        omega (arith, is, last, next_quotient value w) in
        let up = quotients_same other (suc value) w (place bounds after) 0 after_within
        (omega (arith, before_within)) moved in
        let at : suc value * w ≡ other * w = ap (λ n. n * w) (sym up) in
        let first = begins-first bounds after (λ others. lengths (other ∷ others)) next
        (omega (arith, moved, at)) in
        let inner = begins-last bounds before (λ others. lengths (value ∷ others)) below last in
        let whole : sum_below other rest ≡ sum_below (suc value) rest =
        ap (λ n. sum_below n rest) up in
        omega (arith, first, inner, whole)

    part_stays : (place bounds before + 1 ≡ w → ⊥) →
        (place bounds after ≡ place bounds before + 1 →
        behind value after ≡ behind value before + lengths (value ∷ before)) →
        sum_below other rest + behind other after
        ≡ sum_below value rest + behind value before + lengths (value ∷ before)
    part_stays inside further =
        let small : place bounds before + 1 < w = omega (arith, before_within, inside) in
        let moved : other * w + place bounds after ≡ value * w + (place bounds before + 1) =
        omega (arith, is) in
        let same = quotients_same other value w (place bounds after) (place bounds before + 1)
        after_within small moved in
        let at : other * w ≡ value * w = ap (λ n. n * w) same in
        let inner = further (omega (arith, moved, at)) in
        let whole : sum_below other rest + behind other after
        ≡ sum_below value rest + behind value after =
        ap (λ n. sum_below n rest + behind n after) same in
        omega (arith, inner, whole)

begins-next : (bounds before after : List ℕ) (lengths : List ℕ → ℕ) → EachBelow bounds before →
    EachBelow bounds after → place bounds after ≡ place bounds before + 1 →
    begins bounds lengths after ≡ begins bounds lengths before + lengths before
begins-next [] before after lengths below next is = absurd (omega (arith, is))
begins-next (bound ∷ bounds) [] after lengths below next is = absurd below
begins-next (bound ∷ bounds) (value ∷ before) [] lengths below next is = absurd next
begins-next (bound ∷ bounds) (value ∷ before) (other ∷ after) lengths below next is =
    ⊎_elim
    (λ full. part_moves bounds before after value other lengths below.1 next.1 is full)
    (λ differs. part_stays bounds before after value other lengths below.1 next.1 is differs
    (λ follows. begins-next bounds before after (λ others. lengths (value ∷ others)) below.1 next.1
    follows))
    (cases_eq (place bounds before + 1) (tuple_count bounds))

begins-zeros : (bounds : List ℕ) (lengths : List ℕ → ℕ) →
    begins bounds lengths (replicate (length bounds) 0) ≡ 0
begins-zeros [] lengths = refl
begins-zeros (bound ∷ bounds) lengths =
    omega (arith, begins-zeros bounds (λ others. lengths (0 ∷ others)))

module _ (bounds : List ℕ) (lengths : List ℕ → ℕ) where
  pub count_first : 0 ≡ in_64_bits (begins bounds lengths (replicate (length bounds) 0))
  count_first = ap in_64_bits (sym (begins-zeros bounds lengths))

  module _ (values : List ℕ) (entries block : ℕ) (below : EachBelow bounds values)
      (so_far : entries ≡ in_64_bits (begins bounds lengths values))
      (is : block ≡ in_64_bits (lengths values))
    where
      pub counted_last : IsLast bounds values →
          in_64_bits (entries + block) ≡ in_64_bits (total bounds lengths)
      counted_last last = omega (arith, so_far, is, begins-last bounds values lengths below last)

      pub counted_next : (after : List ℕ) → IsNext bounds values after →
          in_64_bits (entries + block) ≡ in_64_bits (begins bounds lengths after)
      counted_next after next =
          omega (
            arith,
            so_far,
            is,
            begins-next bounds values after lengths below next.below next.place_is,
          )

      -- a factor times the count

      pub product_last : (factor : ℕ) → IsLast bounds values →
          in_64_bits (factor * in_64_bits (entries + block)) ≡ in_64_bits (factor * total bounds lengths)
      product_last factor last =
          alike_products factor factor (in_64_bits (entries + block)) (total bounds lengths) refl
          (ap in_64_bits (counted_last last) ∙ alike_itself (total bounds lengths))

      -- the product is too large already
      pub product_full : (factor : ℕ) →
          in_64_bits (factor * in_64_bits (entries + block)) ≡ 2 ^ 64 - 1 →
          in_64_bits (factor * in_64_bits (entries + block)) ≡ in_64_bits (factor * total bounds lengths)
      product_full factor full =
          let exact : ℕ = begins bounds lengths values + lengths values in
          let same : in_64_bits (entries + block) ≡ in_64_bits exact = omega (arith, so_far, is) in
          let kept : in_64_bits (factor * in_64_bits (entries + block))
          ≡ in_64_bits (factor * in_64_bits exact) = ap (λ n. in_64_bits (factor * n)) same in
          kept
          ∙ product_enough factor exact (total bounds lengths)
          (begins_within bounds values lengths below) (sym kept ∙ full)
