-- The place of a tuple, found from the left.
use Rattle.std.proofs.Common.{ℕ, zero, suc, ◌+◌, ◌*◌, ◌<◌, ◌≤◌, ◌≡◌, List, [], ◌∷◌, map, length, take, get_or, refl, sym, ap, ◌∙◌, arith, add-one}
use Rattle.std.proofs.lemmas.List.{take_all}
use Rattle.enc_base.specs.Tables.{EachBelow, tuple_count, place}
use Rattle.enc_base.specs.Tuples.{IsPlaced}
use Rattle.enc_base.proofs.Tables.{place_within}

pub EachBelow-at : (bounds values : List ℕ) (i : ℕ) → EachBelow bounds values → i < length bounds →
    get_or values i 0 < get_or bounds i 0
EachBelow-at [] values i below within = absurd (omega arith)
EachBelow-at (bound ∷ bounds) [] i below within = absurd below
EachBelow-at (bound ∷ bounds) (value ∷ values) zero below within = below.0
EachBelow-at (bound ∷ bounds) (value ∷ values) (suc i) below within =
    EachBelow-at bounds values i below.1 (omega arith)

pub EachBelow-take : (bounds values : List ℕ) (i : ℕ) → EachBelow bounds values →
    EachBelow (take i bounds) (take i values)
EachBelow-take [] [] zero below = tt
EachBelow-take [] [] (suc i) below = tt
EachBelow-take [] (value ∷ values) i below = absurd below
EachBelow-take (bound ∷ bounds) [] i below = absurd below
EachBelow-take (bound ∷ bounds) (value ∷ values) zero below = tt
EachBelow-take (bound ∷ bounds) (value ∷ values) (suc i) below =
    (below.0, EachBelow-take bounds values i below.1)

pub EachBelow-same_length : (bounds values : List ℕ) → EachBelow bounds values →
    length bounds ≡ length values
EachBelow-same_length [] [] below = refl
EachBelow-same_length [] (value ∷ values) below = absurd below
EachBelow-same_length (bound ∷ bounds) [] below = absurd below
EachBelow-same_length (bound ∷ bounds) (value ∷ values) below =
    omega (arith, EachBelow-same_length bounds values below.1)

tuple_count-take : (bounds : List ℕ) (i : ℕ) → i < length bounds →
    tuple_count (take (suc i) bounds) ≡ tuple_count (take i bounds) * get_or bounds i 0
tuple_count-take [] i within = absurd (omega arith)
tuple_count-take (bound ∷ bounds) zero within = omega arith
tuple_count-take (bound ∷ bounds) (suc i) within =
    let rest = tuple_count-take bounds i (omega arith) in
    regroup bound (tuple_count (take i bounds)) (get_or bounds i 0)
    (tuple_count (take (suc i) bounds)) rest
  where
    regroup : (a b c d : ℕ) → d ≡ b * c → a * d ≡ a * b * c
    regroup a b c d is = grind arith

pub tuple_count-next : (bounds : List ℕ) (i : ℕ) → i < length bounds →
    tuple_count (take (i + 1) bounds) ≡ tuple_count (take i bounds) * get_or bounds i 0
tuple_count-next bounds i within = rw (add-one i) (tuple_count-take bounds i within)

pub tuple_count-take-le : (bounds values : List ℕ) (i : ℕ) → EachBelow bounds values →
    tuple_count (take i bounds) ≤ tuple_count bounds
tuple_count-take-le [] [] zero below = omega arith
tuple_count-take-le [] [] (suc i) below = omega arith
tuple_count-take-le [] (value ∷ values) i below = absurd below
tuple_count-take-le (bound ∷ bounds) [] i below = absurd below
tuple_count-take-le (bound ∷ bounds) (value ∷ values) zero below =
    let rest = tuple_count-take-le bounds values zero below.1 in
    let positive : 0 < bound = omega (arith, below.0) in
    grows bound (tuple_count bounds) positive (omega (arith, rest))
  where
    grows : (a b : ℕ) → 0 < a → 1 ≤ b → 1 ≤ a * b
    grows a b positive some = grind arith
tuple_count-take-le (bound ∷ bounds) (value ∷ values) (suc i) below =
    times bound (tuple_count (take i bounds)) (tuple_count bounds)
    (tuple_count-take-le bounds values i below.1)
  where
    times : (a b c : ℕ) → b ≤ c → a * b ≤ a * c
    times a b c le = grind arith

place-step_suc : (bounds values : List ℕ) (i b v at : ℕ) → EachBelow bounds values →
    i < length bounds →
    b ≡ get_or bounds i 0 → v ≡ get_or values i 0 → at ≡ place (take i bounds) (take i values) →
    at * b + v ≡ place (take (suc i) bounds) (take (suc i) values)
place-step_suc [] [] i b v at below within bound_is value_is place_is = absurd (omega arith)
place-step_suc [] (value ∷ values) i b v at below within bound_is value_is place_is = absurd below
place-step_suc (bound ∷ bounds) [] i b v at below within bound_is value_is place_is = absurd below
place-step_suc (bound ∷ bounds) (value ∷ values) zero b v at below within bound_is value_is
    place_is =
    first at b v value place_is value_is
  where
    first : (at b v value : ℕ) → at ≡ 0 → v ≡ value → at * b + v ≡ value * 1 + 0
    first at b v value none same = grind arith
place-step_suc (bound ∷ bounds) (value ∷ values) (suc i) b v at below within bound_is value_is
    place_is =
    let rest = place-step_suc bounds values i b v (place (take i bounds) (take i values)) below.1
    (omega arith) bound_is value_is refl in
    let grows : tuple_count (take (suc i) bounds) ≡ tuple_count (take i bounds) * b =
    tuple_count-take bounds i (omega arith) ∙ ap (λ n. tuple_count (take i bounds) * n)
    (sym bound_is) in
    regroup at b v value (tuple_count (take i bounds)) (place (take i bounds) (take i values))
    (tuple_count (take (suc i) bounds)) (place (take (suc i) bounds) (take (suc i) values))
    place_is rest grows
  where
    regroup : (at b v value count before next more : ℕ) → at ≡ value * count + before →
        before * b + v ≡ more → next ≡ count * b → at * b + v ≡ value * next + more
    regroup at b v value count before next more place_is rest grows =
        omega (arith, rest, ap (λ n. n * b) place_is, ap (λ n. value * n) grows)

pub place-step : (bounds values : List ℕ) (i b v at : ℕ) → EachBelow bounds values →
    i < length bounds →
    b ≡ get_or bounds i 0 → v ≡ get_or values i 0 → at ≡ place (take i bounds) (take i values) →
    at * b + v ≡ place (take (i + 1) bounds) (take (i + 1) values)
place-step bounds values i b v at below within bound_is value_is place_is =
    rw (add-one i) (place-step_suc bounds values i b v at below within bound_is value_is place_is)

pub place-fits : (bounds values : List ℕ) (i b v at : ℕ) → EachBelow bounds values →
    i < length bounds →
    b ≡ get_or bounds i 0 → v ≡ get_or values i 0 → at ≡ place (take i bounds) (take i values) →
    at * b + v < tuple_count bounds
place-fits bounds values i b v at below within bound_is value_is place_is =
    omega (
      arith,
      place-step_suc bounds values i b v at below within bound_is value_is place_is,
      place_within (take (suc i) bounds) (take (suc i) values)
          (EachBelow-take bounds values (suc i) below),
      tuple_count-take-le bounds values (suc i) below,
    )

pub placed_within : (bounds values : List ℕ) (at : ℕ) → IsPlaced bounds values at →
    at < tuple_count bounds
placed_within bounds values at placed =
    omega (arith, placed.place_is, place_within bounds values placed.below)

-- the first parts are the whole
pub place-whole : (bounds values : List ℕ) (i : ℕ) → EachBelow bounds values → length bounds ≤ i →
    place (take i bounds) (take i values) ≡ place bounds values
place-whole bounds values i below whole =
    ap (λ xs. place xs (take i values)) (take_all i bounds whole)
    ∙ ap (place bounds) (take_all i values
    (omega (arith, EachBelow-same_length bounds values below)))

-- an item's image, among the images
pub get_or-mapped : {A : Type 0} (f : A → ℕ) (items : List A) (i : ℕ) (item : A) →
    i < length items →
    item ≡ get_or items i item → get_or (map f items) i 0 ≡ f item
get_or-mapped {A = A} f items i item within is =
    go i items within ∙ ap f (sym is)
  where
    go : (i : ℕ) (xs : List A) → i < length xs → get_or (map f xs) i 0 ≡ f (get_or xs i item)
    go i [] within = absurd (omega arith)
    go zero (x ∷ xs) within = refl
    go (suc i) (x ∷ xs) within = go i xs (omega arith)
