-- Tuples of numbers below a bound, by their number.
use Rattle.std.proofs.Common.{ℕ, zero, suc, ◌+◌, ◌*◌, ◌<◌, ◌≤◌, ◌≡◌, List, [], ◌∷◌, length, replicate, take, get_or, refl, sym, ap, subst, ◌∙◌, arith}
use Rattle.std.specs.Prelude.{◌/◌, ◌%◌}
use Rattle.std.proofs.Math.Nat.{div-lt_iff_lt-mul, mod-lt}
use Rattle.std.proofs.lemmas.Nat.{div-add-mod', div-mul-add, mod-mul-add}
use Rattle.std.proofs.lemmas.List.{get_or-replicate, length-replicate, take_all}
use Rattle.enc_base.specs.Tables.{EachBelow, sum_below, tuple_count, place, total, begins}
use Rattle.enc_base.specs.Tuples.{tuple_at}
use Rattle.enc_base.proofs.Tables.{sum_below-same, place_within}
use Rattle.enc_base.proofs.Placing.{EachBelow-at, place-step}

-- there is a tuple

some_mul : (a b : ℕ) → 0 < a → 1 ≤ b → 1 ≤ a * b
some_mul a b positive some = grind arith

pub some_tuples : (count bound : ℕ) → 0 < bound → 1 ≤ tuple_count (replicate count bound)
some_tuples zero bound positive = omega arith
some_tuples (suc count) bound positive =
    some_mul bound (tuple_count (replicate count bound)) positive (some_tuples count bound positive)

-- a tuple's number is its place

module _ (bound : ℕ) (positive : 0 < bound) where
  pub length-tuple_at : (count number : ℕ) → length (tuple_at bound count number) ≡ count
  length-tuple_at zero number = refl
  length-tuple_at (suc count) number =
      omega (arith, length-tuple_at count (number % tuple_count (replicate count bound)))

  pub place-tuple_at : (count number : ℕ) → number < tuple_count (replicate count bound) →
      place (replicate count bound) (tuple_at bound count number) ≡ number
  place-tuple_at zero number within = omega (arith, within)
  place-tuple_at (suc count) number within =
      let rest : ℕ = tuple_count (replicate count bound) in
      let some : 0 < rest = omega (arith, some_tuples count bound positive) in
      let inner = place-tuple_at count (number % rest) (mod-lt number some) in
      ap (λ n. number / rest * rest + n) inner ∙ div-add-mod' number rest

  pub tuple_at_below : (count number : ℕ) → number < tuple_count (replicate count bound) →
      EachBelow (replicate count bound) (tuple_at bound count number)
  tuple_at_below zero number within = tt
  tuple_at_below (suc count) number within =
      let rest : ℕ = tuple_count (replicate count bound) in
      let some : 0 < rest = omega (arith, some_tuples count bound positive) in (
        ((div-lt_iff_lt-mul some).1 within),
        tuple_at_below count (number % rest)
            (mod-lt number some),
      )

  -- the tuple before which so many stand
  tuple_at-from : (count value number : ℕ) → number < tuple_count (replicate count bound) →
      tuple_at bound (suc count) (value * tuple_count (replicate count bound) + number)
      ≡ value ∷ tuple_at bound count number
  tuple_at-from count value number within =
      let rest : ℕ = tuple_count (replicate count bound) in
      let front : (value * rest + number) / rest ≡ value = div-mul-add value rest number within in
      let back : (value * rest + number) % rest ≡ number = remainder value rest number within in
      ap (λ n. n ∷ tuple_at bound count ((value * rest + number) % rest)) front
      ∙ ap (λ n. value ∷ tuple_at bound count n) back
    where
      remainder : (a w b : ℕ) → b < w → (a * w + b) % w ≡ b
      remainder a w b below =
          let whole = div-add-mod' (a * w + b) w in
          let quotient = ap (λ n. n * w) (div-mul-add a w b below) in
          omega (arith, whole, quotient)

  pub tuple_at-place : (count : ℕ) (values : List ℕ) → EachBelow (replicate count bound) values →
      tuple_at bound count (place (replicate count bound) values) ≡ values
  tuple_at-place zero [] below = refl
  tuple_at-place zero (value ∷ values) below = absurd below
  tuple_at-place (suc count) [] below = absurd below
  tuple_at-place (suc count) (value ∷ values) below =
      tuple_at-from count value (place (replicate count bound) values)
      (place_within (replicate count bound) values below.1)
      ∙ ap (λ vs. value ∷ vs) (tuple_at-place count values below.1)

  -- sums over tuples are sums over their numbers

  sum_below-add : (m n : ℕ) (f : ℕ → ℕ) →
      sum_below (m + n) f ≡ sum_below m f + sum_below n (λ j. f (m + j))
  sum_below-add m zero f =
      let same : m + 0 ≡ m = omega arith in
      subst (λ k. sum_below k f ≡ sum_below m f + 0) (sym same) (omega arith)
  sum_below-add m (suc n) f =
      let next : m + suc n ≡ suc (m + n) = omega arith in
      subst (λ k. sum_below k f ≡ sum_below m f + (sum_below n (λ j. f (m + j)) + f (m + n)))
      (sym next) (omega (arith, sum_below-add m n f))

  sum_below-blocks : (count size : ℕ) (f : ℕ → ℕ) →
      sum_below (count * size) f ≡ sum_below count (λ e. sum_below size (λ j. f (e * size + j)))
  sum_below-blocks zero size f =
      let same : zero * size ≡ zero = omega arith in
      subst (λ k. sum_below k f ≡ 0) (sym same) refl
  sum_below-blocks (suc count) size f =
      let next : suc count * size ≡ count * size + size = omega arith in
      subst (λ k. sum_below k f
      ≡ sum_below count (λ e. sum_below size (λ j. f (e * size + j)))
      + sum_below size (λ j. f (count * size + j))) (sym next) (sum_below-add (count * size) size f
      ∙ ap (λ n. n + sum_below size (λ j. f (count * size + j))) (sum_below-blocks count size f))

  pub total-numbered : (count : ℕ) (lengths : List ℕ → ℕ) →
      total (replicate count bound) lengths
      ≡ sum_below (tuple_count (replicate count bound))
      (λ number. lengths (tuple_at bound count number))
  total-numbered zero lengths = omega arith
  total-numbered (suc count) lengths =
      let rest : ℕ = tuple_count (replicate count bound) in
      sum_below-same bound
      (λ value. total (replicate count bound) (λ values. lengths (value ∷ values)))
      (λ value. sum_below rest (λ j. lengths (tuple_at bound (suc count) (value * rest + j))))
      (λ value _. total-numbered count (λ values. lengths (value ∷ values))
      ∙ sum_below-same rest
      (λ j. lengths (value ∷ tuple_at bound count j))
      (λ j. lengths (tuple_at bound (suc count) (value * rest + j)))
      (λ j within. ap lengths (sym (tuple_at-from count value j within))))
      ∙ sym (sum_below-blocks bound rest (λ number. lengths (tuple_at bound (suc count) number)))

  pub begins-numbered : (count : ℕ) (lengths : List ℕ → ℕ) (values : List ℕ) →
      EachBelow (replicate count bound) values →
      begins (replicate count bound) lengths values
      ≡ sum_below (place (replicate count bound) values)
      (λ number. lengths (tuple_at bound count number))
  begins-numbered zero lengths values below = refl
  begins-numbered (suc count) lengths [] below = absurd below
  begins-numbered (suc count) lengths (value ∷ values) below =
      let rest : ℕ = tuple_count (replicate count bound) in
      let at : ℕ = place (replicate count bound) values in
      let within : at < rest = place_within (replicate count bound) values below.1 in
      let before = sum_below-same value
      (λ e. total (replicate count bound) (λ others. lengths (e ∷ others)))
      (λ e. sum_below rest (λ j. lengths (tuple_at bound (suc count) (e * rest + j))))
      (λ e _. total-numbered count (λ others. lengths (e ∷ others))
      ∙ sum_below-same rest
      (λ j. lengths (e ∷ tuple_at bound count j))
      (λ j. lengths (tuple_at bound (suc count) (e * rest + j)))
      (λ j inside. ap lengths (sym (tuple_at-from count e j inside)))) in
      let here = begins-numbered count (λ others. lengths (value ∷ others)) values below.1
      ∙ sum_below-same at
      (λ j. lengths (value ∷ tuple_at bound count j))
      (λ j. lengths (tuple_at bound (suc count) (value * rest + j)))
      (λ j inside. ap lengths
      (sym (tuple_at-from count value j (omega (arith, inside, within))))) in
      let whole = sum_below-add (value * rest) at
      (λ number. lengths (tuple_at bound (suc count) number)) in
      let blocks = sum_below-blocks value rest
      (λ number. lengths (tuple_at bound (suc count) number)) in
      omega (arith, before, here, whole, blocks)

-- the parts of a numbered tuple, taken from the right

module _ (bound count number : ℕ) (positive : 0 < bound)
    (within : number < tuple_count (replicate count bound))
  where
    -- the number of the first parts alone
    abbrev pub front : ℕ → ℕ
    front i = place (take i (replicate count bound)) (take i (tuple_at bound count number))

    part_below : (i : ℕ) → i < count → get_or (tuple_at bound count number) i 0 < bound
    part_below i inside =
        subst (λ n. get_or (tuple_at bound count number) i 0 < n)
        (get_or-replicate count i bound 0 inside)
        (EachBelow-at (replicate count bound) (tuple_at bound count number) i
        (tuple_at_below bound positive count number within)
        (omega (arith, length-replicate count bound)))

    front-more : (i : ℕ) → i < count →
        front (i + 1) ≡ front i * bound + get_or (tuple_at bound count number) i 0
    front-more i inside =
        sym (place-step (replicate count bound) (tuple_at bound count number) i bound
        (get_or (tuple_at bound count number) i 0) (front i)
        (tuple_at_below bound positive count number within)
        (omega (arith, length-replicate count bound))
        (sym (get_or-replicate count i bound 0 inside)) refl refl)

    pub front-all : front count ≡ number
    front-all =
        ap (λ bounds. place bounds (take count (tuple_at bound count number)))
        (take_all count (replicate count bound) (omega (arith, length-replicate count bound)))
        ∙ ap (place (replicate count bound))
        (take_all count (tuple_at bound count number)
        (omega (arith, length-tuple_at bound positive count number)))
        ∙ place-tuple_at bound positive count number within

    pub front-div : (i : ℕ) → i < count → front (i + 1) / bound ≡ front i
    front-div i inside =
        ap (λ n. n / bound) (front-more i inside)
        ∙ div-mul-add (front i) bound (get_or (tuple_at bound count number) i 0)
        (part_below i inside)

    pub front-mod : (i : ℕ) → i < count → front (i + 1) % bound
        ≡ get_or (tuple_at bound count number) i 0
    front-mod i inside =
        ap (λ n. n % bound) (front-more i inside)
        ∙ mod-mul-add (front i) bound (get_or (tuple_at bound count number) i 0)
        (part_below i inside)

    -- where the first parts are the first tuple, each of them is 0
    pub front-zero : (i more : ℕ) → i + more < count → front (i + more + 1) ≡ 0 →
        get_or (tuple_at bound count number) i 0 ≡ 0
    front-zero i zero inside none =
        let same : i + 0 ≡ i = omega arith in
        let here = subst (λ n. front (n + 1) ≡ 0) same none in
        omega (arith, here, front-more i (omega arith))
    front-zero i (suc more) inside none =
        let next : i + suc more ≡ i + more + 1 = omega arith in
        let last = front-more (i + suc more) inside in
        let before : front (i + suc more) ≡ 0 =
        no_factor (front (i + suc more)) bound (omega (arith, last, none)) positive in
        front-zero i more (omega arith) (subst (λ n. front n ≡ 0) next before)
      where
        no_factor : (a b : ℕ) → a * b ≡ 0 → 0 < b → a ≡ 0
        no_factor zero b none positive = refl
        no_factor (suc a) b none positive = absurd (omega (arith, none))
