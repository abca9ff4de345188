-- Tuples tried in turn: the order of their places, and what is known of those before one.
use Rattle.std.proofs.Common.{ℕ, ◌+◌, ◌*◌, ◌<◌, ◌≤◌, ◌≡◌, Bool, true, false, List, [], ◌∷◌, length, replicate, refl, sym, ap, subst, arith, ⊎_elim}
use Rattle.std.specs.Prelude.{IsTrue}
use Rattle.std.proofs.lemmas.Bool.{cases_lt}
use Rattle.enc_base.specs.Tables.{EachBelow, tuple_count, place}
use Rattle.enc_base.specs.Tuples.{IsNext, IsLast}
use Rattle.enc_base.proofs.Tables.{place_within, EachBelow-length}
use Rattle.enc_base.proofs.TupleOrder.{place-same}
use Rattle.tf_nnf.specs.Extension.{IsBefore, IsFirst}

-- what stands before a tuple has a smaller place

product_below : (a b n : ℕ) → a < b → a * n + n ≤ b * n
product_below a b n smaller = grind arith

pub place-before : (bounds values others : List ℕ) → EachBelow bounds values →
    EachBelow bounds others → IsBefore values others → place bounds values < place bounds others
place-before [] [] others below also before = absurd before
place-before [] (value ∷ values) others below also before = absurd below
place-before (bound ∷ bounds) [] others below also before = absurd before
place-before (bound ∷ bounds) (value ∷ values) [] below also before = absurd also
place-before (bound ∷ bounds) (value ∷ values) (other ∷ others) below also before =
    ⊎_elim
    (λ smaller.
    let count : ℕ = tuple_count bounds in
    let within : place bounds values < count = place_within bounds values below.1 in
    let product : value * count + count ≤ other * count = product_below value other count smaller in
    omega arith)
    (λ same.
    let rest = place-before bounds values others below.1 also.1 same.1 in
    subst (λ n. value * tuple_count bounds + place bounds values < n * tuple_count bounds + place bounds others)
    same.0 (omega arith))
    before

-- the tuples before a tuple fail a test
pub record EarlierFail (bounds : List ℕ) (test : List ℕ → Bool) (values : List ℕ) : Type 0 where
  pub below : EachBelow bounds values
  pub earlier : (others : List ℕ) → EachBelow bounds others →
      place bounds others < place bounds values → test others ≡ false

module _ (bounds : List ℕ) (test : List ℕ → Bool) where
  pub none_earlier : (values : List ℕ) → EachBelow bounds values → place bounds values ≡ 0 →
      EarlierFail bounds test values
  none_earlier values below none = record {
    below = below;
    earlier = λ others also smaller. absurd (omega arith);
  }

  up_to : (values others : List ℕ) → EarlierFail bounds test values → test values ≡ false →
      EachBelow bounds others → place bounds others < place bounds values + 1 → test others ≡ false
  up_to values others fail fails also smaller =
      ⊎_elim
      (λ less. fail.earlier others also less)
      (λ not_less.
      let no : place bounds values ≤ place bounds others = not_less in
      let same : others ≡ values = place-same bounds others values also fail.below (omega arith) in
      subst (λ vs. test vs ≡ false) (sym same) fails)
      (cases_lt (place bounds others) (place bounds values))

  pub next_earlier : (values after : List ℕ) → EarlierFail bounds test values →
      test values ≡ false → IsNext bounds values after → EarlierFail bounds test after
  next_earlier values after fail fails next = record {
    below = next.below;
    earlier = λ others also smaller.
        up_to values others fail fails also (omega (arith, smaller, next.place_is));
  }

  -- where some tuple doesn't fail, it isn't the last that does
  pub not_last : (values : List ℕ) → EarlierFail bounds test values → test values ≡ false →
      (((others : List ℕ) → EachBelow bounds others → test others ≡ false) → ⊥) →
      place bounds values + 1 < tuple_count bounds
  not_last values fail fails some =
      ⊎_elim
      (λ less. less)
      (λ not_less.
      let no : tuple_count bounds ≤ place bounds values + 1 = not_less in
      absurd (some (λ others also.
      up_to values others fail fails also (omega (arith, place_within bounds others also)))))
      (cases_lt (place bounds values + 1) (tuple_count bounds))

  -- so there is a next one
  pub next_of_some : (values after : List ℕ) (more : Bool) →
      (more ≡ true → IsNext bounds values after) → (more ≡ false → IsLast bounds values) →
      place bounds values + 1 < tuple_count bounds → IsNext bounds values after
  next_of_some values after true next last within = next refl
  next_of_some values after false next last within =
      let whole : place bounds values + 1 ≡ tuple_count bounds = last refl in
      absurd (omega arith)

  pub first_from : (values : List ℕ) → EarlierFail bounds test values → IsTrue (test values) →
      IsFirst bounds test values
  first_from values fail passes = record {
    below = fail.below;
    passes = passes;
    first = λ others also before.
        fail.earlier others also (place-before bounds others values also fail.below before);
  }

-- a tuple is as long as its bounds
pub over_its_length : (count bound : ℕ) (values : List ℕ) → EachBelow (replicate count bound) values →
    replicate (length values) bound ≡ replicate count bound
over_its_length count bound values below =
    ap (λ n. replicate n bound) (sym (EachBelow-length count bound values below))
