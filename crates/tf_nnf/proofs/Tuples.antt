-- The first tuple that passes a test: whether there is one, and that there is no second.
use Rattle.std.proofs.Common.{ℕ, zero, suc, ◌<◌, ◌≡◌, Bool, true, false, List, [], ◌∷◌, refl, sym, ap, subst, ◌∙◌, arith, ⊎_elim, inl, inr}
use Rattle.std.specs.Prelude.{◌⊎◌, IsTrue}
use Rattle.std.proofs.lemmas.Bool.{cases_eq, cases_lt}
use Rattle.enc_base.specs.Tables.{EachBelow}
use Rattle.tf_nnf.specs.Extension.{IsBefore, IsFirst}

-- no tuple passes
abbrev pub NonePasses : List ℕ → (List ℕ → Bool) → Type 0
NonePasses bounds test = (values : List ℕ) → EachBelow bounds values → test values ≡ false

-- the first number that has one property, where each smaller one has another
abbrev FirstNumber : ℕ → (ℕ → Type 0) → (ℕ → Type 0) → Type 0
FirstNumber bound Has Lacks =
    (n : ℕ) × (n < bound) × Has n × ((smaller : ℕ) → smaller < n → Lacks smaller)

below_more : (Lacks : ℕ → Type 0) (bound : ℕ) → ((n : ℕ) → n < bound → Lacks n) → Lacks bound →
    (n : ℕ) → n < suc bound → Lacks n
below_more Lacks bound smaller here n within =
    ⊎_elim
    (λ same. subst Lacks (sym same) here)
    (λ differs. smaller n (let other : n ≡ bound → ⊥ = differs in omega arith))
    (cases_eq n bound)

first_number : (bound : ℕ) (Has Lacks : ℕ → Type 0) → ((n : ℕ) → Has n ⊎ Lacks n) →
    FirstNumber bound Has Lacks ⊎ ((n : ℕ) → n < bound → Lacks n)
first_number zero Has Lacks decide = inr (λ n within. absurd (omega arith))
first_number (suc bound) Has Lacks decide =
    ⊎_elim
    (λ found. inl (found.0, omega (arith, found.1), found.2, found.3))
    (λ none.
    ⊎_elim
    (λ has. inl (bound, omega arith, has, none))
    (λ lacks. inr (below_more Lacks bound none lacks))
    (decide bound))
    (first_number bound Has Lacks decide)

first_of_empty : (test : List ℕ → Bool) (passes : Bool) → test [] ≡ passes →
    ((values : List ℕ) × IsFirst [] test values) ⊎ NonePasses [] test
first_of_empty test true is =
    inl ([], record { below = tt; passes = is; first = λ others below before. nothing others below before })
  where
    nothing : (others : List ℕ) → EachBelow [] others → IsBefore others [] → test others ≡ false
    nothing [] below before = absurd before
    nothing (value ∷ others) below before = absurd before
first_of_empty test false is = inr (λ values below. each values below)
  where
    each : (values : List ℕ) → EachBelow [] values → test values ≡ false
    each [] below = is
    each (value ∷ values) below = absurd below

-- a first number, with the first tuple of the rest
first_with : (bound : ℕ) (bounds : List ℕ) (test : List ℕ → Bool) (value : ℕ) (values : List ℕ) →
    value < bound → IsFirst bounds (λ others. test (value ∷ others)) values →
    ((smaller : ℕ) → smaller < value → NonePasses bounds (λ others. test (smaller ∷ others))) →
    IsFirst (bound ∷ bounds) test (value ∷ values)
first_with bound bounds test value values within rest none = record {
  below = (within, rest.below);
  passes = rest.passes;
  first = λ others below before. earlier others below before;
}
  where
    earlier : (others : List ℕ) → EachBelow (bound ∷ bounds) others →
        IsBefore others (value ∷ values) → test others ≡ false
    earlier [] below before = absurd below
    earlier (other ∷ others) below before =
        ⊎_elim
        (λ smaller. none other smaller others below.1)
        (λ same.
        ap (λ n. test (n ∷ others)) same.0 ∙ rest.first others below.1 same.1)
        before

-- a first tuple passes, or none does
pub first_or_none : (bounds : List ℕ) (test : List ℕ → Bool) →
    ((values : List ℕ) × IsFirst bounds test values) ⊎ NonePasses bounds test
first_or_none [] test = first_of_empty test (test []) refl
first_or_none (bound ∷ bounds) test =
    ⊎_elim
    (λ found. inl (found.0 ∷ found.2.0, first_with bound bounds test found.0 found.2.0 found.1 found.2.1 found.3))
    (λ none. inr (λ values below. each none values below))
    (first_number bound
    (λ n. (values : List ℕ) × IsFirst bounds (λ others. test (n ∷ others)) values)
    (λ n. NonePasses bounds (λ others. test (n ∷ others)))
    (λ n. first_or_none bounds (λ others. test (n ∷ others))))
  where
    each : ((n : ℕ) → n < bound → NonePasses bounds (λ others. test (n ∷ others))) →
        NonePasses (bound ∷ bounds) test
    each none [] below = absurd below
    each none (value ∷ values) below = none value below.0 values below.1

-- one of two tuples stands before the other, or they are the same
pub compare_tuples : (bounds values others : List ℕ) → EachBelow bounds values →
    EachBelow bounds others → (values ≡ others) ⊎ (IsBefore values others ⊎ IsBefore others values)
compare_tuples [] [] [] below also = inl refl
compare_tuples [] [] (other ∷ others) below also = absurd also
compare_tuples [] (value ∷ values) others below also = absurd below
compare_tuples (bound ∷ bounds) [] others below also = absurd below
compare_tuples (bound ∷ bounds) (value ∷ values) [] below also = absurd also
compare_tuples (bound ∷ bounds) (value ∷ values) (other ∷ others) below also =
    ⊎_elim
    (λ same.
    ⊎_elim
    (λ rest. inl (ap (λ n. n ∷ values) same ∙ ap (λ vs. other ∷ vs) rest))
    (λ rest.
    ⊎_elim
    (λ before. inr (inl (inr (same, before))))
    (λ after. inr (inr (inr (sym same, after))))
    rest)
    (compare_tuples bounds values others below.1 also.1))
    (λ differs.
    let apart : value ≡ other → ⊥ = differs in
    ⊎_elim
    (λ smaller. inr (inl (inl smaller)))
    (λ larger. inr (inr (inl (let least : other < suc value = omega (arith, larger) in omega arith))))
    (cases_lt value other))
    (cases_eq value other)

passes_not : (test : List ℕ → Bool) (values : List ℕ) → IsTrue (test values) → test values ≡ false → ⊥
passes_not test values passes fails = cc

-- there is one first tuple
pub first_is_one : (bounds : List ℕ) (test : List ℕ → Bool) (values others : List ℕ) →
    IsFirst bounds test values → IsFirst bounds test others → values ≡ others
first_is_one bounds test values others one other =
    ⊎_elim
    (λ same. same)
    (λ apart.
    ⊎_elim
    (λ before. absurd (passes_not test values one.passes (other.first values one.below before)))
    (λ after. absurd (passes_not test others other.passes (one.first others other.below after)))
    apart)
    (compare_tuples bounds values others one.below other.below)
