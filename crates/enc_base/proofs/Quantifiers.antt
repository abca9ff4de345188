-- What the tests of the numbers below a bound say.
use Rattle.std.specs.Prelude.{ℕ, zero, suc, List, [], ◌∷◌, map, ◌<◌, ◌≡◌, Bool, true, false, not, ◌&&◌, ◌||◌, IsTrue, ◌↔◌}
use Rattle.std.proofs.Common.{refl, sym, ap, ◌∙◌, subst, arith, ⊎_elim}
use Rattle.std.specs.List.{list_any}
use Rattle.std.proofs.lemmas.Bool.{and_parts, and_from, cases_eq, false≢true, or_cases, or_left, or_right}
use Rattle.enc_base.specs.Quantifiers.{all_below, some_below}

pub all_below-at : (bound : ℕ) (test : ℕ → Bool) → IsTrue (all_below bound test) →
    (n : ℕ) → n < bound → IsTrue (test n)
all_below-at zero test holds n within = absurd (omega arith)
all_below-at (suc bound) test holds n within =
    let parts = and_parts (test bound) (all_below bound test) holds in
    ⊎_elim
    (λ same. subst (λ x. IsTrue (test x)) (sym same) parts.0)
    (λ differs. all_below-at bound test parts.1 n
    (let other : n ≡ bound → ⊥ = differs in omega arith))
    (cases_eq n bound)

pub all_below-from : (bound : ℕ) (test : ℕ → Bool) →
    ((n : ℕ) → n < bound → IsTrue (test n)) → IsTrue (all_below bound test)
all_below-from zero test each = refl
all_below-from (suc bound) test each =
    and_from (test bound) (all_below bound test) (each bound (omega arith))
    (all_below-from bound test (λ n within. each n (omega arith)))

pub some_below-at : (bound : ℕ) (test : ℕ → Bool) → IsTrue (some_below bound test) →
    (n : ℕ) × (n < bound) × IsTrue (test n)
some_below-at zero test holds = absurd (false≢true holds)
some_below-at (suc bound) test holds =
    ⊎_elim
    (λ last. (bound, omega arith, last))
    (λ earlier.
    let found = some_below-at bound test earlier in
    (found.0, omega (arith, found.1), found.2))
    (or_cases (test bound) (some_below bound test) holds)

pub some_below-from : (bound : ℕ) (test : ℕ → Bool) (n : ℕ) → n < bound → IsTrue (test n) →
    IsTrue (some_below bound test)
some_below-from zero test n within holds = absurd (omega arith)
some_below-from (suc bound) test n within holds =
    ⊎_elim
    (λ same. or_left (test bound) (some_below bound test)
    (subst (λ x. IsTrue (test x)) same holds))
    (λ differs. or_right (test bound) (some_below bound test)
    (some_below-from bound test n
    (let other : n ≡ bound → ⊥ = differs in omega arith) holds))
    (cases_eq n bound)

pub all_below-says : (bound : ℕ) (test : ℕ → Bool) →
    IsTrue (all_below bound test) ↔ ((n : ℕ) → n < bound → IsTrue (test n))
all_below-says bound test = (all_below-at bound test, all_below-from bound test)

pub some_below-says : (bound : ℕ) (test : ℕ → Bool) →
    IsTrue (some_below bound test) ↔ ((n : ℕ) × (n < bound) × IsTrue (test n))
some_below-says bound test =
    (some_below-at bound test, λ found. some_below-from bound test found.0 found.1 found.2)

-- the negation of a test of all is the test of some of the negation

pub not-all_below : (bound : ℕ) (test : ℕ → Bool) →
    not (all_below bound test) ≡ some_below bound (λ n. not (test n))
not-all_below zero test = refl
not-all_below (suc bound) test =
    elim (test bound)
    as (λ b. not (b && all_below bound test) ≡ (not b || some_below bound (λ n. not (test n))))
    [ true ↦ not-all_below bound test | false ↦ refl ]

pub not-some_below : (bound : ℕ) (test : ℕ → Bool) →
    not (some_below bound test) ≡ all_below bound (λ n. not (test n))
not-some_below zero test = refl
not-some_below (suc bound) test =
    elim (test bound)
    as (λ b. not (b || some_below bound test) ≡ (not b && all_below bound (λ n. not (test n))))
    [ true ↦ refl | false ↦ not-some_below bound test ]

-- a test of the items' images is a test of the items
pub list_any-map : {A B : Type 0} (test : B → Bool) (image : A → B) (items : List A) →
    list_any test (map image items) ≡ list_any (λ item. test (image item)) items
list_any-map test image [] = refl
list_any-map test image (item ∷ items) =
    ap (λ b. test (image item) || b) (list_any-map test image items)

-- tests that agree below the bound

pub all_below-same : (bound : ℕ) (test other : ℕ → Bool) →
    ((n : ℕ) → n < bound → test n ≡ other n) → all_below bound test ≡ all_below bound other
all_below-same zero test other same = refl
all_below-same (suc bound) test other same =
    ap (λ b. b && all_below bound test) (same bound (omega arith))
    ∙ ap (λ b. other bound && b)
    (all_below-same bound test other (λ n within. same n (omega arith)))

pub some_below-same : (bound : ℕ) (test other : ℕ → Bool) →
    ((n : ℕ) → n < bound → test n ≡ other n) → some_below bound test ≡ some_below bound other
some_below-same zero test other same = refl
some_below-same (suc bound) test other same =
    ap (λ b. b || some_below bound test) (same bound (omega arith))
    ∙ ap (λ b. other bound || b)
    (some_below-same bound test other (λ n within. same n (omega arith)))
