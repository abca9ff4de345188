-- Tuples of numbers in which only some parts vary.
use Rattle.std.specs.Prelude.{ℕ, zero, suc, ◌≡◌, ◌<◌, ◌≤◌, ◌+◌, ◌*◌, ◌^◌, Bool, true, false, cond, List, [], ◌∷◌, length, replicate, drop, get_or}
use Rattle.std.proofs.Common.{refl, sym, ap, subst, ◌∙◌, arith}
use Rattle.enc_base.specs.Tables.{EachBelow, tuple_count, place}
use Rattle.tf_core.specs.Occurrences.{AgreeWhere}
use Rattle.tf_models.specs.Search.{bounds_where}

-- bounds

pub length-bounds_where : (bound count : ℕ) (varies : ℕ → Bool) →
    length (bounds_where bound varies count) ≡ count
length-bounds_where bound zero varies = refl
length-bounds_where bound (suc count) varies =
    ap suc (length-bounds_where bound count (λ i. varies (suc i)))

pub bounds_where-at : (bound count : ℕ) (varies : ℕ → Bool) (i : ℕ) → i < count →
    get_or (bounds_where bound varies count) i 0 ≡ cond (varies i) bound 1
bounds_where-at bound zero varies i within = absurd (omega arith)
bounds_where-at bound (suc count) varies zero within = refl
bounds_where-at bound (suc count) varies (suc i) within =
    bounds_where-at bound count (λ j. varies (suc j)) i (omega arith)

-- a part that may be raised, and one that may not
module _ (bound count : ℕ) (varies : ℕ → Bool) (i : ℕ) (within : i < count) (value : ℕ) where
  abbrev here : ℕ
  here = get_or (bounds_where bound varies count) i 0

  at : here ≡ cond (varies i) bound 1
  at = bounds_where-at bound count varies i within

  pub varying_higher : varies i ≡ true → value + 1 < bound → value + 1 < here
  varying_higher is higher =
      subst (λ n. value + 1 < n) (sym (at ∙ ap (λ b. cond b bound 1) is)) higher

  pub fixed_full : varies i ≡ false → here ≤ value + 1
  fixed_full is = omega (arith, at ∙ ap (λ b. cond b bound 1) is)

  pub varying_full : bound ≤ value + 1 → here ≤ value + 1
  varying_full full = subst (λ n. n ≤ value + 1) (sym at) (go (varies i))
    where
      go : (b : Bool) → cond b bound 1 ≤ value + 1
      go true = full
      go false = omega arith

  pub varying_small : value < here → bound < 2 ^ 32 → value + 1 < 2 ^ 32
  varying_small below few = go (varies i) (subst (λ n. value < n) at below)
    where
      go : (b : Bool) → value < cond b bound 1 → value + 1 < 2 ^ 32
      go true inside = omega (arith, inside, few)
      go false inside = omega (arith, inside)

-- behind the last part that varies there is one tuple
pub tuple_count-used : (bound count used : ℕ) (varies : ℕ → Bool) →
    ((i : ℕ) → used ≤ i → i < count → varies i ≡ false) →
    tuple_count (drop used (bounds_where bound varies count)) ≡ 1
tuple_count-used bound zero zero varies none = refl
tuple_count-used bound zero (suc used) varies none = refl
tuple_count-used bound (suc count) zero varies none =
    let first : cond (varies 0) bound 1 ≡ 1 =
    ap (λ b. cond b bound 1) (none 0 (omega arith) (omega arith)) in
    omega (
      arith,
      ap (λ n. n * tuple_count (bounds_where bound (λ i. varies (suc i)) count)) first,
      tuple_count-used bound count zero (λ i. varies (suc i))
          (λ i from within. none (suc i) (omega arith) (omega arith)),
    )
tuple_count-used bound (suc count) (suc used) varies none =
    tuple_count-used bound count used (λ i. varies (suc i))
    (λ i from within. none (suc i) (omega arith) (omega arith))

-- tuples

pub varying_first : (bound count : ℕ) (varies : ℕ → Bool) → 0 < bound →
    EachBelow (bounds_where bound varies count) (replicate count 0)
varying_first bound zero varies some = tt
varying_first bound (suc count) varies some =
    (positive (varies 0), varying_first bound count (λ i. varies (suc i)) some)
  where
    positive : (b : Bool) → 0 < cond b bound 1
    positive true = some
    positive false = omega arith

pub place-first : (bounds : List ℕ) (count : ℕ) → place bounds (replicate count 0) ≡ 0
place-first [] count = refl
place-first (bound ∷ bounds) zero = refl
place-first (bound ∷ bounds) (suc count) = omega (arith, place-first bounds count)

-- each is a tuple of which all parts may vary
pub varying_below : (bound count : ℕ) (varies : ℕ → Bool) (values : List ℕ) → 0 < bound →
    EachBelow (bounds_where bound varies count) values → EachBelow (replicate count bound) values
varying_below bound zero varies [] some below = tt
varying_below bound zero varies (value ∷ values) some below = absurd below
varying_below bound (suc count) varies [] some below = absurd below
varying_below bound (suc count) varies (value ∷ values) some below =
    (wider (varies 0) below.0, varying_below bound count (λ i. varies (suc i)) values some below.1)
  where
    wider : (b : Bool) → value < cond b bound 1 → value < bound
    wider true within = within
    wider false within = omega (arith, within)

-- the parts that don't vary put to 0
abbrev pub kept_where : (ℕ → Bool) → List ℕ → List ℕ
kept_where varies [] = []
kept_where varies (value ∷ values) =
    cond (varies 0) value 0 ∷ kept_where (λ i. varies (suc i)) values

pub kept_below : (bound count : ℕ) (varies : ℕ → Bool) (values : List ℕ) →
    EachBelow (replicate count bound) values →
    EachBelow (bounds_where bound varies count) (kept_where varies values)
kept_below bound zero varies [] below = tt
kept_below bound zero varies (value ∷ values) below = absurd below
kept_below bound (suc count) varies [] below = absurd below
kept_below bound (suc count) varies (value ∷ values) below =
    (inside (varies 0), kept_below bound count (λ i. varies (suc i)) values below.1)
  where
    inside : (b : Bool) → cond b value 0 < cond b bound 1
    inside true = below.0
    inside false = omega arith

pub kept_agrees : (varies : ℕ → Bool) (values : List ℕ) →
    AgreeWhere varies values (kept_where varies values)
kept_agrees varies [] i is = refl
kept_agrees varies (value ∷ values) zero is = sym (ap (λ b. cond b value 0) is)
kept_agrees varies (value ∷ values) (suc i) is = kept_agrees (λ j. varies (suc j)) values i is
