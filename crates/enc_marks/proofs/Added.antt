-- Tests of numbers, as more and more numbers pass.
use Rattle.std.specs.Prelude.{ℕ, zero, suc, ◌≢◌, eqb, set, replicate, ◌≡◌, ◌+◌, ◌<◌, ◌||◌, Bool, true, false, List, ◌∷◌, [], ◌++◌, length, get_or, take}
use Rattle.std.specs.List.{list_any}
use Rattle.std.proofs.Common.{refl, sym, ap, ◌∙◌, ⊎_elim}
use Rattle.std.proofs.lemmas.Bool.{eq-eqb, ne_eqb, cases_eq}
use Rattle.std.proofs.lemmas.Grind.{get_or-set_at}
use Rattle.std.proofs.Math.Bool.{or_assoc}
use Rattle.std.proofs.lemmas.List.{take_more, get_or-set_other}
use Rattle.std.proofs.lemmas.List.Folds.{list_any-append}

-- the numbers that pass afterwards are those that did, and those that pass a test
abbrev pub Added : (ℕ → Bool) → (ℕ → Bool) → (ℕ → Bool) → Type 0
Added before after test = (m : ℕ) → after m ≡ (before m || test m)

or_none : (a : Bool) → a ≡ (a || false)
or_none true = refl
or_none false = refl

pub added-none : (before test : ℕ → Bool) → ((m : ℕ) → test m ≡ false) → Added before before test
added-none before test none = λ m. or_none (before m) ∙ ap (λ b. before m || b) (sym (none m))

pub added-same : (before after test same : ℕ → Bool) → Added before after test →
    ((m : ℕ) → same m ≡ test m) → Added before after same
added-same before after test same added is = λ m. added m ∙ ap (λ b. before m || b) (sym (is m))

pub added-both : (before between after test other both : ℕ → Bool) →
    Added before between test → Added between after other →
    ((m : ℕ) → both m ≡ (test m || other m)) → Added before after both
added-both before between after test other both first second is = λ m.
    second m ∙ ap (λ b. b || other m) (first m) ∙ or_assoc (before m) (test m) (other m)
    ∙ ap (λ b. before m || b) (sym (is m))

-- one item more of a list
pub added-more : {X : Type 0} (before between after : ℕ → Bool) (test : ℕ → X → Bool) (items : List X)
    (i : ℕ) (item : X) → i < length items →
    Added before between (λ m. list_any (test m) (take i items)) →
    Added between after (λ m. test m (get_or items i item)) →
    Added before after (λ m. list_any (test m) (take (i + 1) items))
added-more before between after test items i item within first second =
    added-both before between after _ _ _ first second (λ m.
    ap (list_any (test m)) (take_more items i item within)
    ∙ list_any-append (test m) (take i items) (get_or items i item ∷ [])
    ∙ ap (λ b. list_any (test m) (take i items) || b) (sym (or_none (test m (get_or items i item)))))

-- a flag that is raised
pub get_or-raised : (flags : List Bool) (m i : ℕ) → m < length flags →
    get_or (set flags m true) i false ≡ (get_or flags i false || eqb i m)
get_or-raised flags m i within = ⊎_elim here elsewhere (cases_eq i m)
  where
    here : i ≡ m → get_or (set flags m true) i false ≡ (get_or flags i false || eqb i m)
    here is = get_or-set_at flags m i true false is within
        ∙ or_right_true (get_or flags i false) ∙ ap (λ b. get_or flags i false || b) (sym (eq-eqb i m is))
      where
        or_right_true : (a : Bool) → true ≡ (a || true)
        or_right_true true = refl
        or_right_true false = refl

    elsewhere : i ≢ m → get_or (set flags m true) i false ≡ (get_or flags i false || eqb i m)
    elsewhere differs = get_or-set_other flags m i true false differs
        ∙ or_none (get_or flags i false) ∙ ap (λ b. get_or flags i false || b) (sym (ne_eqb i m differs))

-- flags that are followed by some that are down
pub get_or-grown : (flags : List Bool) (count i : ℕ) →
    get_or (flags ++ replicate count false) i false ≡ get_or flags i false
get_or-grown [] zero i = refl
get_or-grown [] (suc count) zero = refl
get_or-grown [] (suc count) (suc i) = get_or-grown [] count i
get_or-grown (flag ∷ flags) count zero = refl
get_or-grown (flag ∷ flags) count (suc i) = get_or-grown flags count i
