-- The first item of a list for which something fails is one item.
use Rattle.std.proofs.Common.{◌≡◌, ℕ, zero, suc, ◌<◌, List, [], ◌∷◌, length, take, slice_get, Some, refl, subst, arith, inl, inr}
use Rattle.std.specs.List.{AllByRecursion}
use Rattle.std.proofs.lemmas.Bool.{cases_order}

-- an index below the length has an item
pub item_at : {A : Type 0} (items : List A) (i : ℕ) → i < length items →
    (item : A) × (slice_get items i ≡ Some item)
item_at [] i within = absurd (omega (arith, within))
item_at (item ∷ items) zero within = (item, refl)
item_at (item ∷ items) (suc i) within = item_at items i (omega (arith, within))

module _ {A : Type 0} (P : A → Type 0) where
  -- an item among the first, which all have P
  among_first : (items : List A) (i j : ℕ) (item : A) → AllByRecursion P (take j items) →
      slice_get items i ≡ Some item → i < j → P item
  among_first [] i j item all at below = cc
  among_first (first ∷ items) i zero item all at below = absurd (omega (arith, below))
  among_first (first ∷ items) zero (suc j) item all at below =
      let same : first ≡ item = cc in subst P same all.0
  among_first (first ∷ items) (suc i) (suc j) item all at below =
      among_first items i j item all.1 at (omega (arith, below))

  abbrev FailsAt : List A → ℕ → Type 0
  FailsAt items i = (item : A) → slice_get items i ≡ Some item → P item → ⊥

  not_among_first : (items : List A) (i j : ℕ) → FailsAt items i → i < length items →
      AllByRecursion P (take j items) → i < j → ⊥
  not_among_first items i j fails within all below =
      let found = item_at items i within in
      fails found.0 found.1 (among_first items i j found.0 all found.1 below)

  pub one_first : (items : List A) (i j : ℕ) → FailsAt items i → FailsAt items j →
      i < length items → j < length items → AllByRecursion P (take i items) →
      AllByRecursion P (take j items) → i ≡ j
  one_first items i j fails others within inside all more =
      elim (cases_order i j) [
        | inl same ↦ same
        | inr apart ↦ elim apart [
          | inl below ↦ absurd (not_among_first items i j fails within more below)
          | inr above ↦ absurd (not_among_first items j i others inside all above)
        ]
      ]

  -- where it holds of all items it fails at none
  pub none_fails : (items : List A) (i : ℕ) → FailsAt items i → i < length items →
      AllByRecursion P items → ⊥
  none_fails [] i fails within all = absurd (omega (arith, within))
  none_fails (first ∷ items) zero fails within all = fails first refl all.0
  none_fails (first ∷ items) (suc i) fails within all =
      none_fails items i fails (omega (arith, within)) all.1
