-- Facts of each item of lists, and of joined lists.
use Rattle.std.specs.Prelude.{zero, suc, List, [], ◌∷◌, ◌++◌, map}
use Rattle.std.specs.List.{AllByRecursion, Contains}
use Rattle.std.proofs.Common.{refl, arith}
use Rattle.tf_core.specs.Sorts.{joined}

module _ {A : Type 0} where
  pub all-same : (P Q : A → Type 0) → ((item : A) → P item → Q item) → (items : List A) →
      AllByRecursion P items → AllByRecursion Q items
  all-same P Q gives [] all = tt
  all-same P Q gives (item ∷ items) all = (gives item all.0, all-same P Q gives items all.1)

  pub all-front : (P : A → Type 0) (items others : List A) → AllByRecursion P (items ++ others) →
      AllByRecursion P items
  all-front P [] others all = tt
  all-front P (item ∷ items) others all = (all.0, all-front P items others all.1)

  pub all-back : (P : A → Type 0) (items others : List A) → AllByRecursion P (items ++ others) →
      AllByRecursion P others
  all-back P [] others all = all
  all-back P (item ∷ items) others all = all-back P items others all.1

  pub all-append : (P : A → Type 0) (items others : List A) → AllByRecursion P items →
      AllByRecursion P others → AllByRecursion P (items ++ others)
  all-append P [] others first second = second
  all-append P (item ∷ items) others first second =
      (first.0, all-append P items others first.1 second)

  -- each item of each list
  pub all-joined : {B : Type 0} (P : A → Type 0) (list_of : B → List A) (items : List B) →
      AllByRecursion (λ item. AllByRecursion P (list_of item)) items →
      AllByRecursion P (joined (map list_of items))
  all-joined P list_of [] all = tt
  all-joined P list_of (item ∷ items) all =
      all-append P (list_of item) (joined (map list_of items)) all.0
      (all-joined P list_of items all.1)

  pub all-parted : {B : Type 0} (P : A → Type 0) (list_of : B → List A) (items : List B) →
      AllByRecursion P (joined (map list_of items)) →
      AllByRecursion (λ item. AllByRecursion P (list_of item)) items
  all-parted P list_of [] all = tt
  all-parted P list_of (item ∷ items) all = (
    all-front P (list_of item) (joined (map list_of items)) all,
    all-parted P list_of items (all-back P (list_of item) (joined (map list_of items)) all),
  )

  pub Contains-behind : (item other : A) (items : List A) → Contains items other →
      Contains (item ∷ items) other
  Contains-behind item other items at = let within = at.1 in (suc at.0, omega (arith, within), at.2)

  -- what holds of all that a list contains
  pub all-contained : (P : A → Type 0) (items : List A) →
      ((item : A) → Contains items item → P item) → AllByRecursion P items
  all-contained P [] each = tt
  all-contained P (item ∷ items) each = (
    each item (zero, omega arith, refl),
    all-contained P items (λ other at. each other (Contains-behind item other items at)),
  )
