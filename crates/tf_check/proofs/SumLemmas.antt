-- Sums over lists, and what is said of each item of a list.
use Rattle.std.proofs.Common.{◌≡◌, ℕ, zero, suc, ◌+◌, ◌≤◌, Bool, true, false, List, [], ◌∷◌, ◌++◌, length, map, filter, drop, sum, flat_map, refl, ap, ◌∙◌, arith, if◌then◌else◌}
use Rattle.std.specs.List.{AllByRecursion}
use Rattle.std.proofs.lemmas.List.{map-append}
use Rattle.std.proofs.lemmas.List.Sums.{sum_by-cons, sum_by-append}

pub sum-cons : (n : ℕ) (ns : List ℕ) → sum (n ∷ ns) ≡ n + sum ns
sum-cons n ns = sum_by-cons (λ k. k) n ns

pub sum-append : (ms ns : List ℕ) → sum (ms ++ ns) ≡ sum ms + sum ns
sum-append ms ns = sum_by-append (λ k. k) ms ns

module _ {A : Type 0} (f : A → ℕ) where
  -- the sum of what the items count for
  abbrev pub total : List A → ℕ
  total xs = sum (map f xs)

  pub total-cons : (x : A) (xs : List A) → total (x ∷ xs) ≡ f x + total xs
  total-cons x xs = sum-cons (f x) (map f xs)

  pub total-append : (xs ys : List A) → total (xs ++ ys) ≡ total xs + total ys
  total-append xs ys = ap sum (map-append f xs ys) ∙ sum-append (map f xs) (map f ys)

  total-kept : (keep : Bool) (x : A) (kept xs : List A) → total kept ≤ total xs →
      total (if keep then x ∷ kept else kept) ≤ total (x ∷ xs)
  total-kept true x kept xs less = omega (arith, total-cons x kept, total-cons x xs)
  total-kept false x kept xs less = omega (arith, total-cons x xs)

  -- a part of a list counts for no more than the list
  pub total-filter : (test : A → Bool) (xs : List A) → total (filter test xs) ≤ total xs
  total-filter test [] = omega arith
  total-filter test (x ∷ xs) = total-kept (test x) x (filter test xs) xs (total-filter test xs)

  -- each item counts for no more than the list
  pub each_within : (bound : ℕ) (xs : List A) → total xs ≤ bound →
      AllByRecursion (λ x. f x ≤ bound) xs
  each_within bound [] within = tt
  each_within bound (x ∷ xs) within =
      let whole : total (x ∷ xs) ≡ f x + total xs = total-cons x xs in
      let first : f x ≤ bound = omega arith in
      (first, each_within bound xs (omega (arith, whole)))

pub total-map : {A B : Type 0} (weigh : B → ℕ) (f : A → B) (xs : List A) →
    total weigh (map f xs) ≡ total (λ x. weigh (f x)) xs
total-map weigh f [] = refl
total-map weigh f (x ∷ xs) =
    omega (
      arith,
      total-map weigh f xs,
      total-cons weigh (f x) (map f xs),
      total-cons (λ y. weigh (f y)) x xs,
    )

-- where each item counts for more, so does the list
pub total-le : {A : Type 0} (f g : A → ℕ) (xs : List A) → AllByRecursion (λ x. f x ≤ g x) xs →
    total f xs ≤ total g xs
total-le f g [] each = omega arith
total-le f g (x ∷ xs) each =
    let less : total f xs ≤ total g xs = total-le f g xs each.1 in
    let first : f x ≤ g x = each.0 in
    omega (arith, total-cons f x xs, total-cons g x xs)

pub total-le_all : {A : Type 0} (f g : A → ℕ) → ((x : A) → f x ≤ g x) → (xs : List A) →
    total f xs ≤ total g xs
total-le_all f g less [] = omega arith
total-le_all f g less (x ∷ xs) =
    let rest : total f xs ≤ total g xs = total-le_all f g less xs in
    let first : f x ≤ g x = less x in
    omega (arith, total-cons f x xs, total-cons g x xs)

-- a list counts for no less than its length, where each item counts for one at least
pub length-le_total : {A : Type 0} (f : A → ℕ) → ((x : A) → 1 ≤ f x) → (xs : List A) →
    length xs ≤ total f xs
length-le_total f some [] = omega arith
length-le_total f some (x ∷ xs) =
    let rest : length xs ≤ total f xs = length-le_total f some xs in
    let first : 1 ≤ f x = some x in
    omega (arith, total-cons f x xs)

-- what stands behind the first items counts for no more than the whole
pub total-flat_map-drop : {A X : Type 0} (f : A → ℕ) (list : X → List A) (k : ℕ) (xs : List X) →
    total f (flat_map list (drop k xs)) ≤ total f (flat_map list xs)
total-flat_map-drop f list zero xs = omega arith
total-flat_map-drop f list (suc k) [] = omega arith
total-flat_map-drop f list (suc k) (x ∷ xs) =
    let rest : total f (flat_map list (drop k xs)) ≤ total f (flat_map list xs) =
    total-flat_map-drop f list k xs in
    omega (arith, total-append f (list x) (flat_map list xs))

-- what holds of each item

pub all-map : {A B : Type 0} (f : A → B) (P : B → Type 0) (xs : List A) →
    AllByRecursion (λ x. P (f x)) xs → AllByRecursion P (map f xs)
all-map f P [] all = tt
all-map f P (x ∷ xs) all = (all.0, all-map f P xs all.1)

pub all-follow : {A : Type 0} (P Q : A → Type 0) → ((x : A) → P x → Q x) → (xs : List A) →
    AllByRecursion P xs → AllByRecursion Q xs
all-follow P Q follows [] all = tt
all-follow P Q follows (x ∷ xs) all = (follows x all.0, all-follow P Q follows xs all.1)

pub all-both : {A : Type 0} (P Q : A → Type 0) (xs : List A) → AllByRecursion P xs →
    AllByRecursion Q xs → AllByRecursion (λ x. P x × Q x) xs
all-both P Q [] one other = tt
all-both P Q (x ∷ xs) one other = ((one.0, other.0), all-both P Q xs one.1 other.1)
