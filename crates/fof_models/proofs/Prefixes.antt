-- Prefixes of quantifiers, with one more.
use Rattle.std.specs.Prelude.{ℕ, zero, suc, ◌≡◌, ◌≢◌, ◌<◌, ◌≤◌, ◌+◌, ◌-◌, ◌^◌, ◌↔◌, Bool, IsTrue}
use Rattle.std.specs.Fn.{iterate}
use Rattle.std.proofs.Common.{refl, sym, ap, ◌∙◌, arith}
use Rattle.fof_models.specs.declared.formula.Fof.{Fof, size-Fof, out-Fof}
use Rattle.fof_models.specs.declared.formula.Fof.TheVariants.{ForAll, Exists}
use Rattle.fof_models.specs.declared.formula.Fof.TheViews.{sized-ForAll, sized-Exists, outs-ForAll, outs-Exists}
use Rattle.fof_models.specs.declared.formula.Fof.TheOpen as layer
use Rattle.fof_models.specs.Prefix.{under_universals, under_existentials}

-- a function applied once more

pub iterate-suc : {A : Type 0} (f : A → A) (count : ℕ) (x : A) →
    f (iterate f count x) ≡ iterate f (suc count) x
iterate-suc f zero x = refl
iterate-suc f (suc count) x = iterate-suc f count (f x)

iterate-outside : {A : Type 0} (f : A → A) (count : ℕ) (x : A) →
    f (iterate f count x) ≡ iterate f (count + 1) x
iterate-outside f count x =
    let next : suc count ≡ count + 1 = omega arith in
    iterate-suc f count x ∙ ap (λ n. iterate f n x) next

iterate-inside : {A : Type 0} (f : A → A) (count : ℕ) (x : A) →
    iterate f count (f x) ≡ iterate f (count + 1) x
iterate-inside f count x =
    let next : suc count ≡ count + 1 = omega arith in
    ap (λ n. iterate f n x) next

-- what a function makes of a formula it makes of one under binders that it passes by, or keeps

iterate-commutes : {A B : Type 0} (f : A → A) (h : B → B) (g : A → B) →
    ((x : A) → g (f x) ≡ h (g x)) → (count : ℕ) (x : A) →
    g (iterate f count x) ≡ iterate h count (g x)
iterate-commutes f h g step zero x = refl
iterate-commutes f h g step (suc count) x =
    iterate-commutes f h g step count (f x) ∙ ap (iterate h count) (step x)

iterate-passed : {A B : Type 0} (f : A → A) (g : A → B) → ((x : A) → g (f x) ≡ g x) →
    (count : ℕ) (x : A) → g (iterate f count x) ≡ g x
iterate-passed f g step zero x = refl
iterate-passed f g step (suc count) x = iterate-passed f g step count (f x) ∙ step x

-- universal quantifiers

-- the formula below is less deep
pub size-for_all : (body : Fof) → size-Fof body < size-Fof (ForAll body)
size-for_all body = omega (arith, sized-ForAll body)

pub under_universals-none : (body : Fof) → under_universals 0 body ≡ body
unfolding under_universals
under_universals-none body = refl

pub under_universals-outside : (count : ℕ) (body : Fof) →
    ForAll (under_universals count body) ≡ under_universals (count + 1) body
unfolding under_universals
under_universals-outside count body = iterate-outside (λ p. ForAll p) count body

pub under_universals-inside : (count : ℕ) (body : Fof) →
    under_universals count (ForAll body) ≡ under_universals (count + 1) body
unfolding under_universals
under_universals-inside count body = iterate-inside (λ p. ForAll p) count body

pub under_universals-commutes : {B : Type 0} (h : B → B) (g : Fof → B) →
    ((body : Fof) → g (ForAll body) ≡ h (g body)) → (count : ℕ) (body : Fof) →
    g (under_universals count body) ≡ iterate h count (g body)
unfolding under_universals
under_universals-commutes h g step count body =
    iterate-commutes (λ p. ForAll p) h g step count body

pub under_universals-passed : {B : Type 0} (g : Fof → B) →
    ((body : Fof) → g (ForAll body) ≡ g body) → (count : ℕ) (body : Fof) →
    g (under_universals count body) ≡ g body
unfolding under_universals
under_universals-passed g step count body = iterate-passed (λ p. ForAll p) g step count body

-- one more at the head of a whole, as code finds it

pub universals_more : (whole below body : Fof) (count : ℕ) → whole ≡ under_universals count below →
    below ≡ ForAll body → whole ≡ under_universals (count + 1) body
universals_more whole below body count so_far is =
    so_far ∙ ap (under_universals count) is ∙ under_universals-inside count body

pub universals_deeper : (whole below body : Fof) → size-Fof below ≤ size-Fof whole →
    below ≡ ForAll body → size-Fof body ≤ size-Fof whole
universals_deeper whole below body so_far is =
    omega (arith, so_far, ap size-Fof is, size-for_all body)

-- existential quantifiers

pub size-exists : (body : Fof) → size-Fof body < size-Fof (Exists body)
size-exists body = omega (arith, sized-Exists body)

pub under_existentials-none : (body : Fof) → under_existentials 0 body ≡ body
unfolding under_existentials
under_existentials-none body = refl

pub under_existentials-outside : (count : ℕ) (body : Fof) →
    Exists (under_existentials count body) ≡ under_existentials (count + 1) body
unfolding under_existentials
under_existentials-outside count body = iterate-outside (λ p. Exists p) count body

pub under_existentials-inside : (count : ℕ) (body : Fof) →
    under_existentials count (Exists body) ≡ under_existentials (count + 1) body
unfolding under_existentials
under_existentials-inside count body = iterate-inside (λ p. Exists p) count body

pub under_existentials-commutes : {B : Type 0} (h : B → B) (g : Fof → B) →
    ((body : Fof) → g (Exists body) ≡ h (g body)) → (count : ℕ) (body : Fof) →
    g (under_existentials count body) ≡ iterate h count (g body)
unfolding under_existentials
under_existentials-commutes h g step count body =
    iterate-commutes (λ p. Exists p) h g step count body

pub under_existentials-passed : {B : Type 0} (g : Fof → B) →
    ((body : Fof) → g (Exists body) ≡ g body) → (count : ℕ) (body : Fof) →
    g (under_existentials count body) ≡ g body
unfolding under_existentials
under_existentials-passed g step count body = iterate-passed (λ p. Exists p) g step count body

pub existentials_more : (whole below body : Fof) (count : ℕ) →
    whole ≡ under_existentials count below → below ≡ Exists body →
    whole ≡ under_existentials (count + 1) body
existentials_more whole below body count so_far is =
    so_far ∙ ap (under_existentials count) is ∙ under_existentials-inside count body

pub existentials_deeper : (whole below body : Fof) → size-Fof below ≤ size-Fof whole →
    below ≡ Exists body → size-Fof body ≤ size-Fof whole
existentials_deeper whole below body so_far is =
    omega (arith, so_far, ap size-Fof is, size-exists body)

-- whole prefixes are equal only where their counts and the formulas below them are

iterate-same : {A : Type 0} (f : A → A) → ((x y : A) → f x ≡ f y → x ≡ y) → (n m : ℕ) (a b : A) →
    (n < m → (x : A) → a ≢ f x) → (m < n → (x : A) → b ≢ f x) →
    iterate f n a ≡ iterate f m b → (n ≡ m) × (a ≡ b)
iterate-same f injective zero zero a b whole other_whole same = (refl, same)
iterate-same f injective zero (suc m) a b whole other_whole same =
    absurd (whole (omega arith) (iterate f m b) (same ∙ sym (iterate-suc f m b)))
iterate-same f injective (suc n) zero a b whole other_whole same =
    absurd (other_whole (omega arith) (iterate f n a) (sym same ∙ sym (iterate-suc f n a)))
iterate-same f injective (suc n) (suc m) a b whole other_whole same =
    let inner = iterate-same f injective n m a b (λ less. whole (omega arith))
    (λ less. other_whole (omega arith))
    (injective (iterate f n a) (iterate f m b)
    (iterate-suc f n a ∙ same ∙ sym (iterate-suc f m b))) in
    (ap suc inner.0, inner.1)

ForAll-injective : (p q : Fof) → ForAll p ≡ ForAll q → p ≡ q
ForAll-injective p q same =
    let outs : layer.ForAll p ≡ layer.ForAll q = sym (outs-ForAll p) ∙ ap out-Fof same ∙ outs-ForAll q in
    cc

Exists-injective : (p q : Fof) → Exists p ≡ Exists q → p ≡ q
Exists-injective p q same =
    let outs : layer.Exists p ≡ layer.Exists q = sym (outs-Exists p) ∙ ap out-Fof same ∙ outs-Exists q in
    cc

-- two formulas that begin with a quantifier, as code compares them: where the counts of those right
-- below are the same, the formulas are equal exactly where those below are, and elsewhere they differ
module _ (p q inner other a b : Fof) (n m : ℕ) (small : n < 2 ^ 32) (other_small : m < 2 ^ 32) where
  module _ (is : p ≡ ForAll inner) (other_is : q ≡ ForAll other)
      (whole : inner ≡ under_universals n a) (other_whole : other ≡ under_universals m b)
      (all : n < 2 ^ 32 - 1 → (body : Fof) → a ≢ ForAll body)
      (other_all : m < 2 ^ 32 - 1 → (body : Fof) → b ≢ ForAll body)
    where
      universals-same : p ≡ q → (n ≡ m) × (a ≡ b)
      unfolding under_universals
      universals-same same =
          iterate-same (λ x. ForAll x) ForAll-injective n m a b
          (λ less. all (omega arith)) (λ less. other_all (omega arith))
          (sym whole ∙ ForAll-injective inner other (sym is ∙ same ∙ other_is) ∙ other_whole)

      pub universals_agree : (held : Bool) → n ≡ m → (IsTrue held ↔ (a ≡ b)) → IsTrue held ↔ (p ≡ q)
      universals_agree held counts agree = (
        λ holds.
            let below = agree.0 holds in
            is ∙ ap (λ x. ForAll x)
            (whole ∙ ap (λ k. under_universals k a) counts ∙ ap (under_universals m) below
            ∙ sym other_whole)
            ∙ sym other_is,
        λ same. agree.1 (universals-same same).1,
      )

      pub universals_differ : n ≢ m → p ≢ q
      universals_differ differ same = differ (universals-same same).0

  module _ (is : p ≡ Exists inner) (other_is : q ≡ Exists other)
      (whole : inner ≡ under_existentials n a) (other_whole : other ≡ under_existentials m b)
      (all : n < 2 ^ 32 - 1 → (body : Fof) → a ≢ Exists body)
      (other_all : m < 2 ^ 32 - 1 → (body : Fof) → b ≢ Exists body)
    where
      existentials-same : p ≡ q → (n ≡ m) × (a ≡ b)
      unfolding under_existentials
      existentials-same same =
          iterate-same (λ x. Exists x) Exists-injective n m a b
          (λ less. all (omega arith)) (λ less. other_all (omega arith))
          (sym whole ∙ Exists-injective inner other (sym is ∙ same ∙ other_is) ∙ other_whole)

      pub existentials_agree : (held : Bool) → n ≡ m → (IsTrue held ↔ (a ≡ b)) →
          IsTrue held ↔ (p ≡ q)
      existentials_agree held counts agree = (
        λ holds.
            let below = agree.0 holds in
            is ∙ ap (λ x. Exists x)
            (whole ∙ ap (λ k. under_existentials k a) counts ∙ ap (under_existentials m) below
            ∙ sym other_whole)
            ∙ sym other_is,
        λ same. agree.1 (existentials-same same).1,
      )

      pub existentials_differ : n ≢ m → p ≢ q
      existentials_differ differ same = differ (existentials-same same).0
