-- The first entry over a bound that is the same for all.
use Rattle.std.proofs.Common.{◌≡◌, ℕ, suc, ◌+◌, ◌≤◌, ◌<◌, List, ◌∷◌, length, drop, get_or, Option, Some}
use Rattle.std.proofs.Common.{Bool, None, refl, ap, ◌∙◌, drop-cons, lt-ltb, le-ltb}
use Rattle.std.specs.Prelude.{if◌then◌else◌, ltb}
use Rattle.std.proofs.lemmas.List.{drop_all}
use Rattle.model_tables.specs.Faults.{first_over}

module _ (bound : ℕ) (entries : List ℕ) (k i : ℕ) where
  split : k < length entries → first_over (λ _. bound) i (drop k entries)
      ≡ (if ltb (get_or entries k 0) bound
      then first_over (λ _. bound) (suc i) (drop (suc k) entries) else Some (get_or entries k 0))
  split within = ap (first_over (λ _. bound) i) (drop-cons entries k 0 within)

  pub first_over-here : k < length entries → bound ≤ get_or entries k 0
      → first_over (λ _. bound) i (drop k entries) ≡ Some (get_or entries k 0)
  first_over-here within over =
      split within
      ∙ ap (λ b. if b then first_over (λ _. bound) (suc i) (drop (suc k) entries)
      else Some (get_or entries k 0)) (le-ltb (get_or entries k 0) bound over)

  pub first_over-next : k < length entries → get_or entries k 0 < bound
      → first_over (λ _. bound) i (drop k entries)
      ≡ first_over (λ _. bound) (suc i) (drop (suc k) entries)
  first_over-next within below =
      split within
      ∙ ap (λ b. if b then first_over (λ _. bound) (suc i) (drop (suc k) entries)
      else Some (get_or entries k 0)) (lt-ltb (get_or entries k 0) bound below)

  pub first_over-end : length entries ≤ k → first_over (λ _. bound) i (drop k entries) ≡ None
  first_over-end past = ap (first_over (λ _. bound) i) (drop_all k entries past)
