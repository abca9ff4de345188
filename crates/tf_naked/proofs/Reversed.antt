-- A stack seen from its last item: what a write to an item is there.
use Rattle.std.specs.Prelude.{ℕ, ◌-◌, ◌<◌, ◌≤◌, ◌≡◌, true, List, length, reverse, get_or, set, eqb}
use Rattle.std.proofs.Common.{sym, ap, subst, ◌∙◌, arith}
use Rattle.std.proofs.lemmas.List.{ext_get_or, length-set, length-reverse, get_or-reverse, get_or-set_same, get_or-set_other, set_past}
use Rattle.tf_naked.specs.declared.binder.Binder.{Binder}
use Rattle.tf_naked.specs.declared.position.Position.{Position}
use Rattle.tf_naked.specs.Calls.Noted.{unused, either, noted, uses_of_variable}
use Rattle.tf_naked.proofs.Noted.{noted-one}

reverse-set : {A : Type 0} (items : List A) (i : ℕ) (item : A) → i < length items →
    reverse (set items (length items - 1 - i) item) ≡ set (reverse items) i item
reverse-set items i item within =
    ext_get_or item _ _
    (length-reverse _ ∙ length-set _ _ _ ∙ sym (length-set _ _ _ ∙ length-reverse items))
    (λ k below. grind (
      arith,
      get_or-reverse,
      get_or-set_same,
      get_or-set_other,
      length-set,
      length-reverse,
    ))

pub reverse-noted : (items : List Binder) (count i : ℕ) (position : Position)
    (binder changed : Binder) → count ≡ length items → i < count →
    binder ≡ get_or items (count - 1 - i) binder →
    changed ≡ either binder (uses_of_variable position true) →
    reverse (set items (count - 1 - i) changed)
    ≡ noted (λ j. uses_of_variable position (eqb i j)) (reverse items)
reverse-noted items count i position binder changed counts within is changes =
    ap (λ n. reverse (set items (n - 1 - i) changed)) counts
    ∙ reverse-set items i changed (subst (λ n. i < n) counts within)
    ∙ ap (set (reverse items) i)
    (changes ∙ ap (λ x. either x (uses_of_variable position true)) found)
    ∙ sym (noted-one position i (reverse items) binder)
  where
    found : binder ≡ get_or (reverse items) i binder
    found =
        is
        ∙ ap (λ n. get_or items (n - 1 - i) binder) counts
        ∙ sym (get_or-reverse items i binder (subst (λ n. i < n) counts within))

pub reverse-not_noted : (items : List Binder) (count i : ℕ) (position : Position) →
    count ≡ length items → count ≤ i →
    reverse items ≡ noted (λ j. uses_of_variable position (eqb i j)) (reverse items)
reverse-not_noted items count i position counts beyond =
    sym (noted-one position i (reverse items) unused
    ∙ set_past (reverse items) i _ (omega (arith, counts, beyond, length-reverse items)))
