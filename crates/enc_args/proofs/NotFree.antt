-- Of several sorts none with a naked place is free, and a sort that stands alone is.
use Rattle.std.specs.Prelude.{ℕ, ◌≡◌, Bool, true, false, not, ◌||◌, List, [], ◌∷◌, ◌++◌, map, cond, eqb, filter, length, slice_get, Option, Some, None, IsTrue}
use Rattle.std.specs.List.{AllByRecursion, list_any}
use Rattle.std.proofs.Common.{refl, ap, ◌∙◌, subst, arith, ⊎_elim, append_assoc}
use Rattle.std.proofs.lemmas.Bool.{or_left, or_right, or_cases, false≢true}
use Rattle.tf_core.specs.declared.ty.Ty.{Ty}
use Rattle.tf_core.specs.declared.normal.Normal.{Normal}
use Rattle.tf_core.specs.Sorts.{sorts}
use Rattle.tf_core.specs.Sound.{IsSoundNormal, is_monomorphic}
use Rattle.tf_core.specs.Types.{same_type}
use Rattle.tf_core.proofs.Typed.{same_type-self}
use Rattle.tf_naked.specs.declared.place.Place.{Place}
use Rattle.tf_naked.specs.Naked.{NakedPlace, naked_places, first_naked, is_naked_type, is_only, is_free}
use Rattle.tf_naked.proofs.NakedTypes.{naked_sorts}
use Rattle.enc_marks.specs.Applies.{first_not_free}
use Rattle.enc_laws.proofs.SoundNormal.{normal_typed}

-- ---- naked places have naked types

there : (before : List NakedPlace) (naked : NakedPlace) (places : List NakedPlace) →
    IsTrue (list_any (λ one. same_type naked.ty one.ty) (before ++ naked ∷ places))
there [] naked places = or_left _ _ (same_type-self naked.ty)
there (one ∷ before) naked places =
    or_right (same_type naked.ty one.ty) _ (there before naked places)

held : (before places all : List NakedPlace) → before ++ places ≡ all →
    AllByRecursion (λ naked. IsTrue (list_any (λ one. same_type naked.ty one.ty) all)) places
held before [] all is = tt
held before (naked ∷ places) all is = (
  subst (λ list. IsTrue (list_any (λ one. same_type naked.ty one.ty) list)) is
      (there before naked places),
  held (before ++ naked ∷ []) places all (append_assoc before (naked ∷ []) places ∙ is),
)

module _ (normal : Normal) (sound : IsSoundNormal normal) where
  places_naked : AllByRecursion (λ naked. IsTrue (is_naked_type normal naked.ty))
      (naked_places normal)
  places_naked = held [] (naked_places normal) (naked_places normal) refl

  -- ---- a sort that stands alone

  alone : (types : List Ty) (ty : Ty) → length types ≡ 1 → IsTrue (list_any (same_type ty) types) →
      IsTrue (is_only ty types)
  alone [] ty one is = cc
  alone (sort ∷ []) ty one is = ⊎_elim (λ same. same) (λ never. absurd (false≢true never))
      (or_cases (same_type ty sort) false is)
  alone (sort ∷ other ∷ types) ty one is = absurd (omega (arith, one))

  only_free : (ty : Ty) → length (sorts normal) ≡ 1 → IsTrue (is_naked_type normal ty) →
      is_free normal ty ≡ true
  unfolding is_free
  only_free ty one naked =
      or_right (not (is_naked_type normal ty)) _
      (alone (sorts normal) ty one (naked_sorts normal ty (normal_typed normal sound) naked))

  none_left : (places : List NakedPlace) → length (sorts normal) ≡ 1 →
      AllByRecursion (λ naked. IsTrue (is_naked_type normal naked.ty)) places →
      filter (λ naked. not (is_free normal naked.ty)) places ≡ []
  none_left [] one are = refl
  none_left (naked ∷ places) one are =
      ap (λ b. cond (not b) (naked ∷ filter (λ one. not (is_free normal one.ty)) places)
      (filter (λ one. not (is_free normal one.ty)) places)) (only_free naked.ty one are.0)
      ∙ none_left places one are.1

  pub alone_taken : length (sorts normal) ≡ 1 → first_not_free normal ≡ None
  alone_taken one =
      ap (λ places. slice_get (map (λ (naked : NakedPlace). naked.place) places) 0)
      (none_left (naked_places normal) one places_naked)

  -- ---- several sorts

  not_alone : (types : List Ty) (ty : Ty) → (length types ≡ 1 → ⊥) → is_only ty types ≡ false
  not_alone [] ty several = refl
  not_alone (sort ∷ []) ty several = absurd (several refl)
  not_alone (sort ∷ other ∷ types) ty several = refl

  not_free : (ty : Ty) → (length (sorts normal) ≡ 1 → ⊥) → IsTrue (is_naked_type normal ty) →
      is_free normal ty ≡ false
  unfolding is_free
  not_free ty several naked =
      ap (λ b. not b || is_only ty (sorts normal)) naked ∙ not_alone (sorts normal) ty several

  first_by : (places : List NakedPlace) → (length (sorts normal) ≡ 1 → ⊥) →
      AllByRecursion (λ naked. IsTrue (is_naked_type normal naked.ty)) places →
      slice_get (map (λ (naked : NakedPlace). naked.place)
      (filter (λ naked. not (is_free normal naked.ty)) places)) 0
      ≡ slice_get (map (λ (naked : NakedPlace). naked.place) places) 0
  first_by [] several are = refl
  first_by (naked ∷ places) several are =
      ap (λ b. slice_get (map (λ (one : NakedPlace). one.place)
      (cond (not b) (naked ∷ filter (λ one. not (is_free normal one.ty)) places)
      (filter (λ one. not (is_free normal one.ty)) places))) 0)
      (not_free naked.ty several are.0)

  pub first_of_several : (length (sorts normal) ≡ 1 → ⊥) →
      first_not_free normal ≡ first_naked normal
  first_of_several several = first_by (naked_places normal) several places_naked

  -- where no place is naked
  pub none_refused : first_naked normal ≡ None → first_not_free normal ≡ None
  none_refused none = none_by (naked_places normal) none
    where
      none_by : (places : List NakedPlace) →
          slice_get (map (λ (naked : NakedPlace). naked.place) places) 0 ≡ None →
          slice_get (map (λ (naked : NakedPlace). naked.place)
          (filter (λ naked. not (is_free normal naked.ty)) places)) 0 ≡ None
      none_by [] none = refl
      none_by (naked ∷ places) none = cc
