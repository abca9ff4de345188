-- The naked places of a problem: their types are those of its naked variables, and sorts.
use Rattle.std.specs.Prelude.{ℕ, ◌+◌, ◌≡◌, Bool, true, false, ◌&&◌, ◌||◌, List, [], ◌∷◌, map, slice_get, None, IsTrue}
use Rattle.std.specs.List.{AllByRecursion, list_any}
use Rattle.std.proofs.Common.{refl, sym, ap, subst, ◌∙◌, ⊎_elim}
use Rattle.std.proofs.lemmas.Bool.{or_left, or_right, or_cases, and_parts, false≢true}
use Rattle.std.proofs.lemmas.List.Folds.{list_any-append}
use Rattle.tf_core.specs.declared.ty.Ty.{Ty}
use Rattle.tf_core.specs.declared.nnf.Nnf.{Nnf}
use Rattle.tf_core.specs.declared.signature.Signature.{Signature}
use Rattle.tf_core.specs.declared.normal.NormalFormula.{NormalFormula}
use Rattle.tf_core.specs.declared.normal.Normal.{Normal}
use Rattle.tf_core.specs.Types.{same_type}
use Rattle.tf_core.specs.Typing.{IsNnf}
use Rattle.tf_core.specs.Sorts.{joined, binder_types}
use Rattle.tf_core.proofs.FormulaInduction.{nnf_induction}
use Rattle.tf_core.proofs.Typed.{same_type-says, same_type-self}
use Rattle.tf_naked.specs.declared.binder.Binder.{Binder}
use Rattle.tf_naked.specs.Binders.{binder_of, universal_binders}
use Rattle.tf_naked.specs.Standing.{is_naked}
use Rattle.tf_naked.specs.Naked.{equations_of, NakedPlace, naked_in_equations, naked_in_formulas, naked_places}
use Rattle.tf_naked.specs.Universals.{Universal, universals_of, is_naked_of}
use Rattle.tf_naked.specs.SortLaws.{IsSort, AreSorts}
use Rattle.tf_naked.specs.NakedLaws.{NoPlaceIsNaked, NakedVariablesHaveNakedTypes, NakedTypesAreSorts}
use Rattle.tf_naked.proofs.BinderTypes.{binder_types-and, binder_types-or, binder_types-for_all, binder_types-exists}
use Rattle.tf_naked.proofs.HeldTypes.{binder_sorts}
use Rattle.tf_naked.proofs.Universals.{told_binders, universals_of-true, universals_of-false, universals_of-atom, universals_of-equation, universals_of-and, universals_of-or, universals_of-for_all, universals_of-exists}
use Rattle.tf_naked.proofs.NakedVariables.{of_naked_variables}

-- ---- the types of a problem's naked places

abbrev AreTyped : Signature → List NormalFormula → Type 0
AreTyped g = AllByRecursion (λ formula. IsNnf g formula.type_variables [] formula.body)

-- whether a variable of the type is naked in some formula
abbrev naked_in : Signature → Ty → List NormalFormula → Bool
naked_in g ty =
    list_any (λ (formula : NormalFormula). list_any (is_naked_of g ty) (universals_of formula.body))

formulas_naked : (g : Signature) (ty : Ty) (number : ℕ) (formulas : List NormalFormula) →
    AreTyped g formulas →
    list_any (λ (naked : NakedPlace). same_type ty naked.ty) (naked_in_formulas number formulas)
    ≡ naked_in g ty formulas
formulas_naked g ty number [] typed = refl
formulas_naked g ty number (formula ∷ formulas) typed =
    list_any-append (λ (naked : NakedPlace). same_type ty naked.ty)
    (naked_in_equations number 0 (equations_of formula.body []))
    (naked_in_formulas (number + 1) formulas)
    ∙ ap (λ b. b || list_any (λ (naked : NakedPlace). same_type ty naked.ty)
    (naked_in_formulas (number + 1) formulas))
    (of_naked_variables g formula.type_variables number formula.body ty typed.0)
    ∙ ap (λ b. list_any (is_naked_of g ty) (universals_of formula.body) || b)
    (formulas_naked g ty (number + 1) formulas typed.1)

pub naked_types : NakedVariablesHaveNakedTypes
unfolding naked_places
naked_types normal ty typed =
    formulas_naked normal.signature ty 0 normal.formulas typed.formulas

-- ---- where no variable is naked

either_false : (a b : Bool) → (a || b) ≡ false → (a ≡ false) × (b ≡ false)
either_false true b none = absurd (false≢true (sym none))
either_false false b none = (refl, none)

unnaked : (naked same : Bool) → same ≡ true → (naked && same) ≡ false → naked ≡ false
unnaked true same is none = sym is ∙ none
unnaked false same is none = refl

module _ (g : Signature) where
  abbrev AreUnnaked : List Binder → Type 0
  AreUnnaked = AllByRecursion (λ (binder : Binder). binder.naked ≡ false)

  abbrev told : List Universal → List Binder
  told = map (λ (binder : Universal). binder_of g binder.body)

  unnaked_binders : (binders : List Universal) →
      ((ty : Ty) → list_any (is_naked_of g ty) binders ≡ false) → AreUnnaked (told binders)
  unnaked_binders [] none = tt
  unnaked_binders (binder ∷ binders) none = (
    unnaked (is_naked g binder.body) (same_type binder.ty binder.ty) (same_type-self binder.ty)
        (either_false (is_naked_of g binder.ty binder) (list_any (is_naked_of g binder.ty) binders)
        (none binder.ty)).0,
    unnaked_binders binders
        (λ ty. (either_false (is_naked_of g ty binder) (list_any (is_naked_of g ty) binders)
        (none ty)).1),
  )

  no_binder : (binders : List Universal) → AreUnnaked (told binders) → (ty : Ty) →
      list_any (is_naked_of g ty) binders ≡ false
  no_binder [] each ty = refl
  no_binder (binder ∷ binders) each ty =
      ap (λ b. (b && same_type ty binder.ty) || list_any (is_naked_of g ty) binders) each.0
      ∙ no_binder binders each.1 ty

  -- in each formula
  abbrev AllUnnaked : List NormalFormula → Type 0
  AllUnnaked = AllByRecursion (λ (formula : NormalFormula).
      AreUnnaked (universal_binders g formula.body))

  unnaked_formulas : (formulas : List NormalFormula) →
      ((ty : Ty) → naked_in g ty formulas ≡ false) → AllUnnaked formulas
  unnaked_formulas [] none = tt
  unnaked_formulas (formula ∷ formulas) none = (
    subst AreUnnaked (sym (told_binders g formula.body))
        (unnaked_binders (universals_of formula.body)
        (λ ty. (either_false (list_any (is_naked_of g ty) (universals_of formula.body))
        (naked_in g ty formulas) (none ty)).0)),
    unnaked_formulas formulas
        (λ ty. (either_false (list_any (is_naked_of g ty) (universals_of formula.body))
        (naked_in g ty formulas) (none ty)).1),
  )

  no_formula : (formulas : List NormalFormula) → AllUnnaked formulas → (ty : Ty) →
      naked_in g ty formulas ≡ false
  no_formula [] each ty = refl
  no_formula (formula ∷ formulas) each ty =
      ap (λ b. b || naked_in g ty formulas)
      (no_binder (universals_of formula.body)
      (subst AreUnnaked (told_binders g formula.body) each.0) ty)
      ∙ no_formula formulas each.1 ty

none_first : (places : List NakedPlace) →
    slice_get (map (λ (naked : NakedPlace). naked.place) places) 0 ≡ None → places ≡ []
none_first [] none = refl
none_first (naked ∷ places) none = cc

no_places : (places : List NakedPlace) →
    ((ty : Ty) → list_any (λ (naked : NakedPlace). same_type ty naked.ty) places ≡ false) →
    places ≡ []
no_places [] none = refl
no_places (naked ∷ places) none =
    absurd (false≢true
    (sym (either_false (same_type naked.ty naked.ty)
    (list_any (λ (other : NakedPlace). same_type naked.ty other.ty) places) (none naked.ty)).0
    ∙ same_type-self naked.ty))

pub no_place : NoPlaceIsNaked
no_place normal typed = (
  λ none. unnaked_formulas normal.signature normal.formulas
      (λ ty. sym (naked_types normal ty typed)
      ∙ ap (list_any (λ (naked : NakedPlace). same_type ty naked.ty))
      (none_first (naked_places normal) none)),
  λ each. ap (λ places. slice_get (map (λ (naked : NakedPlace). naked.place) places) 0)
      (no_places (naked_places normal)
      (λ ty. naked_types normal ty typed
      ∙ no_formula normal.signature normal.formulas each ty)),
)

-- ---- types of naked variables are types at binders, and sorts

module _ (g : Signature) (ty : Ty) where
  abbrev Holds : List Ty → Type 0
  Holds types = IsTrue (list_any (same_type ty) types)

  abbrev IsBound : Nnf → Type 0
  IsBound p = IsTrue (list_any (is_naked_of g ty) (universals_of p)) → Holds (binder_types p)

  never : (p : Nnf) → universals_of p ≡ [] → IsBound p
  never p none naked =
      absurd (false≢true (sym (ap (list_any (is_naked_of g ty)) none) ∙ naked))

  bound_parts : (parts : List Nnf) → AllByRecursion IsBound parts →
      IsTrue (list_any (is_naked_of g ty) (joined (map universals_of parts))) →
      Holds (joined (map binder_types parts))
  bound_parts [] each naked = absurd (false≢true naked)
  bound_parts (part ∷ parts) each naked =
      list_any-append (same_type ty) (binder_types part) (joined (map binder_types parts))
      ∙ ⊎_elim
      (λ here. or_left (list_any (same_type ty) (binder_types part))
      (list_any (same_type ty) (joined (map binder_types parts))) (each.0 here))
      (λ later. or_right (list_any (same_type ty) (binder_types part))
      (list_any (same_type ty) (joined (map binder_types parts)))
      (bound_parts parts each.1 later))
      (or_cases (list_any (is_naked_of g ty) (universals_of part))
      (list_any (is_naked_of g ty) (joined (map universals_of parts)))
      (sym (list_any-append (is_naked_of g ty) (universals_of part)
      (joined (map universals_of parts))) ∙ naked))

  bound_for_all : (t : Ty) (body : Nnf) → IsBound body →
      IsTrue ((is_naked g body && same_type ty t)
      || list_any (is_naked_of g ty) (universals_of body)) →
      Holds (t ∷ binder_types body)
  bound_for_all t body is naked =
      ⊎_elim
      (λ here. or_left (same_type ty t) (list_any (same_type ty) (binder_types body))
      (and_parts (is_naked g body) (same_type ty t) here).1)
      (λ later. or_right (same_type ty t) (list_any (same_type ty) (binder_types body)) (is later))
      (or_cases (is_naked g body && same_type ty t)
      (list_any (is_naked_of g ty) (universals_of body)) naked)

  bound : (p : Nnf) → IsBound p
  bound = nnf_induction IsBound (record {
    on_true = never _ universals_of-true;
    on_false = never _ universals_of-false;
    on_atom = λ positive f types terms. never _ (universals_of-atom positive f types terms);
    on_equation = λ positive t left right. never _ (universals_of-equation positive t left right);
    on_and = λ parts each naked.
        subst Holds (sym (binder_types-and parts))
        (bound_parts parts each
        (sym (ap (list_any (is_naked_of g ty)) (universals_of-and parts)) ∙ naked));
    on_or = λ parts each naked.
        subst Holds (sym (binder_types-or parts))
        (bound_parts parts each
        (sym (ap (list_any (is_naked_of g ty)) (universals_of-or parts)) ∙ naked));
    on_for_all = λ t body is naked.
        subst Holds (sym (binder_types-for_all t body))
        (bound_for_all t body is
        (sym (ap (list_any (is_naked_of g ty)) (universals_of-for_all t body)) ∙ naked));
    on_exists = λ t body is naked.
        subst Holds (sym (binder_types-exists t body))
        (or_right (same_type ty t) (list_any (same_type ty) (binder_types body))
        (is (sym (ap (list_any (is_naked_of g ty)) (universals_of-exists t body)) ∙ naked)));
  })

module _ (normal : Normal) (ty : Ty) where
  sort_among : (types : List Ty) → AreSorts normal types → Holds normal.signature ty types →
      IsSort normal ty
  sort_among [] sorted there = absurd (false≢true there)
  sort_among (sort ∷ types) sorted there =
      ⊎_elim
      (λ same. subst (IsSort normal) (sym (same_type-says ty sort same)) sorted.0)
      (λ later. sort_among types sorted.1 later)
      (or_cases (same_type ty sort) (list_any (same_type ty) types) there)

  sort_in : (formulas : List NormalFormula) →
      AllByRecursion (λ (formula : NormalFormula). AreSorts normal (binder_types formula.body))
      formulas →
      IsTrue (naked_in normal.signature ty formulas) → IsSort normal ty
  sort_in [] sorted naked = absurd (false≢true naked)
  sort_in (formula ∷ formulas) sorted naked =
      ⊎_elim
      (λ here. sort_among (binder_types formula.body) sorted.0
      (bound normal.signature ty formula.body here))
      (λ later. sort_in formulas sorted.1 later)
      (or_cases (list_any (is_naked_of normal.signature ty) (universals_of formula.body))
      (naked_in normal.signature ty formulas) naked)

pub naked_sorts : NakedTypesAreSorts
naked_sorts normal ty typed naked =
    sort_in normal ty normal.formulas (binder_sorts normal)
    (sym (naked_types normal ty typed) ∙ naked)
