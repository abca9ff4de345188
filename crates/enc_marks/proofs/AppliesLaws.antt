-- A scheme applies exactly where nothing is there for which it is refused.
use Rattle.std.specs.Prelude.{ℕ, ◌+◌, ◌≡◌, ◌↔◌, Bool, true, false, not, ◌&&◌, ◌||◌, List, [], ◌∷◌, map, cond, filter, slice_get, None, IsTrue}
use Rattle.std.specs.List.{AllByRecursion, list_any}
use Rattle.std.proofs.Common.{refl, sym, ap, ◌∙◌, subst, ⊎_elim}
use Rattle.std.proofs.lemmas.Bool.{or_cases, false≢true}
use Rattle.tf_core.specs.declared.ty.Ty.{Ty}
use Rattle.tf_core.specs.declared.nnf.Nnf.{Nnf}
use Rattle.tf_core.specs.declared.normal.NormalFormula.{NormalFormula}
use Rattle.tf_core.specs.declared.normal.Normal.{Normal}
use Rattle.tf_core.specs.Types.{same_type}
use Rattle.tf_core.specs.Typing.{IsNnf, nnf_true, nnf_false, nnf_atom, nnf_equation, nnf_and, nnf_or, nnf_for_all, nnf_exists, AreNnf, no_parts, more_parts, IsNormal}
use Rattle.tf_core.specs.Sorts.{joined, binder_types, sorts}
use Rattle.tf_core.specs.Sound.{is_monomorphic}
use Rattle.tf_core.proofs.Typed.{same_type-says}
use Rattle.tf_naked.specs.declared.place.Place.{Place}
use Rattle.tf_naked.specs.declared.position.Kind.{Kind}
use Rattle.tf_naked.specs.declared.position.Kind.TheVariants.{Universal, Existential}
use Rattle.tf_naked.specs.Standing.{is_universal}
use Rattle.tf_naked.specs.Naked.{Equation, equations_of, NakedPlace, naked_side, side_of, naked_sides, naked_in_equations, naked_in_formulas, naked_places, is_naked_type, is_only, is_free}
use Rattle.tf_naked.specs.SortLaws.{IsSort, AreSorts}
use Rattle.tf_naked.proofs.Naked.{equations_of-true, equations_of-false, equations_of-atom, equations_of-equation, equations_of-and, equations_of-or, equations_of-for_all, equations_of-exists}
use Rattle.tf_naked.proofs.BinderTypes.{binder_types-and, binder_types-or, binder_types-for_all, binder_types-exists}
use Rattle.tf_naked.proofs.HeldTypes.{sorts_front, sorts_back, binder_sorts, term_sort}
use Rattle.enc_marks.specs.declared.scheme.Scheme.{Scheme}
use Rattle.enc_marks.specs.declared.scheme.Scheme.TheVariants as scheme
use Rattle.enc_marks.specs.Applies.{AreFree, Applies, asks_monomorphic, first_not_free, refused_place}
use Rattle.enc_marks.proofs.StatedFormulas.{all-append}

-- ---- the types of naked places are sorts

module _ (normal : Normal) (monomorphic : IsTrue (is_monomorphic normal)) where
  abbrev AreSortEquations : List Equation → Type 0
  AreSortEquations = AllByRecursion (λ (e : Equation). IsSort normal e.ty)

  abbrev AreSortPlaces : List NakedPlace → Type 0
  AreSortPlaces = AllByRecursion (λ (naked : NakedPlace). IsSort normal naked.ty)

  mutual
    equation_sorts : (variables : ℕ) (context : List Ty) (p : Nnf)
        (formed : IsNnf normal.signature variables context p) (kinds : List Kind) →
        AreSorts normal context → AreSorts normal (binder_types p) →
        AreSortEquations (equations_of p kinds)
    equation_sorts variables context p (nnf_true same) kinds sorted bound =
        subst AreSortEquations (sym (equations_of-true kinds)) tt
    equation_sorts variables context p (nnf_false same) kinds sorted bound =
        subst AreSortEquations (sym (equations_of-false kinds)) tt
    equation_sorts variables context p (nnf_atom same positive f symbol types terms is) kinds sorted
        bound =
        subst AreSortEquations (sym (equations_of-atom positive f types terms kinds)) tt
    equation_sorts variables context p (nnf_equation same positive ty left right is) kinds sorted
        bound =
        subst AreSortEquations (sym (equations_of-equation positive ty left right kinds))
        (term_sort normal monomorphic variables context left ty sorted is.left_side, tt)
    equation_sorts variables context p (nnf_and same parts are) kinds sorted bound =
        subst AreSortEquations (sym (equations_of-and parts kinds))
        (part_sorts variables context parts are kinds sorted
        (subst (AreSorts normal) (binder_types-and parts) bound))
    equation_sorts variables context p (nnf_or same parts are) kinds sorted bound =
        subst AreSortEquations (sym (equations_of-or parts kinds))
        (part_sorts variables context parts are kinds sorted
        (subst (AreSorts normal) (binder_types-or parts) bound))
    equation_sorts variables context p (nnf_for_all same ty body is rest) kinds sorted bound =
        let both = subst (AreSorts normal) (binder_types-for_all ty body) bound in
        subst AreSortEquations (sym (equations_of-for_all ty body kinds))
        (equation_sorts variables (ty ∷ context) body rest (Universal ∷ kinds) (both.0, sorted)
        both.1)
    equation_sorts variables context p (nnf_exists same ty body is rest) kinds sorted bound =
        let both = subst (AreSorts normal) (binder_types-exists ty body) bound in
        subst AreSortEquations (sym (equations_of-exists ty body kinds))
        (equation_sorts variables (ty ∷ context) body rest (Existential ∷ kinds) (both.0, sorted)
        both.1)

    part_sorts : (variables : ℕ) (context : List Ty) (parts : List Nnf)
        (are : AreNnf normal.signature variables context parts) (kinds : List Kind) →
        AreSorts normal context → AreSorts normal (joined (map binder_types parts)) →
        AreSortEquations (joined (map (λ part. equations_of part kinds) parts))
    part_sorts variables context parts (no_parts same) kinds sorted bound = tt
    part_sorts variables context parts (more_parts same part others formed rest) kinds sorted bound =
        all-append (λ (e : Equation). IsSort normal e.ty) (equations_of part kinds) _
        (equation_sorts variables context part formed kinds sorted
        (sorts_front normal (binder_types part) _ bound))
        (part_sorts variables context others rest kinds sorted
        (sorts_back normal (binder_types part) _ bound))

  side_sorts : (place : Place) (ty : Ty) → IsSort normal ty → (naked : Bool) →
      AreSortPlaces (cond naked (record { place = place; ty = ty } ∷ []) [])
  side_sorts place ty is true = (is, tt)
  side_sorts place ty is false = tt

  places_in_equations : (formula number : ℕ) (equations : List Equation) →
      AreSortEquations equations → AreSortPlaces (naked_in_equations formula number equations)
  places_in_equations formula number [] are = tt
  places_in_equations formula number (e ∷ equations) are =
      all-append (λ (naked : NakedPlace). IsSort normal naked.ty) (naked_sides formula number e) _
      (all-append (λ (naked : NakedPlace). IsSort normal naked.ty)
      (naked_side (side_of formula number 0) e e.left) _
      (side_sorts (side_of formula number 0) e.ty are.0 (e.positive && is_universal e.left))
      (side_sorts (side_of formula number 1) e.ty are.0 (e.positive && is_universal e.right)))
      (places_in_equations formula (number + 1) equations are.1)

  places_in_formulas : (number : ℕ) (formulas : List NormalFormula) →
      AllByRecursion (λ formula. IsNnf normal.signature formula.type_variables [] formula.body)
      formulas →
      AllByRecursion (λ (formula : NormalFormula). AreSorts normal (binder_types formula.body))
      formulas →
      AreSortPlaces (naked_in_formulas number formulas)
  places_in_formulas number [] formed bound = tt
  places_in_formulas number (formula ∷ formulas) formed bound =
      all-append (λ (naked : NakedPlace). IsSort normal naked.ty)
      (naked_in_equations number 0 (equations_of formula.body [])) _
      (places_in_equations number 0 (equations_of formula.body [])
      (equation_sorts formula.type_variables [] formula.body formed.0 [] tt bound.0))
      (places_in_formulas (number + 1) formulas formed.1 bound.1)

  pub naked_sorts : IsNormal normal → AreSortPlaces (naked_places normal)
  unfolding naked_places
  naked_sorts typed =
      places_in_formulas 0 normal.formulas typed.formulas (binder_sorts normal)

-- ---- free sorts

module _ (normal : Normal) where
  abbrev ArePlacesFree : List NakedPlace → Type 0
  ArePlacesFree = AllByRecursion (λ (naked : NakedPlace). IsTrue (is_free normal naked.ty))

  sort_free : (types : List Ty) (ty : Ty) →
      AllByRecursion (λ sort. IsTrue (is_free normal sort)) types →
      IsTrue (list_any (same_type ty) types) → IsTrue (is_free normal ty)
  sort_free [] ty free there = absurd (false≢true there)
  sort_free (sort ∷ types) ty free there =
      ⊎_elim
      (λ same. ap (is_free normal) (same_type-says ty sort same) ∙ free.0)
      (λ later. sort_free types ty free.1 later)
      (or_cases (same_type ty sort) (list_any (same_type ty) types) there)

  places_free : (places : List NakedPlace) → AreFree normal →
      AllByRecursion (λ (naked : NakedPlace). IsSort normal naked.ty) places → ArePlacesFree places
  places_free [] free are = tt
  places_free (naked ∷ places) free are =
      (sort_free (sorts normal) naked.ty free are.0, places_free places free are.1)

  none_left : (places : List NakedPlace) → ArePlacesFree places →
      filter (λ naked. not (is_free normal naked.ty)) places ≡ []
  none_left [] free = refl
  none_left (naked ∷ places) free =
      ap (λ b. cond (not b) (naked ∷ filter (λ one. not (is_free normal one.ty)) places)
      (filter (λ one. not (is_free normal one.ty)) places)) free.0
      ∙ none_left places free.1

  free_first : (naked : NakedPlace) (places : List NakedPlace) (b : Bool) →
      is_free normal naked.ty ≡ b →
      filter (λ one. not (is_free normal one.ty)) (naked ∷ places) ≡ [] →
      (filter (λ one. not (is_free normal one.ty)) places ≡ [] → ArePlacesFree places) →
      ArePlacesFree (naked ∷ places)
  free_first naked places true is none later = (
    is,
    later (sym (ap (λ b. cond (not b) (naked ∷ filter (λ one. not (is_free normal one.ty)) places)
        (filter (λ one. not (is_free normal one.ty)) places)) is) ∙ none),
  )
  free_first naked places false is none later =
      let some : naked ∷ filter (λ one. not (is_free normal one.ty)) places ≡ [] =
      sym (ap (λ b. cond (not b) (naked ∷ filter (λ one. not (is_free normal one.ty)) places)
      (filter (λ one. not (is_free normal one.ty)) places)) is) ∙ none in
      cc

  all_free : (places : List NakedPlace) →
      filter (λ naked. not (is_free normal naked.ty)) places ≡ [] → ArePlacesFree places
  all_free [] none = tt
  all_free (naked ∷ places) none =
      free_first naked places (is_free normal naked.ty) refl none (λ rest. all_free places rest)

  free_there : (places : List NakedPlace) (ty : Ty) → ArePlacesFree places →
      IsTrue (list_any (λ naked. same_type ty naked.ty) places) → IsTrue (is_free normal ty)
  free_there [] ty free there = absurd (false≢true there)
  free_there (naked ∷ places) ty free there =
      ⊎_elim
      (λ same. ap (is_free normal) (same_type-says ty naked.ty same) ∙ free.0)
      (λ later. free_there places ty free.1 later)
      (or_cases (same_type ty naked.ty) (list_any (λ one. same_type ty one.ty) places) there)

  unnaked_free : (ty : Ty) → is_naked_type normal ty ≡ false → IsTrue (is_free normal ty)
  unfolding is_free
  unnaked_free ty is = ap (λ b. not b || is_only ty (sorts normal)) is

  free_by : ArePlacesFree (naked_places normal) → (ty : Ty) (b : Bool) →
      is_naked_type normal ty ≡ b → IsTrue (is_free normal ty)
  free_by free ty true is = free_there (naked_places normal) ty free is
  free_by free ty false is = unnaked_free ty is

  each_free : (types : List Ty) → ArePlacesFree (naked_places normal) →
      AllByRecursion (λ sort. IsTrue (is_free normal sort)) types
  each_free [] free = tt
  each_free (ty ∷ types) free =
      (free_by free ty (is_naked_type normal ty) refl, each_free types free)

-- ---- the first of a list

none_first : {A B : Type 0} (f : A → B) (items : List A) → slice_get (map f items) 0 ≡ None →
    items ≡ []
none_first f [] none = refl
none_first f (item ∷ items) none = cc

first_none : {A B : Type 0} (f : A → B) (items : List A) → items ≡ [] →
    slice_get (map f items) 0 ≡ None
first_none f items none = ap (λ xs. slice_get (map f xs) 0) none

-- ---- each scheme

not_asked : {A : Type 0} → false ≡ true → A
not_asked asked = absurd (false≢true asked)

erase_applies : (normal : Normal) → IsNormal normal →
    (Applies scheme.Erase normal
    ↔ ((IsTrue true → IsTrue (is_monomorphic normal)) × (first_not_free normal ≡ None)))
erase_applies normal typed = (
  λ applies. (
    λ asked. applies.0,
    first_none (λ (naked : NakedPlace). naked.place)
        (filter (λ naked. not (is_free normal naked.ty)) (naked_places normal))
        (none_left normal (naked_places normal)
        (places_free normal (naked_places normal) applies.1
        (naked_sorts normal applies.0 typed))),
  ),
  λ no_cause. (
    no_cause.0 refl,
    each_free normal (sorts normal)
        (all_free normal (naked_places normal)
        (none_first (λ (naked : NakedPlace). naked.place)
        (filter (λ naked. not (is_free normal naked.ty)) (naked_places normal)) no_cause.1)),
  ),
)

pub applies_exactly : (which : Scheme) (normal : Normal) → IsNormal normal →
    (Applies which normal
    ↔ ((IsTrue (asks_monomorphic which) → IsTrue (is_monomorphic normal))
    × (refused_place which normal ≡ None)))
applies_exactly scheme.Guards normal typed =
    (λ applies. (λ asked. not_asked asked, refl), λ no_cause. tt)
applies_exactly scheme.Tags normal typed =
    (λ applies. (λ asked. not_asked asked, refl), λ no_cause. tt)
applies_exactly scheme.GuardsCover normal typed =
    (λ applies. (λ asked. not_asked asked, refl), λ no_cause. tt)
applies_exactly scheme.TagsCover normal typed =
    (λ applies. (λ asked. not_asked asked, refl), λ no_cause. tt)
applies_exactly scheme.Args normal typed = (
  λ applies. (
    λ asked. not_asked asked,
    first_none (λ (naked : NakedPlace). naked.place) (naked_places normal) applies,
  ),
  λ no_cause.
      none_first (λ (naked : NakedPlace). naked.place) (naked_places normal) no_cause.1,
)
applies_exactly scheme.Erase normal typed = erase_applies normal typed
applies_exactly scheme.GuardsLight normal typed =
    (λ applies. (λ asked. applies, refl), λ no_cause. no_cause.0 refl)
applies_exactly scheme.TagsLight normal typed =
    (λ applies. (λ asked. applies, refl), λ no_cause. no_cause.0 refl)
applies_exactly scheme.GuardsFeather normal typed =
    (λ applies. (λ asked. applies, refl), λ no_cause. no_cause.0 refl)
applies_exactly scheme.TagsFeather normal typed =
    (λ applies. (λ asked. applies, refl), λ no_cause. no_cause.0 refl)
