-- The variable of a naked universal binder gives its type a naked place.
use Rattle.std.specs.Prelude.{ℕ, suc, ◌+◌, ◌≡◌, Bool, true, false, not, ◌&&◌, ◌||◌, List, [], ◌∷◌, ◌++◌, map, cond, get_or, slice_get, Some, IsTrue}
use Rattle.std.specs.List.{AllByRecursion, list_any}
use Rattle.std.proofs.Common.{refl, sym, ap, ◌∙◌, subst, arith, ⊎_elim}
use Rattle.std.proofs.lemmas.Bool.{or_cases, or_left, or_right, and_parts, and_from, false≢true, eqb-true}
use Rattle.std.proofs.lemmas.List.Folds.{list_any-append}
use Rattle.tf_core.specs.declared.ty.Ty.{Ty}
use Rattle.tf_core.specs.declared.term.Term.{Term}
use Rattle.tf_core.specs.declared.term.Term.TheVariants as term
use Rattle.tf_core.specs.declared.nnf.Nnf.{Nnf}
use Rattle.tf_core.specs.declared.signature.Signature.{Signature}
use Rattle.tf_core.specs.declared.normal.NormalFormula.{NormalFormula}
use Rattle.tf_core.specs.declared.normal.Normal.{Normal}
use Rattle.tf_core.specs.Types.{same_type}
use Rattle.tf_core.specs.Typing.{HasType, of_variable, of_apply, IsEquation, IsNnf, nnf_true, nnf_false, nnf_atom, nnf_equation, nnf_and, nnf_or, nnf_for_all, nnf_exists, AreNnf, no_parts, more_parts}
use Rattle.tf_core.specs.Sorts.{joined}
use Rattle.tf_core.proofs.Typed.{same_type-self}
use Rattle.tf_core.proofs.Induction.{term_induction}
use Rattle.tf_naked.specs.Covers.{covers_of}
use Rattle.tf_naked.specs.declared.place.Place.{Place}
use Rattle.tf_naked.specs.declared.position.Kind.{Kind}
use Rattle.tf_naked.specs.declared.position.Kind.TheVariants.{Universal, Existential}
use Rattle.tf_naked.specs.Standing.{is_positive_side, is_universal, kind_of, Standing, stands_in_arguments, stands_in_side, standing, stands, is_naked}
use Rattle.tf_naked.specs.Naked.{Equation, equations_of, NakedPlace, naked_side, side_of, naked_sides, naked_in_equations, naked_in_formulas, naked_places, is_naked_type}
use Rattle.tf_naked.proofs.Standing.{kind_of-variable, standing-variable, standing-apply, stands-true, stands-false, stands-atom, stands-equation, stands-and, stands-or, stands-for_all, stands-exists}
use Rattle.tf_naked.proofs.Naked.{equations_of-equation, equations_of-and, equations_of-or, equations_of-for_all, equations_of-exists}
use Rattle.enc_laws.proofs.BinderTests.{Pass, binders_pass-true, binders_pass-false, pass_at_atom, binders_pass-equation, pass_at_and, pass_at_or, pass_at_for_all, pass_at_exists}

any_front : {A : Type 0} (test : A → Bool) (items others : List A) →
    IsTrue (list_any test items) → IsTrue (list_any test (items ++ others))
any_front test items others some = list_any-append test items others ∙ or_left _ _ some

any_back : {A : Type 0} (test : A → Bool) (items others : List A) →
    IsTrue (list_any test others) → IsTrue (list_any test (items ++ others))
any_back test items others some = list_any-append test items others ∙ or_right _ _ some

-- ---- no variable stands inside a term on a side

module _ (g : Signature) where
  abbrev IsApart : Term → Type 0
  IsApart t = (i : ℕ) → IsTrue ((standing g is_positive_side t).inside i) → ⊥

  arguments_apart : (tests : List Bool) (terms : List Term) (i : ℕ) →
      AllByRecursion IsApart terms →
      IsTrue (stands_in_arguments is_positive_side tests (map (standing g is_positive_side) terms)
      i) → ⊥
  arguments_apart [] terms i apart h = false≢true h
  arguments_apart (test ∷ tests) [] i apart h = false≢true h
  arguments_apart (test ∷ tests) (t ∷ terms) i apart h =
      ⊎_elim (λ x. apart.0 i x) (λ x. arguments_apart tests terms i apart.1 x) (or_cases _ _ h)

  term_apart : (t : Term) → IsApart t
  term_apart = term_induction IsApart
      (λ n i h.
      false≢true (sym (ap (λ (z : Standing). z.inside i)
      (standing-variable g is_positive_side n)) ∙ h))
      (λ f types terms apart i h.
      arguments_apart (covers_of (slice_get g.symbols f)) terms i apart
      (sym (ap (λ (z : Standing). z.inside i)
      (standing-apply g is_positive_side f types terms)) ∙ h))

  all_apart : (terms : List Term) → AllByRecursion IsApart terms
  all_apart [] = tt
  all_apart (t ∷ terms) = (term_apart t, all_apart terms)

-- ---- equations with a naked side

-- the equation has a naked side of this type
abbrev has_naked : Ty → Equation → Bool
has_naked ty equation =
    equation.positive
    && ((is_universal equation.left || is_universal equation.right) && same_type ty equation.ty)

abbrev some_naked : Ty → List Equation → Bool
some_naked ty equations = list_any (has_naked ty) equations

-- a naked place of this type
abbrev is_of : Ty → NakedPlace → Bool
is_of ty naked = same_type ty naked.ty

naked_side-of : (ty : Ty) (place : Place) (equation : Equation) (kind : Kind) →
    equation.positive ≡ true → is_universal kind ≡ true → IsTrue (same_type ty equation.ty) →
    IsTrue (list_any (is_of ty) (naked_side place equation kind))
naked_side-of ty place equation kind positive universal same =
    ap (λ b. list_any (is_of ty)
    (cond b (record { place = place; ty = equation.ty } ∷ []) []))
    (and_from equation.positive (is_universal kind) positive universal)
    ∙ or_left _ _ same

naked_sides-of : (ty : Ty) (formula number : ℕ) (equation : Equation) →
    IsTrue (has_naked ty equation) →
    IsTrue (list_any (is_of ty) (naked_sides formula number equation))
naked_sides-of ty formula number equation has =
    let left : Place = side_of formula number 0 in
    let right : Place = side_of formula number 1 in
    let first = and_parts equation.positive _ has in
    let second = and_parts (is_universal equation.left || is_universal equation.right) _ first.1 in
    ⊎_elim
    (λ universal. any_front (is_of ty) (naked_side left equation equation.left)
    (naked_side right equation equation.right)
    (naked_side-of ty left equation equation.left first.0 universal second.1))
    (λ universal. any_back (is_of ty) (naked_side left equation equation.left)
    (naked_side right equation equation.right)
    (naked_side-of ty right equation equation.right first.0 universal second.1))
    (or_cases _ _ second.0)

naked_in_equations-of : (ty : Ty) (formula number : ℕ) (equations : List Equation) →
    IsTrue (some_naked ty equations) →
    IsTrue (list_any (is_of ty) (naked_in_equations formula number equations))
naked_in_equations-of ty formula number [] some = absurd (false≢true some)
naked_in_equations-of ty formula number (equation ∷ equations) some =
    ⊎_elim
    (λ here. any_front (is_of ty) (naked_sides formula number equation)
    (naked_in_equations formula (number + 1) equations)
    (naked_sides-of ty formula number equation here))
    (λ there. any_back (is_of ty) (naked_sides formula number equation)
    (naked_in_equations formula (number + 1) equations)
    (naked_in_equations-of ty formula (number + 1) equations there))
    (or_cases _ _ some)

-- formulas each of whose equations with a naked side gives a type a naked place
abbrev AreKnown : (Ty → Bool) → NormalFormula → Type 0
AreKnown known formula = (ty : Ty) → IsTrue (some_naked ty (equations_of formula.body [])) →
    IsTrue (known ty)

naked_in_formulas-of : (known : Ty → Bool) (number : ℕ) (formulas : List NormalFormula) →
    ((ty : Ty) → IsTrue (list_any (is_of ty) (naked_in_formulas number formulas)) →
    IsTrue (known ty)) → AllByRecursion (AreKnown known) formulas
naked_in_formulas-of known number [] has = tt
naked_in_formulas-of known number (formula ∷ formulas) has = (
  λ ty some. has ty (any_front (is_of ty)
      (naked_in_equations number 0 (equations_of formula.body []))
      (naked_in_formulas (number + 1) formulas)
      (naked_in_equations-of ty number 0 (equations_of formula.body []) some)),
  naked_in_formulas-of known (number + 1) formulas (λ ty some. has ty (any_back (is_of ty)
      (naked_in_equations number 0 (equations_of formula.body []))
      (naked_in_formulas (number + 1) formulas) some)),
)

equations_known : (normal : Normal) →
    AllByRecursion (AreKnown (is_naked_type normal)) normal.formulas
unfolding naked_places
equations_known normal =
    naked_in_formulas-of (is_naked_type normal) 0 normal.formulas (λ ty some. some)

-- ---- a variable that stands on a positive side

module _ (g : Signature) (variables : ℕ) where
  -- The i-th variable is universal, and of this type.
  record IsBinder (context : List Ty) (kinds : List Kind) (i : ℕ) (ty : Ty) : Type 0 where
    at : slice_get context i ≡ Some ty
    kind : get_or kinds i Universal ≡ Universal

  on_side : (context : List Ty) (t : Term) (side : Ty) → HasType g variables context t side →
      (kinds : List Kind) (i : ℕ) (ty : Ty) → IsBinder context kinds i ty →
      IsTrue (stands_in_side is_positive_side true (standing g is_positive_side t) i) →
      (ty ≡ side) × IsTrue (is_universal (kind_of kinds t))
  on_side context t side (of_variable n _ there) kinds i ty binder h =
      ⊎_elim
      (λ here.
      let same : n ≡ i = eqb-true n i
      (sym (ap (λ (z : Standing). z.here i) (standing-variable g is_positive_side n)) ∙ here) in
      let one : slice_get context i ≡ Some side = ap (slice_get context) (sym same) ∙ there in
      let at = binder.at in
      let is : Some ty ≡ Some side = sym at ∙ one in
      let types : ty ≡ side = cc in (
        types,
        ap is_universal (kind_of-variable kinds n ∙ ap (λ x. get_or kinds x Universal) same
            ∙ binder.kind),
      ))
      (λ inside. absurd (term_apart g (term.Var n) i inside))
      (or_cases _ _ h)
  on_side context t side (of_apply f symbol result types terms instance are) kinds i ty binder h =
      absurd (⊎_elim
      (λ here. false≢true (sym (ap (λ (z : Standing). z.here i)
      (standing-apply g is_positive_side f types terms)) ∙ here))
      (λ inside. term_apart g (term.Apply f types terms) i inside)
      (or_cases _ _ h))

  on_negative_side : (t : Term) (i : ℕ) →
      IsTrue (stands_in_side is_positive_side false (standing g is_positive_side t) i) → ⊥
  on_negative_side t i h = term_apart g t i h

  naked_from : (positive : Bool) (ty : Ty) (left right : Kind) → positive ≡ true →
      IsTrue (is_universal left || is_universal right) →
      IsTrue (some_naked ty
      (record { positive = positive; ty = ty; left = left; right = right } ∷ []))
  naked_from positive ty left right is universal =
      or_left _ _ (and_from _ _ is (and_from _ _ universal (same_type-self ty)))

  equation_naked : (context : List Ty) (positive : Bool) (side : Ty) (left right : Term) →
      IsEquation g variables context side left right → (kinds : List Kind) (i : ℕ) (ty : Ty) →
      IsBinder context kinds i ty →
      IsTrue (stands_in_side is_positive_side positive (standing g is_positive_side left) i
      || stands_in_side is_positive_side positive (standing g is_positive_side right) i) →
      IsTrue (some_naked ty (record {
        positive = positive;
        ty = side;
        left = kind_of kinds left;
        right = kind_of kinds right;
      } ∷ []))
  equation_naked context true side left right is kinds i ty binder h =
      ⊎_elim
      (λ x.
      let both = on_side context left side is.left_side kinds i ty binder x in
      subst (λ z. IsTrue (some_naked ty (record {
        positive = true;
        ty = z;
        left = kind_of kinds left;
        right = kind_of kinds right;
      } ∷ []))) both.0
      (naked_from true ty (kind_of kinds left) (kind_of kinds right) refl (or_left _ _ both.1)))
      (λ x.
      let both = on_side context right side is.right_side kinds i ty binder x in
      subst (λ z. IsTrue (some_naked ty (record {
        positive = true;
        ty = z;
        left = kind_of kinds left;
        right = kind_of kinds right;
      } ∷ []))) both.0
      (naked_from true ty (kind_of kinds left) (kind_of kinds right) refl (or_right _ _ both.1)))
      (or_cases _ _ h)
  equation_naked context false side left right is kinds i ty binder h =
      absurd (⊎_elim (on_negative_side left i) (on_negative_side right i) (or_cases _ _ h))

  IsBinder-more : (context : List Ty) (kinds : List Kind) (i : ℕ) (ty other : Ty) (kind : Kind) →
      IsBinder context kinds i ty → IsBinder (other ∷ context) (kind ∷ kinds) (i + 1) ty
  IsBinder-more context kinds i ty other kind binder =
      let e : i + 1 ≡ suc i = omega arith in
      record {
        at = ap (slice_get (other ∷ context)) e ∙ binder.at;
        kind = ap (λ x. get_or (kind ∷ kinds) x Universal) e ∙ binder.kind;
      }

  mutual
    standing_naked : (context : List Ty) (p : Nnf) → IsNnf g variables context p →
        (kinds : List Kind) (i : ℕ) (ty : Ty) → IsBinder context kinds i ty →
        IsTrue (stands g is_positive_side p i) → IsTrue (some_naked ty (equations_of p kinds))
    standing_naked context p (nnf_true _) kinds i ty binder h =
        absurd (false≢true (sym (stands-true g is_positive_side i) ∙ h))
    standing_naked context p (nnf_false _) kinds i ty binder h =
        absurd (false≢true (sym (stands-false g is_positive_side i) ∙ h))
    standing_naked context p (nnf_atom _ positive f symbol types terms is) kinds i ty binder h =
        absurd (arguments_apart g (covers_of (slice_get g.symbols f)) terms i (all_apart g terms)
        (sym (stands-atom g is_positive_side positive f types terms i) ∙ h))
    standing_naked context p (nnf_equation _ positive side left right is) kinds i ty binder h =
        ap (some_naked ty) (equations_of-equation positive side left right kinds)
        ∙ equation_naked context positive side left right is kinds i ty binder
        (sym (stands-equation g is_positive_side positive side left right i) ∙ h)
    standing_naked context p (nnf_and _ parts each) kinds i ty binder h =
        ap (some_naked ty) (equations_of-and parts kinds)
        ∙ parts_naked context parts each kinds i ty binder
        (sym (stands-and g is_positive_side parts i) ∙ h)
    standing_naked context p (nnf_or _ parts each) kinds i ty binder h =
        ap (some_naked ty) (equations_of-or parts kinds)
        ∙ parts_naked context parts each kinds i ty binder
        (sym (stands-or g is_positive_side parts i) ∙ h)
    standing_naked context p (nnf_for_all _ other body formed inner) kinds i ty binder h =
        ap (some_naked ty) (equations_of-for_all other body kinds)
        ∙ standing_naked (other ∷ context) body inner (Universal ∷ kinds) (i + 1) ty
        (IsBinder-more context kinds i ty other Universal binder)
        (sym (stands-for_all g is_positive_side other body i) ∙ h)
    standing_naked context p (nnf_exists _ other body formed inner) kinds i ty binder h =
        ap (some_naked ty) (equations_of-exists other body kinds)
        ∙ standing_naked (other ∷ context) body inner (Existential ∷ kinds) (i + 1) ty
        (IsBinder-more context kinds i ty other Existential binder)
        (sym (stands-exists g is_positive_side other body i) ∙ h)

    parts_naked : (context : List Ty) (parts : List Nnf) → AreNnf g variables context parts →
        (kinds : List Kind) (i : ℕ) (ty : Ty) → IsBinder context kinds i ty →
        IsTrue (list_any (λ part. stands g is_positive_side part i) parts) →
        IsTrue (some_naked ty (joined (map (λ part. equations_of part kinds) parts)))
    parts_naked context parts (no_parts _) kinds i ty binder h = absurd (false≢true h)
    parts_naked context parts (more_parts _ part others first rest) kinds i ty binder h =
        ⊎_elim
        (λ here. any_front (has_naked ty) (equations_of part kinds)
        (joined (map (λ one. equations_of one kinds) others))
        (standing_naked context part first kinds i ty binder here))
        (λ there. any_back (has_naked ty) (equations_of part kinds)
        (joined (map (λ one. equations_of one kinds) others))
        (parts_naked context others rest kinds i ty binder there))
        (or_cases _ _ h)

  -- ---- each binder of a formula

  module _ (known : Ty → Bool) where
    -- the variable isn't naked, or its type is known
    abbrev pub is_known : Ty → Nnf → Bool
    is_known ty body = not (is_naked g body) || known ty

    abbrev pub any_type : Ty → Bool
    any_type ty = true

    -- the types of the naked sides of equations are known
    abbrev HaveKnown : List Equation → Type 0
    HaveKnown equations = (ty : Ty) → IsTrue (some_naked ty equations) → IsTrue (known ty)

    binder_known : (ty : Ty) (body : Nnf) → (IsTrue (is_naked g body) → IsTrue (known ty)) →
        IsTrue (is_known ty body)
    binder_known ty body has = by (is_naked g body) has
      where
        by : (b : Bool) → (IsTrue b → IsTrue (known ty)) → IsTrue (not b || known ty)
        by true has = has refl
        by false has = refl

    mutual
      binders_known : (context : List Ty) (p : Nnf) → IsNnf g variables context p →
          (kinds : List Kind) → HaveKnown (equations_of p kinds) →
          Pass is_known any_type p
      binders_known context p (nnf_true _) kinds has = binders_pass-true is_known any_type
      binders_known context p (nnf_false _) kinds has = binders_pass-false is_known any_type
      binders_known context p (nnf_atom _ positive f symbol types terms is) kinds has =
          pass_at_atom is_known any_type positive f types terms
      binders_known context p (nnf_equation _ positive side left right is) kinds has =
          binders_pass-equation is_known any_type positive side left right
      binders_known context p (nnf_and _ parts each) kinds has =
          pass_at_and is_known any_type parts (parts_known context parts each kinds
          (subst HaveKnown (equations_of-and parts kinds) has))
      binders_known context p (nnf_or _ parts each) kinds has =
          pass_at_or is_known any_type parts (parts_known context parts each kinds
          (subst HaveKnown (equations_of-or parts kinds) has))
      binders_known context p (nnf_for_all _ ty body formed inner) kinds has =
          let inside = subst HaveKnown (equations_of-for_all ty body kinds) has in
          pass_at_for_all is_known any_type ty body
          (binder_known ty body (λ naked. inside ty
          (standing_naked (ty ∷ context) body inner (Universal ∷ kinds) 0 ty
          (record { at = refl; kind = refl }) naked)))
          (binders_known (ty ∷ context) body inner (Universal ∷ kinds) inside)
      binders_known context p (nnf_exists _ ty body formed inner) kinds has =
          pass_at_exists is_known any_type ty body refl
          (binders_known (ty ∷ context) body inner (Existential ∷ kinds)
          (subst HaveKnown (equations_of-exists ty body kinds) has))

      parts_known : (context : List Ty) (parts : List Nnf) → AreNnf g variables context parts →
          (kinds : List Kind) →
          HaveKnown (joined (map (λ part. equations_of part kinds) parts)) →
          AllByRecursion (Pass is_known any_type) parts
      parts_known context parts (no_parts _) kinds has = tt
      parts_known context parts (more_parts _ part others first rest) kinds has = (
        binders_known context part first kinds (λ ty some. has ty
            (any_front (has_naked ty) (equations_of part kinds)
            (joined (map (λ one. equations_of one kinds) others)) some)),
        parts_known context others rest kinds (λ ty some. has ty
            (any_back (has_naked ty) (equations_of part kinds)
            (joined (map (λ one. equations_of one kinds) others)) some)),
      )

-- In a well-typed problem the type of each naked variable has a naked place.
module _ (normal : Normal) where
  abbrev pub HasNakedTypes : NormalFormula → Type 0
  HasNakedTypes formula =
      Pass (is_known normal.signature 0 (is_naked_type normal))
      (any_type normal.signature 0 (is_naked_type normal)) formula.body

  formulas_known : (formulas : List NormalFormula) →
      AllByRecursion (λ formula. IsNnf normal.signature formula.type_variables [] formula.body)
      formulas → AllByRecursion (AreKnown (is_naked_type normal)) formulas →
      AllByRecursion HasNakedTypes formulas
  formulas_known [] formed known = tt
  formulas_known (formula ∷ formulas) formed known = (
    binders_known normal.signature formula.type_variables (is_naked_type normal) [] formula.body
        formed.0 [] known.0,
    formulas_known formulas formed.1 known.1,
  )

  pub naked_types :
      AllByRecursion (λ formula. IsNnf normal.signature formula.type_variables [] formula.body)
      normal.formulas → AllByRecursion HasNakedTypes normal.formulas
  naked_types formed = formulas_known normal.formulas formed (equations_known normal)
