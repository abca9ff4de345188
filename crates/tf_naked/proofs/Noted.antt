-- What is noted of open binders: in steps, and of each form of term and formula.
use Rattle.std.specs.Prelude.{ℕ, zero, suc, ◌+◌, ◌<◌, ◌≤◌, ◌≡◌, Bool, true, false, ◌&&◌, ◌||◌, List, [], ◌∷◌, length, drop, map, eqb, get_or, set}
use Rattle.std.proofs.Common.{refl, sym, ap, ◌∙◌, arith}
use Rattle.std.proofs.Math.Bool.{and-false, or-false, or_assoc}
use Rattle.std.proofs.lemmas.List.{drop_more, drop_all}
use Rattle.tf_core.specs.declared.ty.Ty.{Ty}
use Rattle.tf_core.specs.declared.term.Term.{Term}
use Rattle.tf_core.specs.declared.term.Term.TheVariants as term
use Rattle.tf_core.specs.declared.nnf.Nnf.{Nnf}
use Rattle.tf_core.specs.declared.nnf.Nnf.TheVariants as nnf
use Rattle.tf_core.specs.declared.signature.Signature.{Signature}
use Rattle.tf_naked.specs.declared.binder.Binder.{Binder}
use Rattle.tf_naked.specs.declared.position.Position.{Position}
use Rattle.tf_naked.specs.declared.position.Position.TheVariants.{Argument, Side}
use Rattle.tf_naked.specs.Standing.{is_covering, is_positive_side, Standing, standing, stands_in_application}
use Rattle.tf_naked.specs.Calls.Noted.{unused, either, noted, uses_of_variable, stands_at, uses_at, uses_in_arguments, uses_in_application, uses_in, uses_in_parts}
use Rattle.tf_naked.proofs.Standing.{standing-variable, standing-apply, stands-true, stands-false, stands-atom, stands-equation, stands-and, stands-or, stands-for_all, stands-exists}

abbrev made : Bool → Bool → Binder
made undercover naked = record { undercover = undercover; naked = naked }

-- binders with equal parts are equal
same_parts : (a b c d : Bool) → a ≡ b → c ≡ d → made a c ≡ made b d
same_parts a b c d first second = ap (λ x. made x c) first ∙ ap (made b) second

either-unused : (binder : Binder) → either binder unused ≡ binder
either-unused binder = same_parts _ _ _ _ (or-false binder.undercover) (or-false binder.naked)

either_assoc : (a b c : Binder) → either (either a b) c ≡ either a (either b c)
either_assoc a b c =
    same_parts _ _ _ _
    (or_assoc a.undercover b.undercover c.undercover)
    (or_assoc a.naked b.naked c.naked)

-- the same of a binder whose flags are made of two
either_first : (a b c d : Bool) (binder : Binder) →
    either (made (a || b) (c || d)) binder
    ≡ made (a || (b || binder.undercover)) (c || (d || binder.naked))
either_first a b c d binder =
    same_parts _ _ _ _ (or_assoc a b binder.undercover) (or_assoc c d binder.naked)

pub noted-same : (uses others : ℕ → Binder) (binders : List Binder) →
    ((i : ℕ) → uses i ≡ others i) → noted uses binders ≡ noted others binders
noted-same uses others [] same = refl
noted-same uses others (binder ∷ binders) same =
    ap (λ x. either binder x ∷ noted (λ i. uses (i + 1)) binders) (same 0)
    ∙ ap (λ xs. either binder (others 0) ∷ xs)
    (noted-same (λ i. uses (i + 1)) (λ i. others (i + 1)) binders (λ i. same (i + 1)))

pub noted-unused : (binders : List Binder) → noted (λ i. unused) binders ≡ binders
noted-unused [] = refl
noted-unused (binder ∷ binders) =
    ap (λ x. x ∷ noted (λ i. unused) binders) (either-unused binder)
    ∙ ap (λ xs. binder ∷ xs) (noted-unused binders)

pub noted-noted : (uses others : ℕ → Binder) (binders : List Binder) →
    noted others (noted uses binders) ≡ noted (λ i. either (uses i) (others i)) binders
noted-noted uses others [] = refl
noted-noted uses others (binder ∷ binders) =
    ap (λ x. x ∷ noted (λ i. others (i + 1)) (noted (λ i. uses (i + 1)) binders))
    (either_assoc binder (uses 0) (others 0))
    ∙ ap (λ xs. either binder (either (uses 0) (others 0)) ∷ xs)
    (noted-noted (λ i. uses (i + 1)) (λ i. others (i + 1)) binders)

-- where nothing but one variable stands anywhere

none_here : (position : Position) → uses_of_variable position false ≡ unused
none_here position =
    same_parts _ _ _ _ (and-false (is_covering position)) (and-false (is_positive_side position))

pub noted-one : (position : Position) (i : ℕ) (binders : List Binder) (d : Binder) →
    noted (λ j. uses_of_variable position (eqb i j)) binders
    ≡ set binders i (either (get_or binders i d) (uses_of_variable position true))
noted-one position zero [] d = refl
noted-one position (suc i) [] d = refl
noted-one position zero (binder ∷ binders) d =
    ap (λ xs. either binder (uses_of_variable position true) ∷ xs)
    (noted-same (λ j. uses_of_variable position (eqb 0 (j + 1))) (λ j. unused) binders
    (λ j. ap (uses_of_variable position) (differs j) ∙ none_here position)
    ∙ noted-unused binders)
  where
    differs : (j : ℕ) → eqb 0 (j + 1) ≡ false
    differs j = grind arith
noted-one position (suc i) (binder ∷ binders) d =
    ap (λ x. x ∷ noted (λ j. uses_of_variable position (eqb (suc i) (j + 1))) binders)
    (ap (λ here. either binder (uses_of_variable position here)) nearest
    ∙ ap (either binder) (none_here position)
    ∙ either-unused binder)
    ∙ ap (λ xs. binder ∷ xs)
    (noted-same (λ j. uses_of_variable position (eqb (suc i) (j + 1)))
    (λ j. uses_of_variable position (eqb i j)) binders
    (λ j. ap (uses_of_variable position) (shifted j))
    ∙ noted-one position i binders d)
  where
    nearest : eqb (suc i) 0 ≡ false
    nearest = grind arith

    shifted : (j : ℕ) → eqb (suc i) (j + 1) ≡ eqb i j
    shifted j = grind arith

-- of each form of term and formula

module _ (g : Signature) where
  uses_at-variable : (position : Position) (n i : ℕ) →
      uses_at g position (term.Var n) i ≡ uses_of_variable position (eqb n i)
  uses_at-variable position n i =
      same_parts _ _ _ _ (at is_covering) (at is_positive_side)
    where
      at : (test : Position → Bool) →
          stands_at g test position (term.Var n) i ≡ (test position && eqb n i)
      at test =
          ap (λ (t : Standing). (test position && t.here i) || t.inside i)
          (standing-variable g test n)
          ∙ or-false (test position && eqb n i)

  uses_at-apply : (position : Position) (f : ℕ) (types : List Ty) (terms : List Term) (i : ℕ) →
      uses_at g position (term.Apply f types terms) i ≡ uses_in_application g f terms i
  uses_at-apply position f types terms i =
      same_parts _ _ _ _ (at is_covering) (at is_positive_side)
    where
      at : (test : Position → Bool) →
          stands_at g test position (term.Apply f types terms) i
          ≡ stands_in_application g test f (map (standing g test) terms) i
      at test =
          ap (λ (t : Standing). (test position && t.here i) || t.inside i)
          (standing-apply g test f types terms)
          ∙ ap (λ b. b || stands_in_application g test f (map (standing g test) terms) i)
          (and-false (test position))

  pub noted-variable : (position : Position) (n : ℕ) (t : Term) (binders : List Binder) →
      t ≡ term.Var n →
      noted (λ i. uses_of_variable position (eqb n i)) binders
      ≡ noted (uses_at g position t) binders
  noted-variable position n t binders is =
      noted-same _ _ binders
      (λ i. sym (ap (λ x. uses_at g position x i) is ∙ uses_at-variable position n i))

  pub noted-apply : (position : Position) (f : ℕ) (types : List Ty) (terms : List Term) (t : Term)
      (binders : List Binder) → t ≡ term.Apply f types terms →
      noted (uses_in_application g f terms) binders ≡ noted (uses_at g position t) binders
  noted-apply position f types terms t binders is =
      noted-same _ _ binders
      (λ i. sym (ap (λ x. uses_at g position x i) is ∙ uses_at-apply position f types terms i))

  -- the terms at argument places, one after another

  pub noted-no_places : (terms : List Term) (binders : List Binder) →
      noted (uses_in_arguments g [] terms) binders ≡ binders
  noted-no_places terms binders = noted-unused binders

  pub noted-no_terms : (covers : List Bool) (binders : List Binder) →
      noted (uses_in_arguments g covers []) binders ≡ binders
  noted-no_terms [] binders = noted-unused binders
  noted-no_terms (cover ∷ covers) binders = noted-unused binders

  pub noted-argument : (cover : Bool) (covers : List Bool) (t : Term) (terms : List Term)
      (binders : List Binder) →
      noted (uses_in_arguments g covers terms) (noted (uses_at g (Argument cover) t) binders)
      ≡ noted (uses_in_arguments g (cover ∷ covers) (t ∷ terms)) binders
  noted-argument cover covers t terms binders =
      noted-noted (uses_at g (Argument cover) t) (uses_in_arguments g covers terms) binders
      ∙ noted-same _ _ binders
      (λ i. either_first
      (is_covering (Argument cover) && (standing g is_covering t).here i)
      ((standing g is_covering t).inside i)
      (is_positive_side (Argument cover) && (standing g is_positive_side t).here i)
      ((standing g is_positive_side t).inside i)
      (uses_in_arguments g covers terms i))

  pub noted-covers_end : (covers : List Bool) (terms : List Term) (i : ℕ) (binders : List Binder) →
      length covers ≤ i →
      noted (uses_in_arguments g (drop i covers) (drop i terms)) binders ≡ binders
  noted-covers_end covers terms i binders ends =
      ap (λ xs. noted (uses_in_arguments g xs (drop i terms)) binders) (drop_all i covers ends)
      ∙ noted-no_places (drop i terms) binders

  pub noted-terms_end : (covers : List Bool) (terms : List Term) (i : ℕ) (binders : List Binder) →
      length terms ≤ i →
      noted (uses_in_arguments g (drop i covers) (drop i terms)) binders ≡ binders
  noted-terms_end covers terms i binders ends =
      ap (λ xs. noted (uses_in_arguments g (drop i covers) xs) binders) (drop_all i terms ends)
      ∙ noted-no_terms (drop i covers) binders

  pub noted-argument_at : (covers : List Bool) (terms : List Term) (i : ℕ) (t : Term)
      (binders : List Binder) → i < length covers → i < length terms → t ≡ get_or terms i t →
      noted (uses_in_arguments g (drop (i + 1) covers) (drop (i + 1) terms))
      (noted (uses_at g (Argument (get_or covers i false)) t) binders)
      ≡ noted (uses_in_arguments g (drop i covers) (drop i terms)) binders
  noted-argument_at covers terms i t binders more_covers more_terms is =
      noted-argument (get_or covers i false) (drop (i + 1) covers) t (drop (i + 1) terms) binders
      ∙ ap (λ xs. noted (uses_in_arguments g xs (t ∷ drop (i + 1) terms)) binders)
      (sym (drop_more covers i false more_covers))
      ∙ ap (λ xs. noted (uses_in_arguments g (drop i covers) xs) binders)
      (ap (λ x. x ∷ drop (i + 1) terms) is ∙ sym (drop_more terms i t more_terms))

  -- the parts of a formula, one after another

  pub noted-no_parts : (binders : List Binder) → noted (uses_in_parts g []) binders ≡ binders
  noted-no_parts binders = noted-unused binders

  pub noted-part : (part : Nnf) (parts : List Nnf) (binders : List Binder) →
      noted (uses_in_parts g parts) (noted (uses_in g part) binders)
      ≡ noted (uses_in_parts g (part ∷ parts)) binders
  noted-part part parts binders = noted-noted (uses_in g part) (uses_in_parts g parts) binders

  pub noted-parts_end : (parts : List Nnf) (i : ℕ) (binders : List Binder) → length parts ≤ i →
      noted (uses_in_parts g (drop i parts)) binders ≡ binders
  noted-parts_end parts i binders ends =
      ap (λ xs. noted (uses_in_parts g xs) binders) (drop_all i parts ends)
      ∙ noted-no_parts binders

  pub noted-part_at : (parts : List Nnf) (i : ℕ) (part : Nnf) (binders : List Binder) →
      i < length parts → part ≡ get_or parts i part →
      noted (uses_in_parts g (drop (i + 1) parts)) (noted (uses_in g part) binders)
      ≡ noted (uses_in_parts g (drop i parts)) binders
  noted-part_at parts i part binders more is =
      noted-part part (drop (i + 1) parts) binders
      ∙ ap (λ xs. noted (uses_in_parts g xs) binders)
      (ap (λ x. x ∷ drop (i + 1) parts) is ∙ sym (drop_more parts i part more))

  -- formulas

  module _ (p : Nnf) (binders : List Binder) where
    -- what is noted of the formula, by how the variables stand in each form of it
    noted_by : (q : Nnf) (uses : ℕ → Binder) → p ≡ q →
        ((i : ℕ) → uses_in g q i ≡ uses i) → noted uses binders ≡ noted (uses_in g p) binders
    noted_by q uses is same =
        noted-same _ _ binders (λ i. sym (ap (λ x. uses_in g x i) is ∙ same i))

    pub noted-true : p ≡ nnf.True → binders ≡ noted (uses_in g p) binders
    noted-true is =
        sym (noted-unused binders)
        ∙ noted_by nnf.True (λ i. unused) is
        (λ i. same_parts _ _ _ _ (stands-true g is_covering i) (stands-true g is_positive_side i))

    pub noted-false : p ≡ nnf.False → binders ≡ noted (uses_in g p) binders
    noted-false is =
        sym (noted-unused binders)
        ∙ noted_by nnf.False (λ i. unused) is
        (λ i. same_parts _ _ _ _ (stands-false g is_covering i) (stands-false g is_positive_side i))

    pub noted-atom : (positive : Bool) (f : ℕ) (types : List Ty) (terms : List Term) →
        p ≡ nnf.Atom positive f types terms →
        noted (uses_in_application g f terms) binders ≡ noted (uses_in g p) binders
    noted-atom positive f types terms is =
        noted_by (nnf.Atom positive f types terms) (uses_in_application g f terms) is
        (λ i. same_parts _ _ _ _ (stands-atom g is_covering positive f types terms i)
        (stands-atom g is_positive_side positive f types terms i))

    pub noted-equation : (positive : Bool) (ty : Ty) (left right : Term) →
        p ≡ nnf.Equation positive ty left right →
        noted (uses_at g (Side positive) right) (noted (uses_at g (Side positive) left) binders)
        ≡ noted (uses_in g p) binders
    noted-equation positive ty left right is =
        noted-noted (uses_at g (Side positive) left) (uses_at g (Side positive) right) binders
        ∙ noted_by (nnf.Equation positive ty left right)
        (λ i. either (uses_at g (Side positive) left i) (uses_at g (Side positive) right i)) is
        (λ i. same_parts _ _ _ _ (stands-equation g is_covering positive ty left right i)
        (stands-equation g is_positive_side positive ty left right i))

    pub noted-and : (parts : List Nnf) → p ≡ nnf.And parts →
        noted (uses_in_parts g parts) binders ≡ noted (uses_in g p) binders
    noted-and parts is =
        noted_by (nnf.And parts) (uses_in_parts g parts) is
        (λ i. same_parts _ _ _ _ (stands-and g is_covering parts i)
        (stands-and g is_positive_side parts i))

    pub noted-or : (parts : List Nnf) → p ≡ nnf.Or parts →
        noted (uses_in_parts g parts) binders ≡ noted (uses_in g p) binders
    noted-or parts is =
        noted_by (nnf.Or parts) (uses_in_parts g parts) is
        (λ i. same_parts _ _ _ _ (stands-or g is_covering parts i)
        (stands-or g is_positive_side parts i))

    pub noted-for_all : (ty : Ty) (body : Nnf) → p ≡ nnf.ForAll ty body →
        noted (λ i. uses_in g body (i + 1)) binders ≡ noted (uses_in g p) binders
    noted-for_all ty body is =
        noted_by (nnf.ForAll ty body) (λ i. uses_in g body (i + 1)) is
        (λ i. same_parts _ _ _ _ (stands-for_all g is_covering ty body i)
        (stands-for_all g is_positive_side ty body i))

    pub noted-exists : (ty : Ty) (body : Nnf) → p ≡ nnf.Exists ty body →
        noted (λ i. uses_in g body (i + 1)) binders ≡ noted (uses_in g p) binders
    noted-exists ty body is =
        noted_by (nnf.Exists ty body) (λ i. uses_in g body (i + 1)) is
        (λ i. same_parts _ _ _ _ (stands-exists g is_covering ty body i)
        (stands-exists g is_positive_side ty body i))
