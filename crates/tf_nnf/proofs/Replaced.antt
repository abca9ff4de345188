-- Values and truth where types without variables stand for type variables: those under the
-- members that the types are.
use Rattle.std.proofs.Common.{ℕ, ◌≡◌, List, [], ◌∷◌, map, get_or, refl, sym, ap, subst, ◌∙◌}
use Rattle.std.specs.Prelude.{◌&&◌, ◌||◌, eqb, slice_index}
use Rattle.std.specs.List.{list_all, list_any}
use Rattle.std.proofs.Math.ListN.{get_or-map}
use Rattle.enc_base.specs.Quantifiers.{all_below, some_below}
use Rattle.tf_core.specs.declared.ty.Ty.{Ty, roll-Ty}
use Rattle.tf_core.specs.declared.ty.Ty.TheVariants as type
use Rattle.tf_core.specs.declared.ty.Ty.TheOpen.{Ty-F}
use Rattle.tf_core.specs.declared.ty.Ty.TheOpen as type_layer
use Rattle.tf_core.specs.declared.ty.Ty.TheFolds.{ind-Ty, map-Ty}
use Rattle.tf_core.specs.declared.term.Term.{Term, roll-Term}
use Rattle.tf_core.specs.declared.term.Term.TheVariants as term
use Rattle.tf_core.specs.declared.term.Term.TheOpen.{Term-F}
use Rattle.tf_core.specs.declared.term.Term.TheOpen as term_layer
use Rattle.tf_core.specs.declared.term.Term.TheFolds.{ind-Term, map-Term}
use Rattle.tf_core.specs.declared.nnf.Nnf.{Nnf, roll-Nnf}
use Rattle.tf_core.specs.declared.nnf.Nnf.TheVariants as nnf
use Rattle.tf_core.specs.declared.nnf.Nnf.TheOpen.{Nnf-F}
use Rattle.tf_core.specs.declared.nnf.Nnf.TheOpen as nnf_layer
use Rattle.tf_core.specs.declared.nnf.Nnf.TheFolds.{ind-Nnf, map-Nnf}
use Rattle.tf_core.specs.Types.{instantiate, type_value}
use Rattle.tf_core.specs.Substitution.{substitute_term, substitute_types}
use Rattle.tf_core.specs.Structures.{Typed, size_of, member_of}
use Rattle.tf_core.specs.Truth.{value, holds_at, signed, normal_truth}
use Rattle.tf_nnf.proofs.FormsTruth.{all_below-same, some_below-same}
use Rattle.tf_nnf.proofs.Substitution.{instantiate-var, instantiate-apply, substitute_term-var, substitute_term-apply, substitute_types-true, substitute_types-false, substitute_types-atom, substitute_types-equation, substitute_types-and, substitute_types-or, substitute_types-for_all, substitute_types-exists}
use Rattle.tf_nnf.proofs.Truth.{type_value-var, type_value-apply, value-var, value-apply, normal_truth-true, normal_truth-false, normal_truth-atom, normal_truth-equation, normal_truth-and, normal_truth-or, normal_truth-for_all, normal_truth-exists}

-- maps over parts, at each of which two functions agree
map-parts : {A B : Type 0} (f : B → ℕ) (g : A → B) (h : A → ℕ) (parts : List ((x : A) × (f (g x) ≡ h x))) →
    map f (map g (map (λ (part : (x : A) × (f (g x) ≡ h x)). part.0) parts))
    ≡ map h (map (λ (part : (x : A) × (f (g x) ≡ h x)). part.0) parts)
map-parts f g h [] = refl
map-parts {A = A} f g h (part ∷ parts) =
    let rest : List A = map (λ (p : (x : A) × (f (g x) ≡ h x)). p.0) parts in
    ap (λ v. v ∷ map f (map g rest)) part.1 ∙ ap (λ vs. h part.0 ∷ vs) (map-parts f g h parts)

map-all : {A B : Type 0} (f : B → ℕ) (g : A → B) (h : A → ℕ) → ((x : A) → f (g x) ≡ h x) →
    (items : List A) → map f (map g items) ≡ map h items
map-all f g h same [] = refl
map-all f g h same (item ∷ items) =
    ap (λ v. v ∷ map f (map g items)) (same item) ∙ ap (λ vs. h item ∷ vs) (map-all f g h same items)

module _ (s : Typed) (types : List Ty) where
  -- the members that the types are
  abbrev pub members : List ℕ
  members = map (type_value s.constructor_at []) types

  -- types

  abbrev TypeReplaced : Ty → Type 0
  TypeReplaced ty =
      type_value s.constructor_at [] (instantiate types ty) ≡ type_value s.constructor_at members ty

  variable_replaced : (i : ℕ) →
      type_value s.constructor_at [] (get_or types i (type.Var i)) ≡ slice_index members i
  variable_replaced i =
      sym (get_or-map (type_value s.constructor_at []) types i (type.Var i))
      ∙ ap (get_or members i) (type_value-var s.constructor_at [] i)

  type_layer_replaced : (y : Ty-F ((ty : Ty) × TypeReplaced ty)) →
      TypeReplaced (roll-Ty (map-Ty ((ty : Ty) × TypeReplaced ty) Ty (λ part. part.0) y))
  type_layer_replaced (type_layer.Var i) =
      subst TypeReplaced (sym (type.rolls-Var i))
      (ap (type_value s.constructor_at []) (instantiate-var types i)
      ∙ variable_replaced i
      ∙ sym (type_value-var s.constructor_at members i))
  type_layer_replaced (type_layer.Apply c parts) =
      let arguments : List Ty = map (λ (part : (ty : Ty) × TypeReplaced ty). part.0) parts in
      subst TypeReplaced (sym (type.rolls-Apply c arguments))
      (ap (type_value s.constructor_at []) (instantiate-apply types c arguments)
      ∙ type_value-apply s.constructor_at [] c (map (instantiate types) arguments)
      ∙ ap (s.constructor_at c)
      (map-parts (type_value s.constructor_at []) (instantiate types) (type_value s.constructor_at members) parts)
      ∙ sym (type_value-apply s.constructor_at members c arguments))

  pub member_of-instantiate : (ty : Ty) → member_of s [] (instantiate types ty) ≡ member_of s members ty
  member_of-instantiate =
      ind-Ty TypeReplaced (λ x y is. subst (λ z. TypeReplaced (roll-Ty z)) is (type_layer_replaced y))

  members_of-instantiate : (arguments : List Ty) →
      map (member_of s []) (map (instantiate types) arguments) ≡ map (member_of s members) arguments
  members_of-instantiate = map-all (member_of s []) (instantiate types) (member_of s members) member_of-instantiate

  -- terms

  module _ (elements : List ℕ) where
    abbrev TermReplaced : Term → Type 0
    TermReplaced t = value s [] elements (substitute_term types t) ≡ value s members elements t

    term_layer_replaced : (y : Term-F ((t : Term) × TermReplaced t)) →
        TermReplaced (roll-Term (map-Term ((t : Term) × TermReplaced t) Term (λ part. part.0) y))
    term_layer_replaced (term_layer.Var i) =
        subst TermReplaced (sym (term.rolls-Var i))
        (ap (value s [] elements) (substitute_term-var types i)
        ∙ value-var s [] elements i
        ∙ sym (value-var s members elements i))
    term_layer_replaced (term_layer.Apply f arguments parts) =
        let terms : List Term = map (λ (part : (t : Term) × TermReplaced t). part.0) parts in
        subst TermReplaced (sym (term.rolls-Apply f arguments terms))
        (ap (value s [] elements) (substitute_term-apply types f arguments terms)
        ∙ value-apply s [] elements f (map (instantiate types) arguments) (map (substitute_term types) terms)
        ∙ ap (λ ms. s.symbol_at f ms (map (value s [] elements) (map (substitute_term types) terms)))
        (members_of-instantiate arguments)
        ∙ ap (s.symbol_at f (map (member_of s members) arguments))
        (map-parts (value s [] elements) (substitute_term types) (value s members elements) parts)
        ∙ sym (value-apply s members elements f arguments terms))

    pub value-substitute_term : (t : Term) →
        value s [] elements (substitute_term types t) ≡ value s members elements t
    value-substitute_term =
        ind-Term TermReplaced (λ x y is. subst (λ z. TermReplaced (roll-Term z)) is (term_layer_replaced y))

    holds_at-substitute_term : (f : ℕ) (arguments : List Ty) (terms : List Term) →
        holds_at s [] elements f (map (instantiate types) arguments) (map (substitute_term types) terms)
        ≡ holds_at s members elements f arguments terms
    holds_at-substitute_term f arguments terms =
        ap (λ ms. eqb (s.symbol_at f ms (map (value s [] elements) (map (substitute_term types) terms))) 1)
        (members_of-instantiate arguments)
        ∙ ap (λ vs. eqb (s.symbol_at f (map (member_of s members) arguments) vs) 1)
        (map-all (value s [] elements) (substitute_term types) (value s members elements) value-substitute_term terms)

  -- formulas

  abbrev NnfReplaced : Nnf → Type 0
  NnfReplaced n = (elements : List ℕ) →
      normal_truth s [] (substitute_types types n) elements ≡ normal_truth s members n elements

  abbrev formulas : List ((n : Nnf) × NnfReplaced n) → List Nnf
  formulas parts = map (λ (part : (n : Nnf) × NnfReplaced n). part.0) parts

  all_replaced : (elements : List ℕ) (parts : List ((n : Nnf) × NnfReplaced n)) →
      list_all (λ part. normal_truth s [] part elements) (map (substitute_types types) (formulas parts))
      ≡ list_all (λ part. normal_truth s members part elements) (formulas parts)
  all_replaced elements [] = refl
  all_replaced elements (part ∷ parts) =
      ap (λ x. x && list_all (λ p. normal_truth s [] p elements) (map (substitute_types types) (formulas parts)))
      (part.1 elements)
      ∙ ap (λ x. normal_truth s members part.0 elements && x) (all_replaced elements parts)

  any_replaced : (elements : List ℕ) (parts : List ((n : Nnf) × NnfReplaced n)) →
      list_any (λ part. normal_truth s [] part elements) (map (substitute_types types) (formulas parts))
      ≡ list_any (λ part. normal_truth s members part elements) (formulas parts)
  any_replaced elements [] = refl
  any_replaced elements (part ∷ parts) =
      ap (λ x. x || list_any (λ p. normal_truth s [] p elements) (map (substitute_types types) (formulas parts)))
      (part.1 elements)
      ∙ ap (λ x. normal_truth s members part.0 elements || x) (any_replaced elements parts)

  size_replaced : (ty : Ty) →
      size_of s (member_of s [] (instantiate types ty)) ≡ size_of s (member_of s members ty)
  size_replaced ty = ap (size_of s) (member_of-instantiate ty)

  nnf_layer_replaced : (y : Nnf-F ((n : Nnf) × NnfReplaced n)) →
      NnfReplaced (roll-Nnf (map-Nnf ((n : Nnf) × NnfReplaced n) Nnf (λ part. part.0) y))
  nnf_layer_replaced nnf_layer.True =
      subst NnfReplaced (sym nnf.rolls-True)
      (λ elements. ap (λ n. normal_truth s [] n elements) (substitute_types-true types)
      ∙ normal_truth-true s [] elements
      ∙ sym (normal_truth-true s members elements))
  nnf_layer_replaced nnf_layer.False =
      subst NnfReplaced (sym nnf.rolls-False)
      (λ elements. ap (λ n. normal_truth s [] n elements) (substitute_types-false types)
      ∙ normal_truth-false s [] elements
      ∙ sym (normal_truth-false s members elements))
  nnf_layer_replaced (nnf_layer.Atom positive f arguments terms) =
      subst NnfReplaced (sym (nnf.rolls-Atom positive f arguments terms))
      (λ elements. ap (λ n. normal_truth s [] n elements) (substitute_types-atom types positive f arguments terms)
      ∙ normal_truth-atom s [] positive f (map (instantiate types) arguments) (map (substitute_term types) terms) elements
      ∙ ap (signed positive) (holds_at-substitute_term elements f arguments terms)
      ∙ sym (normal_truth-atom s members positive f arguments terms elements))
  nnf_layer_replaced (nnf_layer.Equation positive ty left right) =
      subst NnfReplaced (sym (nnf.rolls-Equation positive ty left right))
      (λ elements. ap (λ n. normal_truth s [] n elements) (substitute_types-equation types positive ty left right)
      ∙ normal_truth-equation s [] positive (instantiate types ty) (substitute_term types left) (substitute_term types right) elements
      ∙ ap (λ v. signed positive (eqb v (value s [] elements (substitute_term types right))))
      (value-substitute_term elements left)
      ∙ ap (λ v. signed positive (eqb (value s members elements left) v)) (value-substitute_term elements right)
      ∙ sym (normal_truth-equation s members positive ty left right elements))
  nnf_layer_replaced (nnf_layer.And parts) =
      subst NnfReplaced (sym (nnf.rolls-And (formulas parts)))
      (λ elements. ap (λ n. normal_truth s [] n elements) (substitute_types-and types (formulas parts))
      ∙ normal_truth-and s [] (map (substitute_types types) (formulas parts)) elements
      ∙ all_replaced elements parts
      ∙ sym (normal_truth-and s members (formulas parts) elements))
  nnf_layer_replaced (nnf_layer.Or parts) =
      subst NnfReplaced (sym (nnf.rolls-Or (formulas parts)))
      (λ elements. ap (λ n. normal_truth s [] n elements) (substitute_types-or types (formulas parts))
      ∙ normal_truth-or s [] (map (substitute_types types) (formulas parts)) elements
      ∙ any_replaced elements parts
      ∙ sym (normal_truth-or s members (formulas parts) elements))
  nnf_layer_replaced (nnf_layer.ForAll ty part) =
      subst NnfReplaced (sym (nnf.rolls-ForAll ty part.0))
      (λ elements. ap (λ n. normal_truth s [] n elements) (substitute_types-for_all types ty part.0)
      ∙ normal_truth-for_all s [] (instantiate types ty) (substitute_types types part.0) elements
      ∙ ap (λ size. all_below size (λ element. normal_truth s [] (substitute_types types part.0) (element ∷ elements)))
      (size_replaced ty)
      ∙ all_below-same (size_of s (member_of s members ty)) _ _ (λ element. part.1 (element ∷ elements))
      ∙ sym (normal_truth-for_all s members ty part.0 elements))
  nnf_layer_replaced (nnf_layer.Exists ty part) =
      subst NnfReplaced (sym (nnf.rolls-Exists ty part.0))
      (λ elements. ap (λ n. normal_truth s [] n elements) (substitute_types-exists types ty part.0)
      ∙ normal_truth-exists s [] (instantiate types ty) (substitute_types types part.0) elements
      ∙ ap (λ size. some_below size (λ element. normal_truth s [] (substitute_types types part.0) (element ∷ elements)))
      (size_replaced ty)
      ∙ some_below-same (size_of s (member_of s members ty)) _ _ (λ element. part.1 (element ∷ elements))
      ∙ sym (normal_truth-exists s members ty part.0 elements))

  pub normal_truth-substitute_types : (n : Nnf) (elements : List ℕ) →
      normal_truth s [] (substitute_types types n) elements ≡ normal_truth s members n elements
  normal_truth-substitute_types =
      ind-Nnf NnfReplaced (λ x y is. subst (λ z. NnfReplaced (roll-Nnf z)) is (nnf_layer_replaced y))
