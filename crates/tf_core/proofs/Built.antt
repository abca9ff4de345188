-- What is built from the parts of a type, term or formula: copies with variables replaced or raised.
use Rattle.std.specs.Prelude.{ℕ, ◌≡◌, ◌<◌, Bool, List, map, get_or, IsTrue}
use Rattle.std.specs.List.{list_all}
use Rattle.std.proofs.Common.{sym, ap, ◌∙◌}
use Rattle.std.proofs.lemmas.Bool.{ltb-true}
use Rattle.std.proofs.lemmas.List.Folds.{list_all-map}
use Rattle.tf_core.specs.declared.ty.Ty.{Ty}
use Rattle.tf_core.specs.declared.ty.Ty.TheVariants as type
use Rattle.tf_core.specs.declared.term.Term.{Term}
use Rattle.tf_core.specs.declared.term.Term.TheVariants as term
use Rattle.tf_core.specs.declared.nnf.Nnf.{Nnf}
use Rattle.tf_core.specs.declared.nnf.Nnf.TheVariants as nnf
use Rattle.tf_core.specs.Types.{instantiate}
use Rattle.tf_core.specs.Substitution.{raised, variables_below, shift, substitute_term, substitute_types}
use Rattle.tf_core.proofs.Types.{instantiate-variable, instantiate-apply}
use Rattle.tf_core.proofs.Substitution.{variables_below-variable, variables_below-apply, shift-variable, shift-apply, substitute_term-variable, substitute_term-apply, substitute_types-true, substitute_types-false, substitute_types-atom, substitute_types-equation, substitute_types-and, substitute_types-or, substitute_types-for_all, substitute_types-exists}

-- types

module _ (instances : List Ty) (ty : Ty) where
  pub type_variable : (i : ℕ) → ty ≡ type.Var i → get_or instances i (type.Var i) ≡ instantiate instances ty
  type_variable i is = sym (ap (instantiate instances) is ∙ instantiate-variable instances i)

  pub type_apply : (c : ℕ) (types made : List Ty) → ty ≡ type.Apply c types →
      made ≡ map (instantiate instances) types → type.Apply c made ≡ instantiate instances ty
  type_apply c types made is built =
      ap (type.Apply c) built ∙ sym (ap (instantiate instances) is ∙ instantiate-apply instances c types)

-- shifted terms

module _ (by from : ℕ) (t : Term) where
  pub shift_variable : (i made : ℕ) → t ≡ term.Var i → made ≡ raised by from i →
      term.Var made ≡ shift by from t
  shift_variable i made is built =
      ap term.Var built ∙ sym (ap (shift by from) is ∙ shift-variable by from i)

  pub shift_apply : (f : ℕ) (types made_types : List Ty) (terms made : List Term) →
      t ≡ term.Apply f types terms → made_types ≡ types → made ≡ map (shift by from) terms →
      term.Apply f made_types made ≡ shift by from t
  shift_apply f types made_types terms made is same built =
      ap (λ x. term.Apply f x made) same ∙ ap (term.Apply f types) built
      ∙ sym (ap (shift by from) is ∙ shift-apply by from f types terms)

-- what is asked of a shifted term's parts

module _ (bound by from : ℕ) (t : Term) where
  pub raised_below : (i : ℕ) → t ≡ term.Var i → IsTrue (variables_below bound (shift by from t)) →
      raised by from i < bound
  raised_below i is below =
      ltb-true (raised by from i) bound
      (sym (variables_below-variable bound (raised by from i))
      ∙ ap (variables_below bound) (sym (shift-variable by from i))
      ∙ ap (λ x. variables_below bound (shift by from x)) (sym is) ∙ below)

  pub arguments_below : (f : ℕ) (types : List Ty) (terms : List Term) →
      t ≡ term.Apply f types terms → IsTrue (variables_below bound (shift by from t)) →
      IsTrue (list_all (λ x. variables_below bound (shift by from x)) terms)
  arguments_below f types terms is below =
      sym (list_all-map (variables_below bound) (shift by from) terms)
      ∙ sym (variables_below-apply bound f types (map (shift by from) terms))
      ∙ ap (variables_below bound) (sym (shift-apply by from f types terms))
      ∙ ap (λ x. variables_below bound (shift by from x)) (sym is) ∙ below

-- terms with their types replaced

module _ (instances : List Ty) (t : Term) where
  pub term_variable : (i : ℕ) → t ≡ term.Var i → term.Var i ≡ substitute_term instances t
  term_variable i is = sym (ap (substitute_term instances) is ∙ substitute_term-variable instances i)

  pub term_apply : (f : ℕ) (types made_types : List Ty) (terms made : List Term) →
      t ≡ term.Apply f types terms → made_types ≡ map (instantiate instances) types →
      made ≡ map (substitute_term instances) terms →
      term.Apply f made_types made ≡ substitute_term instances t
  term_apply f types made_types terms made is built_types built =
      ap (λ x. term.Apply f x made) built_types
      ∙ ap (term.Apply f (map (instantiate instances) types)) built
      ∙ sym (ap (substitute_term instances) is ∙ substitute_term-apply instances f types terms)

-- formulas with their types replaced

module _ (instances : List Ty) (p : Nnf) where
  pub nnf_true : p ≡ nnf.True → nnf.True ≡ substitute_types instances p
  nnf_true is = sym (ap (substitute_types instances) is ∙ substitute_types-true instances)

  pub nnf_false : p ≡ nnf.False → nnf.False ≡ substitute_types instances p
  nnf_false is = sym (ap (substitute_types instances) is ∙ substitute_types-false instances)

  pub nnf_atom : (positive : Bool) (f : ℕ) (types made_types : List Ty) (terms made : List Term) →
      p ≡ nnf.Atom positive f types terms → made_types ≡ map (instantiate instances) types →
      made ≡ map (substitute_term instances) terms →
      nnf.Atom positive f made_types made ≡ substitute_types instances p
  nnf_atom positive f types made_types terms made is built_types built =
      ap (λ x. nnf.Atom positive f x made) built_types
      ∙ ap (nnf.Atom positive f (map (instantiate instances) types)) built
      ∙ sym (ap (substitute_types instances) is ∙ substitute_types-atom instances positive f types terms)

  pub nnf_equation : (positive : Bool) (ty made : Ty) (left made_left right made_right : Term) →
      p ≡ nnf.Equation positive ty left right → made ≡ instantiate instances ty →
      made_left ≡ substitute_term instances left → made_right ≡ substitute_term instances right →
      nnf.Equation positive made made_left made_right ≡ substitute_types instances p
  nnf_equation positive ty made left made_left right made_right is built built_left built_right =
      ap (λ x. nnf.Equation positive x made_left made_right) built
      ∙ ap (λ x. nnf.Equation positive (instantiate instances ty) x made_right) built_left
      ∙ ap (nnf.Equation positive (instantiate instances ty) (substitute_term instances left)) built_right
      ∙ sym (ap (substitute_types instances) is ∙ substitute_types-equation instances positive ty left right)

  pub nnf_and : (parts made : List Nnf) → p ≡ nnf.And parts →
      made ≡ map (substitute_types instances) parts → nnf.And made ≡ substitute_types instances p
  nnf_and parts made is built =
      ap nnf.And built ∙ sym (ap (substitute_types instances) is ∙ substitute_types-and instances parts)

  pub nnf_or : (parts made : List Nnf) → p ≡ nnf.Or parts →
      made ≡ map (substitute_types instances) parts → nnf.Or made ≡ substitute_types instances p
  nnf_or parts made is built =
      ap nnf.Or built ∙ sym (ap (substitute_types instances) is ∙ substitute_types-or instances parts)

  pub nnf_for_all : (ty made_ty : Ty) (body made : Nnf) → p ≡ nnf.ForAll ty body →
      made_ty ≡ instantiate instances ty → made ≡ substitute_types instances body →
      nnf.ForAll made_ty made ≡ substitute_types instances p
  nnf_for_all ty made_ty body made is built_ty built =
      ap (λ x. nnf.ForAll x made) built_ty
      ∙ ap (nnf.ForAll (instantiate instances ty)) built
      ∙ sym (ap (substitute_types instances) is ∙ substitute_types-for_all instances ty body)

  pub nnf_exists : (ty made_ty : Ty) (body made : Nnf) → p ≡ nnf.Exists ty body →
      made_ty ≡ instantiate instances ty → made ≡ substitute_types instances body →
      nnf.Exists made_ty made ≡ substitute_types instances p
  nnf_exists ty made_ty body made is built_ty built =
      ap (λ x. nnf.Exists x made) built_ty
      ∙ ap (nnf.Exists (instantiate instances ty)) built
      ∙ sym (ap (substitute_types instances) is ∙ substitute_types-exists instances ty body)
