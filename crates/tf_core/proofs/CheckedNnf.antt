-- What a test of the parts of a formula in negation normal form makes.
use Rattle.std.specs.Prelude.{ℕ, ◌≡◌, Bool, true, ◌&&◌, List, ◌∷◌}
use Rattle.std.specs.List.{list_all}
use Rattle.std.proofs.Common.{sym, ap, ◌∙◌}
use Rattle.tf_core.specs.declared.ty.Ty.{Ty}
use Rattle.tf_core.specs.declared.term.Term.{Term}
use Rattle.tf_core.specs.declared.nnf.Nnf.{Nnf}
use Rattle.tf_core.specs.declared.nnf.Nnf.TheVariants as nnf
use Rattle.tf_core.specs.declared.signature.Signature.{Signature}
use Rattle.tf_core.specs.TypingTests.{is_type, is_nnf, is_atom_test, is_equation_test}
use Rattle.tf_core.proofs.TypingTests.{is_nnf-true, is_nnf-false, is_nnf-atom, is_nnf-equation, is_nnf-and, is_nnf-or, is_nnf-for_all, is_nnf-exists}

module _ (g : Signature) (variables : ℕ) (context : List Ty) (p : Nnf) where
  abbrev typed : Nnf → Bool
  typed q = is_nnf g variables q context

  pub at_true : p ≡ nnf.True → true ≡ typed p
  at_true is = sym (ap typed is ∙ is_nnf-true g variables context)

  pub at_false : p ≡ nnf.False → true ≡ typed p
  at_false is = sym (ap typed is ∙ is_nnf-false g variables context)

  pub at_atom : (positive : Bool) (f : ℕ) (types ts : List Ty) (terms ms : List Term) (answer : Bool) →
      p ≡ nnf.Atom positive f types terms → ts ≡ types → ms ≡ terms →
      answer ≡ is_atom_test g variables context f ts ms → answer ≡ typed p
  at_atom positive f types ts terms ms answer is types_are terms_are decides =
      decides
      ∙ ap (λ x. is_atom_test g variables context f x ms) types_are
      ∙ ap (is_atom_test g variables context f types) terms_are
      ∙ sym (ap typed is ∙ is_nnf-atom g variables positive f types terms context)

  pub at_equation : (positive : Bool) (ty : Ty) (left right : Term) (answer : Bool) →
      p ≡ nnf.Equation positive ty left right →
      answer ≡ is_equation_test g variables context ty left right → answer ≡ typed p
  at_equation positive ty left right answer is decides =
      decides ∙ sym (ap typed is ∙ is_nnf-equation g variables positive ty left right context)

  pub at_and : (parts ps : List Nnf) → p ≡ nnf.And parts → ps ≡ parts →
      list_all typed ps ≡ typed p
  at_and parts ps is same =
      ap (list_all typed) same ∙ sym (ap typed is ∙ is_nnf-and g variables parts context)

  pub at_or : (parts ps : List Nnf) → p ≡ nnf.Or parts → ps ≡ parts →
      list_all typed ps ≡ typed p
  at_or parts ps is same =
      ap (list_all typed) same ∙ sym (ap typed is ∙ is_nnf-or g variables parts context)

  pub at_for_all : (ty : Ty) (body : Nnf) → p ≡ nnf.ForAll ty body →
      (is_type g variables ty && is_nnf g variables body (ty ∷ context)) ≡ typed p
  at_for_all ty body is = sym (ap typed is ∙ is_nnf-for_all g variables ty body context)

  pub at_exists : (ty : Ty) (body : Nnf) → p ≡ nnf.Exists ty body →
      (is_type g variables ty && is_nnf g variables body (ty ∷ context)) ≡ typed p
  at_exists ty body is = sym (ap typed is ∙ is_nnf-exists g variables ty body context)
