-- What a test of the parts of a formula makes.
use Rattle.std.specs.Prelude.{ℕ, ◌≡◌, Bool, true, ◌&&◌, List, ◌∷◌}
use Rattle.std.specs.List.{list_all}
use Rattle.std.proofs.Common.{sym, ap, ◌∙◌}
use Rattle.tf_core.specs.declared.ty.Ty.{Ty}
use Rattle.tf_core.specs.declared.term.Term.{Term}
use Rattle.tf_core.specs.declared.formula.Formula.{Formula}
use Rattle.tf_core.specs.declared.formula.Formula.TheVariants as formula
use Rattle.tf_core.specs.declared.signature.Signature.{Signature}
use Rattle.tf_core.specs.TypingTests.{is_type, is_formula, is_atom_test, is_equation_test}
use Rattle.tf_core.proofs.TypingTests.{is_formula-true, is_formula-false, is_formula-atom, is_formula-equal, is_formula-not, is_formula-and, is_formula-or, is_formula-for_all, is_formula-exists}

module _ (g : Signature) (variables : ℕ) (context : List Ty) (p : Formula) where
  abbrev typed : Formula → Bool
  typed q = is_formula g variables q context

  pub at_true : p ≡ formula.True → true ≡ typed p
  at_true is = sym (ap typed is ∙ is_formula-true g variables context)

  pub at_false : p ≡ formula.False → true ≡ typed p
  at_false is = sym (ap typed is ∙ is_formula-false g variables context)

  pub at_atom : (f : ℕ) (types ts : List Ty) (terms ms : List Term) (answer : Bool) →
      p ≡ formula.Atom f types terms → ts ≡ types → ms ≡ terms →
      answer ≡ is_atom_test g variables context f ts ms → answer ≡ typed p
  at_atom f types ts terms ms answer is types_are terms_are decides =
      decides
      ∙ ap (λ x. is_atom_test g variables context f x ms) types_are
      ∙ ap (is_atom_test g variables context f types) terms_are
      ∙ sym (ap typed is ∙ is_formula-atom g variables f types terms context)

  pub at_equal : (ty : Ty) (left right : Term) (answer : Bool) →
      p ≡ formula.Equal ty left right →
      answer ≡ is_equation_test g variables context ty left right → answer ≡ typed p
  at_equal ty left right answer is decides =
      decides ∙ sym (ap typed is ∙ is_formula-equal g variables ty left right context)

  pub at_not : (a one : Formula) → p ≡ formula.Not a → one ≡ a → typed one ≡ typed p
  at_not a one is same = ap typed same ∙ sym (ap typed is ∙ is_formula-not g variables a context)

  -- two parts, the first of which was tested before, the second in the context that was left
  pub at_two : (a b one : Formula) (first : Bool) (after : List Ty) → typed p ≡ (typed a && typed b) →
      one ≡ a → first ≡ typed one → after ≡ context →
      (first && is_formula g variables b after) ≡ typed p
  at_two a b one first after whole same decides kept =
      ap (λ x. x && is_formula g variables b after) (decides ∙ ap typed same)
      ∙ ap (λ x. typed a && is_formula g variables b x) kept
      ∙ sym whole

  pub at_and : (parts ps : List Formula) → p ≡ formula.And parts → ps ≡ parts →
      list_all typed ps ≡ typed p
  at_and parts ps is same =
      ap (list_all typed) same ∙ sym (ap typed is ∙ is_formula-and g variables parts context)

  pub at_or : (parts ps : List Formula) → p ≡ formula.Or parts → ps ≡ parts →
      list_all typed ps ≡ typed p
  at_or parts ps is same =
      ap (list_all typed) same ∙ sym (ap typed is ∙ is_formula-or g variables parts context)

  pub at_for_all : (ty : Ty) (body : Formula) → p ≡ formula.ForAll ty body →
      (is_type g variables ty && is_formula g variables body (ty ∷ context)) ≡ typed p
  at_for_all ty body is = sym (ap typed is ∙ is_formula-for_all g variables ty body context)

  pub at_exists : (ty : Ty) (body : Formula) → p ≡ formula.Exists ty body →
      (is_type g variables ty && is_formula g variables body (ty ∷ context)) ≡ typed p
  at_exists ty body is = sym (ap typed is ∙ is_formula-exists g variables ty body context)
