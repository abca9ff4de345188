-- The equations of the forms that are made.
use Rattle.std.proofs.Common.{ℕ, ◌≡◌, Bool, true, false, List, [], ◌∷◌, map, ap, ◌∙◌}
use Rattle.std.specs.Prelude.{not}
use Rattle.tf_core.specs.declared.ty.Ty.{Ty}
use Rattle.tf_core.specs.declared.term.Term.{Term}
use Rattle.tf_core.specs.declared.nnf.Nnf.{Nnf}
use Rattle.tf_core.specs.declared.nnf.Nnf.TheVariants as nnf
use Rattle.tf_core.specs.declared.formula.Formula.{Formula}
use Rattle.tf_core.specs.declared.formula.Formula.TheVariants as formula
use Rattle.tf_core.specs.Types.{instantiate}
use Rattle.tf_core.specs.Substitution.{substitute_term, substitute_types}
use Rattle.tf_nnf.specs.Forms.{Forms, positive_form, negative_form, both, either, constant, joined, quantified, equal_forms}
use Rattle.tf_nnf.specs.NormalForm.{fresh_types, made}
use Rattle.tf_nnf.proofs.Lists.{map-map}
use Rattle.tf_nnf.proofs.Forms.{forms-true, forms-false, forms-atom, forms-equal, forms-not, forms-and, forms-or, forms-implies, forms-if, forms-iff, forms-xor, forms-nand, forms-nor, forms-for_all, forms-exists}
use Rattle.tf_nnf.proofs.Substitution.{substitute_types-true, substitute_types-false, substitute_types-atom, substitute_types-equation, substitute_types-and, substitute_types-or, substitute_types-for_all, substitute_types-exists}

module _ (first count : ℕ) where
  abbrev types : List Ty
  types = fresh_types first count

  abbrev positive : Forms → Nnf
  positive forms = substitute_types (fresh_types first count) forms.positive

  abbrev negative : Forms → Nnf
  negative forms = substitute_types (fresh_types first count) forms.negative

  pub made-true : (sign : Bool) →
      made first count sign formula.True
      ≡ constant sign
  unfolding made
  made-true true =
      ap positive forms-true
      ∙ substitute_types-true types
  made-true false =
      ap negative forms-true
      ∙ substitute_types-false types

  pub made-false : (sign : Bool) →
      made first count sign formula.False
      ≡ constant (not sign)
  unfolding made
  made-false true =
      ap positive forms-false
      ∙ substitute_types-false types
  made-false false =
      ap negative forms-false
      ∙ substitute_types-true types

  pub made-atom : (sign : Bool) (f : ℕ) (arguments : List Ty) (terms : List Term) →
      made first count sign (formula.Atom f arguments terms)
      ≡ nnf.Atom sign f (map (instantiate (fresh_types first count)) arguments)
      (map (substitute_term (fresh_types first count)) terms)
  unfolding made
  made-atom true f arguments terms =
      ap positive (forms-atom f arguments terms)
      ∙ substitute_types-atom types true f arguments terms
  made-atom false f arguments terms =
      ap negative (forms-atom f arguments terms)
      ∙ substitute_types-atom types false f arguments terms

  pub made-equal : (sign : Bool) (ty : Ty) (left right : Term) →
      made first count sign (formula.Equal ty left right)
      ≡ nnf.Equation sign (instantiate (fresh_types first count) ty)
      (substitute_term (fresh_types first count) left) (substitute_term (fresh_types first count) right)
  unfolding made
  made-equal true ty left right =
      ap positive (forms-equal ty left right)
      ∙ substitute_types-equation types true ty left right
  made-equal false ty left right =
      ap negative (forms-equal ty left right)
      ∙ substitute_types-equation types false ty left right

  pub made-not : (sign : Bool) (a : Formula) →
      made first count sign (formula.Not a)
      ≡ made first count (not sign) a
  unfolding made
  made-not true a =
      ap positive (forms-not a)
  made-not false a =
      ap negative (forms-not a)

  pub made-and : (sign : Bool) (parts : List Formula) →
      made first count sign (formula.And parts)
      ≡ joined sign (map (made first count sign) parts)
  unfolding made
  made-and true parts =
      ap positive (forms-and parts)
      ∙ substitute_types-and types (map positive_form parts)
      ∙ ap nnf.And (map-map (substitute_types types) positive_form parts)
  made-and false parts =
      ap negative (forms-and parts)
      ∙ substitute_types-or types (map negative_form parts)
      ∙ ap nnf.Or (map-map (substitute_types types) negative_form parts)

  pub made-or : (sign : Bool) (parts : List Formula) →
      made first count sign (formula.Or parts)
      ≡ joined (not sign) (map (made first count sign) parts)
  unfolding made
  made-or true parts =
      ap positive (forms-or parts)
      ∙ substitute_types-or types (map positive_form parts)
      ∙ ap nnf.Or (map-map (substitute_types types) positive_form parts)
  made-or false parts =
      ap negative (forms-or parts)
      ∙ substitute_types-and types (map negative_form parts)
      ∙ ap nnf.And (map-map (substitute_types types) negative_form parts)

  pub made-implies : (sign : Bool) (a b : Formula) →
      made first count sign (formula.Implies a b)
      ≡ joined (not sign) (made first count (not sign) a ∷ made first count sign b ∷ [])
  unfolding made
  made-implies true a b =
      ap positive (forms-implies a b)
      ∙ substitute_types-or types (negative_form a ∷ positive_form b ∷ [])
  made-implies false a b =
      ap negative (forms-implies a b)
      ∙ substitute_types-and types (positive_form a ∷ negative_form b ∷ [])

  pub made-if : (sign : Bool) (a b : Formula) →
      made first count sign (formula.If a b)
      ≡ joined (not sign) (made first count sign a ∷ made first count (not sign) b ∷ [])
  unfolding made
  made-if true a b =
      ap positive (forms-if a b)
      ∙ substitute_types-or types (positive_form a ∷ negative_form b ∷ [])
  made-if false a b =
      ap negative (forms-if a b)
      ∙ substitute_types-and types (negative_form a ∷ positive_form b ∷ [])

  pub made-nand : (sign : Bool) (a b : Formula) →
      made first count sign (formula.Nand a b)
      ≡ joined (not sign) (made first count (not sign) a ∷ made first count (not sign) b ∷ [])
  unfolding made
  made-nand true a b =
      ap positive (forms-nand a b)
      ∙ substitute_types-or types (negative_form a ∷ negative_form b ∷ [])
  made-nand false a b =
      ap negative (forms-nand a b)
      ∙ substitute_types-and types (positive_form a ∷ positive_form b ∷ [])

  pub made-nor : (sign : Bool) (a b : Formula) →
      made first count sign (formula.Nor a b)
      ≡ joined sign (made first count (not sign) a ∷ made first count (not sign) b ∷ [])
  unfolding made
  made-nor true a b =
      ap positive (forms-nor a b)
      ∙ substitute_types-and types (negative_form a ∷ negative_form b ∷ [])
  made-nor false a b =
      ap negative (forms-nor a b)
      ∙ substitute_types-or types (positive_form a ∷ positive_form b ∷ [])

  -- what `a <=> b` becomes, and where the sign is false its negation
  abbrev pub made_equal : Bool → Formula → Formula → Nnf
  made_equal sign a b =
      equal_forms sign (made first count true a) (made first count false a)
      (made first count true b) (made first count false b)

  both_either : (a b c d : Nnf) →
      substitute_types types (both (either a b) (either c d))
      ≡ both (either (substitute_types types a) (substitute_types types b))
      (either (substitute_types types c) (substitute_types types d))
  both_either a b c d =
      substitute_types-and types (either a b ∷ either c d ∷ [])
      ∙ ap (λ x. both x (substitute_types types (either c d))) (substitute_types-or types (a ∷ b ∷ []))
      ∙ ap (λ x. both (either (substitute_types types a) (substitute_types types b)) x)
      (substitute_types-or types (c ∷ d ∷ []))

  pub made-iff : (sign : Bool) (a b : Formula) →
      made first count sign (formula.Iff a b)
      ≡ made_equal sign a b
  unfolding made
  made-iff true a b =
      ap positive (forms-iff a b)
      ∙ both_either (negative_form a) (positive_form b) (negative_form b) (positive_form a)
  made-iff false a b =
      ap negative (forms-iff a b)
      ∙ both_either (positive_form a) (positive_form b) (negative_form a) (negative_form b)

  pub made-xor : (sign : Bool) (a b : Formula) →
      made first count sign (formula.Xor a b)
      ≡ made_equal (not sign) a b
  unfolding made
  made-xor true a b =
      ap positive (forms-xor a b)
      ∙ both_either (positive_form a) (positive_form b) (negative_form a) (negative_form b)
  made-xor false a b =
      ap negative (forms-xor a b)
      ∙ both_either (negative_form a) (positive_form b) (negative_form b) (positive_form a)

  pub made-for_all : (sign : Bool) (ty : Ty) (body : Formula) →
      made first count sign (formula.ForAll ty body)
      ≡ quantified sign (instantiate (fresh_types first count) ty) (made first count sign body)
  unfolding made
  made-for_all true ty body =
      ap positive (forms-for_all ty body)
      ∙ substitute_types-for_all types ty (positive_form body)
  made-for_all false ty body =
      ap negative (forms-for_all ty body)
      ∙ substitute_types-exists types ty (negative_form body)

  pub made-exists : (sign : Bool) (ty : Ty) (body : Formula) →
      made first count sign (formula.Exists ty body)
      ≡ quantified (not sign) (instantiate (fresh_types first count) ty) (made first count sign body)
  unfolding made
  made-exists true ty body =
      ap positive (forms-exists ty body)
      ∙ substitute_types-exists types ty (positive_form body)
  made-exists false ty body =
      ap negative (forms-exists ty body)
      ∙ substitute_types-for_all types ty (negative_form body)
