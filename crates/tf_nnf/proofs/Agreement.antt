-- Structures that agree on a signature: values and truth are the same in both.
use Rattle.std.proofs.Common.{ℕ, ◌<◌, ◌≡◌, List, ◌∷◌, map, length, refl, sym, ap, ◌∙◌}
use Rattle.std.specs.Prelude.{not, ◌&&◌, ◌||◌, eqb, slice_index}
use Rattle.std.specs.List.{list_all, list_any}
use Rattle.std.proofs.lemmas.Option.{slice_get_within}
use Rattle.enc_base.specs.Quantifiers.{all_below, some_below}
use Rattle.tf_core.specs.declared.ty.Ty.{Ty}
use Rattle.tf_core.specs.declared.term.Term.{Term}
use Rattle.tf_core.specs.declared.formula.Formula.{Formula}
use Rattle.tf_core.specs.declared.signature.Symbol.{Symbol}
use Rattle.tf_core.specs.declared.signature.Signature.{Signature}
use Rattle.tf_core.specs.Types.{instantiate, type_value}
use Rattle.tf_core.specs.Structures.{Typed, size_of, member_of}
use Rattle.tf_core.specs.Truth.{value, holds_at, implies, iff, truth}
use Rattle.tf_core.specs.Typing as typing
use Rattle.tf_core.specs.Typing.{IsType, AreTypes, HasType, HaveTypes, IsFormula, AreFormulas, IsSymbol}
use Rattle.tf_nnf.proofs.FormsTruth.{all_below-same, some_below-same}
use Rattle.tf_nnf.proofs.Truth.{type_value-var, type_value-apply, value-var, value-apply, truth-true, truth-false, truth-atom, truth-equal, truth-not, truth-and, truth-or, truth-implies, truth-if, truth-iff, truth-xor, truth-nand, truth-nor, truth-for_all, truth-exists}

-- types under two readings of the constructors that agree on those of the signature
module _ (g : Signature) (one other : ℕ → List ℕ → ℕ)
    (same : (c : ℕ) (members : List ℕ) → c < length g.constructors → one c members ≡ other c members) where
  mutual
    pub type_value-agree : (variables : ℕ) (members : List ℕ) (ty : Ty) → IsType g variables ty →
        type_value one members ty ≡ type_value other members ty
    type_value-agree variables members ty (typing.type_variable i within) =
        type_value-var one members i ∙ sym (type_value-var other members i)
    type_value-agree variables members ty (typing.type_apply c constructor types at count formed) =
        type_value-apply one members c types
        ∙ ap (one c) (type_values-agree variables members types formed)
        ∙ same c (map (type_value other members) types) (slice_get_within g.constructors c constructor at)
        ∙ sym (type_value-apply other members c types)

    pub type_values-agree : (variables : ℕ) (members : List ℕ) (types : List Ty) →
        AreTypes g variables types →
        map (type_value one members) types ≡ map (type_value other members) types
    type_values-agree variables members types typing.no_types = refl
    type_values-agree variables members types (typing.more_types ty rest formed others) =
        ap (λ v. v ∷ map (type_value one members) rest) (type_value-agree variables members ty formed)
        ∙ ap (λ vs. type_value other members ty ∷ vs) (type_values-agree variables members rest others)

-- the structures agree on the signature
pub record Agree (g : Signature) (s r : Typed) : Type 0 where
  pub sizes : s.sizes ≡ r.sizes
  pub constructors : (c : ℕ) (members : List ℕ) → c < length g.constructors →
      s.constructor_at c members ≡ r.constructor_at c members
  pub symbols : (f : ℕ) (members elements : List ℕ) →
      s.symbol_at f members elements ≡ r.symbol_at f members elements

module _ (g : Signature) (s r : Typed) (agree : Agree g s r) where
  pub member_of-agree : (variables : ℕ) (members : List ℕ) (ty : Ty) → IsType g variables ty →
      member_of s members ty ≡ member_of r members ty
  member_of-agree = type_value-agree g s.constructor_at r.constructor_at agree.constructors

  pub members_of-agree : (variables : ℕ) (members : List ℕ) (types : List Ty) →
      AreTypes g variables types → map (member_of s members) types ≡ map (member_of r members) types
  members_of-agree = type_values-agree g s.constructor_at r.constructor_at agree.constructors

  pub size_of-agree : (member : ℕ) → size_of s member ≡ size_of r member
  size_of-agree member = ap (λ (sizes : List ℕ). slice_index sizes member) agree.sizes

  pub argument_sizes-agree : (symbol : Symbol) (members : List ℕ) (types : List Ty) →
      AreTypes g symbol.parameters types →
      map (λ ty. size_of s (member_of s members ty)) types
      ≡ map (λ ty. size_of r (member_of r members ty)) types
  argument_sizes-agree symbol members types typing.no_types = refl
  argument_sizes-agree symbol members types (typing.more_types ty rest formed others) =
      ap (λ v. v ∷ map (λ t. size_of s (member_of s members t)) rest)
      (ap (size_of s) (member_of-agree symbol.parameters members ty formed)
      ∙ size_of-agree (member_of r members ty))
      ∙ ap (λ vs. size_of r (member_of r members ty) ∷ vs)
      (argument_sizes-agree symbol members rest others)

  mutual
    pub value-agree : (variables : ℕ) (context : List Ty) (members elements : List ℕ) (t : Term)
        (ty : Ty) → HasType g variables context t ty →
        value s members elements t ≡ value r members elements t
    value-agree variables context members elements t ty (typing.of_variable i declared at) =
        value-var s members elements i ∙ sym (value-var r members elements i)
    value-agree variables context members elements t ty (typing.of_apply f symbol result types terms instance have) =
        value-apply s members elements f types terms
        ∙ ap (λ ms. s.symbol_at f ms (map (value s members elements) terms))
        (members_of-agree variables members types instance.formed)
        ∙ ap (s.symbol_at f (map (member_of r members) types))
        (values-agree variables context members elements terms (map (instantiate types) symbol.arguments) have)
        ∙ agree.symbols f (map (member_of r members) types) (map (value r members elements) terms)
        ∙ sym (value-apply r members elements f types terms)

    pub values-agree : (variables : ℕ) (context : List Ty) (members elements : List ℕ)
        (terms : List Term) (types : List Ty) → HaveTypes g variables context terms types →
        map (value s members elements) terms ≡ map (value r members elements) terms
    values-agree variables context members elements terms types typing.no_terms = refl
    values-agree variables context members elements terms types (typing.more_terms t ty rest others has have) =
        ap (λ v. v ∷ map (value s members elements) rest)
        (value-agree variables context members elements t ty has)
        ∙ ap (λ vs. value r members elements t ∷ vs)
        (values-agree variables context members elements rest others have)

  holds_at-agree : (variables : ℕ) (context : List Ty) (members elements : List ℕ) (f : ℕ)
      (symbol : Symbol) (types : List Ty) (terms : List Term) →
      typing.IsAtom g variables context f symbol types terms →
      holds_at s members elements f types terms ≡ holds_at r members elements f types terms
  holds_at-agree variables context members elements f symbol types terms is =
      ap (λ ms. eqb (s.symbol_at f ms (map (value s members elements) terms)) 1)
      (members_of-agree variables members types is.predicate.formed)
      ∙ ap (λ vs. eqb (s.symbol_at f (map (member_of r members) types) vs) 1)
      (values-agree variables context members elements terms (map (instantiate types) symbol.arguments) is.arguments)
      ∙ ap (λ v. eqb v 1)
      (agree.symbols f (map (member_of r members) types) (map (value r members elements) terms))

  size-agree : (variables : ℕ) (members : List ℕ) (ty : Ty) → IsType g variables ty →
      size_of s (member_of s members ty) ≡ size_of r (member_of r members ty)
  size-agree variables members ty formed =
      ap (size_of s) (member_of-agree variables members ty formed)
      ∙ size_of-agree (member_of r members ty)

  mutual
    pub truth-agree : (variables : ℕ) (members : List ℕ) (context : List Ty) (f : Formula) →
        IsFormula g variables context f → (elements : List ℕ) →
        truth s members f elements ≡ truth r members f elements
    truth-agree variables members context f (typing.is_true around) elements =
        truth-true s members elements ∙ sym (truth-true r members elements)
    truth-agree variables members context f (typing.is_false around) elements =
        truth-false s members elements ∙ sym (truth-false r members elements)
    truth-agree variables members context f (typing.is_atom around p symbol types terms is) elements =
        truth-atom s members p types terms elements
        ∙ holds_at-agree variables around members elements p symbol types terms is
        ∙ sym (truth-atom r members p types terms elements)
    truth-agree variables members context f (typing.is_equal around ty left right is) elements =
        truth-equal s members ty left right elements
        ∙ ap (λ v. eqb v (value s members elements right))
        (value-agree variables around members elements left ty is.left_side)
        ∙ ap (λ v. eqb (value r members elements left) v)
        (value-agree variables around members elements right ty is.right_side)
        ∙ sym (truth-equal r members ty left right elements)
    truth-agree variables members context f (typing.is_not around a is) elements =
        truth-not s members a elements
        ∙ ap not (truth-agree variables members around a is elements)
        ∙ sym (truth-not r members a elements)
    truth-agree variables members context f (typing.is_and around parts are) elements =
        truth-and s members parts elements
        ∙ all-agree variables members around parts are elements
        ∙ sym (truth-and r members parts elements)
    truth-agree variables members context f (typing.is_or around parts are) elements =
        truth-or s members parts elements
        ∙ any-agree variables members around parts are elements
        ∙ sym (truth-or r members parts elements)
    truth-agree variables members context f (typing.is_implies around a b is also) elements =
        truth-implies s members a b elements
        ∙ ap (λ x. implies x (truth s members b elements)) (truth-agree variables members around a is elements)
        ∙ ap (λ x. implies (truth r members a elements) x) (truth-agree variables members around b also elements)
        ∙ sym (truth-implies r members a b elements)
    truth-agree variables members context f (typing.is_if around a b is also) elements =
        truth-if s members a b elements
        ∙ ap (λ x. implies (truth s members b elements) x) (truth-agree variables members around a is elements)
        ∙ ap (λ x. implies x (truth r members a elements)) (truth-agree variables members around b also elements)
        ∙ sym (truth-if r members a b elements)
    truth-agree variables members context f (typing.is_iff around a b is also) elements =
        truth-iff s members a b elements
        ∙ ap (λ x. iff x (truth s members b elements)) (truth-agree variables members around a is elements)
        ∙ ap (λ x. iff (truth r members a elements) x) (truth-agree variables members around b also elements)
        ∙ sym (truth-iff r members a b elements)
    truth-agree variables members context f (typing.is_xor around a b is also) elements =
        truth-xor s members a b elements
        ∙ ap (λ x. not (iff x (truth s members b elements))) (truth-agree variables members around a is elements)
        ∙ ap (λ x. not (iff (truth r members a elements) x)) (truth-agree variables members around b also elements)
        ∙ sym (truth-xor r members a b elements)
    truth-agree variables members context f (typing.is_nand around a b is also) elements =
        truth-nand s members a b elements
        ∙ ap (λ x. not (x && truth s members b elements)) (truth-agree variables members around a is elements)
        ∙ ap (λ x. not (truth r members a elements && x)) (truth-agree variables members around b also elements)
        ∙ sym (truth-nand r members a b elements)
    truth-agree variables members context f (typing.is_nor around a b is also) elements =
        truth-nor s members a b elements
        ∙ ap (λ x. not (x || truth s members b elements)) (truth-agree variables members around a is elements)
        ∙ ap (λ x. not (truth r members a elements || x)) (truth-agree variables members around b also elements)
        ∙ sym (truth-nor r members a b elements)
    truth-agree variables members context f (typing.is_for_all around ty body formed is) elements =
        truth-for_all s members ty body elements
        ∙ ap (λ n. all_below n (λ element. truth s members body (element ∷ elements)))
        (size-agree variables members ty formed)
        ∙ all_below-same (size_of r (member_of r members ty)) _ _
        (λ element. truth-agree variables members (ty ∷ around) body is (element ∷ elements))
        ∙ sym (truth-for_all r members ty body elements)
    truth-agree variables members context f (typing.is_exists around ty body formed is) elements =
        truth-exists s members ty body elements
        ∙ ap (λ n. some_below n (λ element. truth s members body (element ∷ elements)))
        (size-agree variables members ty formed)
        ∙ some_below-same (size_of r (member_of r members ty)) _ _
        (λ element. truth-agree variables members (ty ∷ around) body is (element ∷ elements))
        ∙ sym (truth-exists r members ty body elements)

    all-agree : (variables : ℕ) (members : List ℕ) (context : List Ty) (parts : List Formula) →
        AreFormulas g variables context parts → (elements : List ℕ) →
        list_all (λ part. truth s members part elements) parts
        ≡ list_all (λ part. truth r members part elements) parts
    all-agree variables members context parts (typing.no_formulas around) elements = refl
    all-agree variables members context parts (typing.more_formulas around part rest is are) elements =
        ap (λ x. x && list_all (λ p. truth s members p elements) rest)
        (truth-agree variables members around part is elements)
        ∙ ap (λ x. truth r members part elements && x)
        (all-agree variables members around rest are elements)

    any-agree : (variables : ℕ) (members : List ℕ) (context : List Ty) (parts : List Formula) →
        AreFormulas g variables context parts → (elements : List ℕ) →
        list_any (λ part. truth s members part elements) parts
        ≡ list_any (λ part. truth r members part elements) parts
    any-agree variables members context parts (typing.no_formulas around) elements = refl
    any-agree variables members context parts (typing.more_formulas around part rest is are) elements =
        ap (λ x. x || list_any (λ p. truth s members p elements) rest)
        (truth-agree variables members around part is elements)
        ∙ ap (λ x. truth r members part elements || x)
        (any-agree variables members around rest are elements)
