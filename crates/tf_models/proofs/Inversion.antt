-- What typing says of the parts of types, terms and formulas.
use Rattle.std.proofs.Common.{ℕ, ◌<◌, ◌≡◌, List, ◌∷◌, map, length, refl, sym, ap, subst, ◌∙◌}
use Rattle.std.specs.Prelude.{slice_get, Some}
use Rattle.tf_core.specs.declared.ty.Ty.{Ty, out-Ty, out-roll-Ty}
use Rattle.tf_core.specs.declared.ty.Ty.TheVariants as type
use Rattle.tf_core.specs.declared.ty.Ty.TheOpen.{Ty-F}
use Rattle.tf_core.specs.declared.ty.Ty.TheOpen as type_layer
use Rattle.tf_core.specs.declared.term.Term.{Term, out-Term, out-roll-Term}
use Rattle.tf_core.specs.declared.term.Term.TheVariants as term
use Rattle.tf_core.specs.declared.term.Term.TheOpen.{Term-F}
use Rattle.tf_core.specs.declared.term.Term.TheOpen as term_layer
use Rattle.tf_core.specs.declared.formula.Formula.{Formula, roll-Formula, out-Formula, out-roll-Formula}
use Rattle.tf_core.specs.declared.formula.Formula.TheVariants as formula
use Rattle.tf_core.specs.declared.formula.Formula.TheOpen.{Formula-F}
use Rattle.tf_core.specs.declared.formula.Formula.TheOpen as layer
use Rattle.tf_core.specs.declared.signature.Constructor.{Constructor}
use Rattle.tf_core.specs.declared.signature.Symbol.{Symbol}
use Rattle.tf_core.specs.declared.signature.Signature.{Signature}
use Rattle.tf_core.specs.Types.{instantiate}
use Rattle.tf_core.specs.Typing as typing
use Rattle.tf_core.specs.Typing.{IsType, AreTypes, IsInstance, HasType, HaveTypes, IsAtom, IsEquation, IsFormula, AreFormulas}

-- one layer of each variant

out-variable : (i : ℕ) → out-Ty (type.Var i) ≡ type_layer.Var i
out-variable i = ap out-Ty (sym (type.rolls-Var i)) ∙ out-roll-Ty (type_layer.Var i)

out-application : (c : ℕ) (types : List Ty) → out-Ty (type.Apply c types) ≡ type_layer.Apply c types
out-application c types =
    ap out-Ty (sym (type.rolls-Apply c types)) ∙ out-roll-Ty (type_layer.Apply c types)

out-term_variable : (i : ℕ) → out-Term (term.Var i) ≡ term_layer.Var i
out-term_variable i = ap out-Term (sym (term.rolls-Var i)) ∙ out-roll-Term (term_layer.Var i)

out-term_application : (f : ℕ) (types : List Ty) (terms : List Term) →
    out-Term (term.Apply f types terms) ≡ term_layer.Apply f types terms
out-term_application f types terms =
    ap out-Term (sym (term.rolls-Apply f types terms))
    ∙ out-roll-Term (term_layer.Apply f types terms)

-- types

module _ (g : Signature) (variables : ℕ) where
  abbrev TypeParts : Ty-F Ty → Type 0
  TypeParts (type_layer.Var i) = i < variables
  TypeParts (type_layer.Apply c types) =
      (constructor : Constructor) × (slice_get g.constructors c ≡ Some constructor)
      × (length types ≡ constructor.arity) × AreTypes g variables types

  type_parts : (ty : Ty) → IsType g variables ty → TypeParts (out-Ty ty)
  type_parts ty (typing.type_variable i within) = subst TypeParts (sym (out-variable i)) within
  type_parts ty (typing.type_apply c constructor types at count formed) =
      subst TypeParts (sym (out-application c types)) (constructor, at, count, formed)

  pub variable_parts : (ty : Ty) (i : ℕ) → ty ≡ type.Var i → IsType g variables ty → i < variables
  variable_parts ty i is typed =
      subst TypeParts (ap out-Ty is ∙ out-variable i) (type_parts ty typed)

  pub application_parts : (ty : Ty) (c : ℕ) (types : List Ty) → ty ≡ type.Apply c types →
      IsType g variables ty →
      (constructor : Constructor) × (slice_get g.constructors c ≡ Some constructor)
      × (length types ≡ constructor.arity) × AreTypes g variables types
  application_parts ty c types is typed =
      subst TypeParts (ap out-Ty is ∙ out-application c types) (type_parts ty typed)

-- terms

-- a symbol applied as a function
pub record IsApplied (g : Signature) (variables : ℕ) (context : List Ty) (f : ℕ) (types : List Ty)
    (terms : List Term) (ty : Ty) : Type 0 where
  pub symbol : Symbol
  pub result : Ty
  pub instance : IsInstance g variables f symbol (Some result) types
  pub arguments : HaveTypes g variables context terms (map (instantiate types) symbol.arguments)
  pub gives : ty ≡ instantiate types result

module _ (g : Signature) (variables : ℕ) (context : List Ty) where
  abbrev TermParts : Term-F Term → Ty → Type 0
  TermParts (term_layer.Var i) ty = slice_get context i ≡ Some ty
  TermParts (term_layer.Apply f types terms) ty = IsApplied g variables context f types terms ty

  term_parts : (t : Term) (ty : Ty) → HasType g variables context t ty → TermParts (out-Term t) ty
  term_parts t ty (typing.of_variable i declared at) =
      subst (λ x. TermParts x declared) (sym (out-term_variable i)) at
  term_parts t ty (typing.of_apply f symbol result types terms is have) =
      subst (λ x. TermParts x (instantiate types result)) (sym (out-term_application f types terms))
      (record { symbol = symbol; result = result; instance = is; arguments = have; gives = refl })

  pub term_variable_parts : (t : Term) (i : ℕ) (ty : Ty) → t ≡ term.Var i →
      HasType g variables context t ty → slice_get context i ≡ Some ty
  term_variable_parts t i ty is typed =
      subst (λ x. TermParts x ty) (ap out-Term is ∙ out-term_variable i) (term_parts t ty typed)

  pub term_application_parts : (t : Term) (f : ℕ) (types : List Ty) (terms : List Term) (ty : Ty) →
      t ≡ term.Apply f types terms → HasType g variables context t ty →
      IsApplied g variables context f types terms ty
  term_application_parts t f types terms ty is typed =
      subst (λ x. TermParts x ty) (ap out-Term is ∙ out-term_application f types terms)
      (term_parts t ty typed)

-- formulas

module _ (g : Signature) (variables : ℕ) (context : List Ty) where
  abbrev FormulaParts : Formula-F Formula → Type 0
  FormulaParts layer.True = Unit {0}
  FormulaParts layer.False = Unit {0}
  FormulaParts (layer.Atom f types terms) =
      (symbol : Symbol) × IsAtom g variables context f symbol types terms
  FormulaParts (layer.Equal ty left right) = IsEquation g variables context ty left right
  FormulaParts (layer.Not a) = IsFormula g variables context a
  FormulaParts (layer.And parts) = AreFormulas g variables context parts
  FormulaParts (layer.Or parts) = AreFormulas g variables context parts
  FormulaParts (layer.Implies a b) = IsFormula g variables context a ×
      IsFormula g variables context b
  FormulaParts (layer.If a b) = IsFormula g variables context a × IsFormula g variables context b
  FormulaParts (layer.Iff a b) = IsFormula g variables context a × IsFormula g variables context b
  FormulaParts (layer.Xor a b) = IsFormula g variables context a × IsFormula g variables context b
  FormulaParts (layer.Nand a b) = IsFormula g variables context a × IsFormula g variables context b
  FormulaParts (layer.Nor a b) = IsFormula g variables context a × IsFormula g variables context b
  FormulaParts (layer.ForAll ty body) = IsType g variables ty ×
      IsFormula g variables (ty ∷ context) body
  FormulaParts (layer.Exists ty body) = IsType g variables ty ×
      IsFormula g variables (ty ∷ context) body

out-formula : (x : Formula-F Formula) (p : Formula) → roll-Formula x ≡ p → out-Formula p ≡ x
out-formula x p rolls = ap out-Formula (sym rolls) ∙ out-roll-Formula x

-- what typing says of one layer of a formula
formula_parts : (g : Signature) (variables : ℕ) (context : List Ty) (p : Formula) →
    IsFormula g variables context p → FormulaParts g variables context (out-Formula p)
formula_parts g variables context q (typing.is_true around) =
    subst (FormulaParts g variables around)
    (sym (out-formula layer.True formula.True formula.rolls-True)) tt
formula_parts g variables context q (typing.is_false around) =
    subst (FormulaParts g variables around)
    (sym (out-formula layer.False formula.False formula.rolls-False)) tt
formula_parts g variables context q (typing.is_atom around p symbol types terms is) =
    subst (FormulaParts g variables around)
    (sym (out-formula (layer.Atom p types terms) (formula.Atom p types terms)
    (formula.rolls-Atom p types terms))) (symbol, is)
formula_parts g variables context q (typing.is_equal around ty left right is) =
    subst (FormulaParts g variables around)
    (sym (out-formula (layer.Equal ty left right) (formula.Equal ty left right)
    (formula.rolls-Equal ty left right))) is
formula_parts g variables context q (typing.is_not around a is) =
    subst (FormulaParts g variables around)
    (sym (out-formula (layer.Not a) (formula.Not a) (formula.rolls-Not a))) is
formula_parts g variables context q (typing.is_and around parts are) =
    subst (FormulaParts g variables around)
    (sym (out-formula (layer.And parts) (formula.And parts) (formula.rolls-And parts))) are
formula_parts g variables context q (typing.is_or around parts are) =
    subst (FormulaParts g variables around)
    (sym (out-formula (layer.Or parts) (formula.Or parts) (formula.rolls-Or parts))) are
formula_parts g variables context q (typing.is_implies around a b is also) =
    subst (FormulaParts g variables around)
    (sym (out-formula (layer.Implies a b) (formula.Implies a b) (formula.rolls-Implies a b)))
    (is, also)
formula_parts g variables context q (typing.is_if around a b is also) =
    subst (FormulaParts g variables around)
    (sym (out-formula (layer.If a b) (formula.If a b) (formula.rolls-If a b))) (is, also)
formula_parts g variables context q (typing.is_iff around a b is also) =
    subst (FormulaParts g variables around)
    (sym (out-formula (layer.Iff a b) (formula.Iff a b) (formula.rolls-Iff a b))) (is, also)
formula_parts g variables context q (typing.is_xor around a b is also) =
    subst (FormulaParts g variables around)
    (sym (out-formula (layer.Xor a b) (formula.Xor a b) (formula.rolls-Xor a b))) (is, also)
formula_parts g variables context q (typing.is_nand around a b is also) =
    subst (FormulaParts g variables around)
    (sym (out-formula (layer.Nand a b) (formula.Nand a b) (formula.rolls-Nand a b))) (is, also)
formula_parts g variables context q (typing.is_nor around a b is also) =
    subst (FormulaParts g variables around)
    (sym (out-formula (layer.Nor a b) (formula.Nor a b) (formula.rolls-Nor a b))) (is, also)
formula_parts g variables context q (typing.is_for_all around ty body formed is) =
    subst (FormulaParts g variables around)
    (sym (out-formula (layer.ForAll ty body) (formula.ForAll ty body)
    (formula.rolls-ForAll ty body))) (formed, is)
formula_parts g variables context q (typing.is_exists around ty body formed is) =
    subst (FormulaParts g variables around)
    (sym (out-formula (layer.Exists ty body) (formula.Exists ty body)
    (formula.rolls-Exists ty body))) (formed, is)

module _ (g : Signature) (variables : ℕ) (context : List Ty) (q : Formula)
    (typed : IsFormula g variables context q)
  where
    pub atom_parts : (p : ℕ) (types : List Ty) (terms : List Term) → q ≡ formula.Atom p types
        terms →
        (symbol : Symbol) × IsAtom g variables context p symbol types terms
    atom_parts p types terms is =
        subst (FormulaParts g variables context)
        (ap out-Formula is ∙ out-formula (layer.Atom p types terms) (formula.Atom p types terms)
        (formula.rolls-Atom p types terms)) (formula_parts g variables context q typed)

    pub equal_parts : (ty : Ty) (left right : Term) → q ≡ formula.Equal ty left right →
        IsEquation g variables context ty left right
    equal_parts ty left right is =
        subst (FormulaParts g variables context)
        (ap out-Formula is ∙ out-formula (layer.Equal ty left right) (formula.Equal ty left right)
        (formula.rolls-Equal ty left right)) (formula_parts g variables context q typed)

    pub not_parts : (a : Formula) → q ≡ formula.Not a →
        IsFormula g variables context a
    not_parts a is =
        subst (FormulaParts g variables context)
        (ap out-Formula is ∙ out-formula (layer.Not a) (formula.Not a) (formula.rolls-Not a))
        (formula_parts g variables context q typed)

    pub and_parts : (parts : List Formula) → q ≡ formula.And parts →
        AreFormulas g variables context parts
    and_parts parts is =
        subst (FormulaParts g variables context)
        (ap out-Formula is ∙ out-formula (layer.And parts) (formula.And parts)
        (formula.rolls-And parts)) (formula_parts g variables context q typed)

    pub or_parts : (parts : List Formula) → q ≡ formula.Or parts →
        AreFormulas g variables context parts
    or_parts parts is =
        subst (FormulaParts g variables context)
        (ap out-Formula is ∙ out-formula (layer.Or parts) (formula.Or parts)
        (formula.rolls-Or parts)) (formula_parts g variables context q typed)

    pub implies_parts : (a b : Formula) → q ≡ formula.Implies a b →
        IsFormula g variables context a × IsFormula g variables context b
    implies_parts a b is =
        subst (FormulaParts g variables context)
        (ap out-Formula is ∙ out-formula (layer.Implies a b) (formula.Implies a b)
        (formula.rolls-Implies a b)) (formula_parts g variables context q typed)

    pub if_parts : (a b : Formula) → q ≡ formula.If a b →
        IsFormula g variables context a × IsFormula g variables context b
    if_parts a b is =
        subst (FormulaParts g variables context)
        (ap out-Formula is ∙ out-formula (layer.If a b) (formula.If a b) (formula.rolls-If a b))
        (formula_parts g variables context q typed)

    pub iff_parts : (a b : Formula) → q ≡ formula.Iff a b →
        IsFormula g variables context a × IsFormula g variables context b
    iff_parts a b is =
        subst (FormulaParts g variables context)
        (ap out-Formula is ∙ out-formula (layer.Iff a b) (formula.Iff a b) (formula.rolls-Iff a b))
        (formula_parts g variables context q typed)

    pub xor_parts : (a b : Formula) → q ≡ formula.Xor a b →
        IsFormula g variables context a × IsFormula g variables context b
    xor_parts a b is =
        subst (FormulaParts g variables context)
        (ap out-Formula is ∙ out-formula (layer.Xor a b) (formula.Xor a b) (formula.rolls-Xor a b))
        (formula_parts g variables context q typed)

    pub nand_parts : (a b : Formula) → q ≡ formula.Nand a b →
        IsFormula g variables context a × IsFormula g variables context b
    nand_parts a b is =
        subst (FormulaParts g variables context)
        (ap out-Formula is ∙ out-formula (layer.Nand a b) (formula.Nand a b)
        (formula.rolls-Nand a b)) (formula_parts g variables context q typed)

    pub nor_parts : (a b : Formula) → q ≡ formula.Nor a b →
        IsFormula g variables context a × IsFormula g variables context b
    nor_parts a b is =
        subst (FormulaParts g variables context)
        (ap out-Formula is ∙ out-formula (layer.Nor a b) (formula.Nor a b) (formula.rolls-Nor a b))
        (formula_parts g variables context q typed)

    pub for_all_parts : (ty : Ty) (body : Formula) → q ≡ formula.ForAll ty body →
        IsType g variables ty × IsFormula g variables (ty ∷ context) body
    for_all_parts ty body is =
        subst (FormulaParts g variables context)
        (ap out-Formula is ∙ out-formula (layer.ForAll ty body) (formula.ForAll ty body)
        (formula.rolls-ForAll ty body)) (formula_parts g variables context q typed)

    pub exists_parts : (ty : Ty) (body : Formula) → q ≡ formula.Exists ty body →
        IsType g variables ty × IsFormula g variables (ty ∷ context) body
    exists_parts ty body is =
        subst (FormulaParts g variables context)
        (ap out-Formula is ∙ out-formula (layer.Exists ty body) (formula.Exists ty body)
        (formula.rolls-Exists ty body)) (formula_parts g variables context q typed)
