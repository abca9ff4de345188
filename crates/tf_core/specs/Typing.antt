-- When types, terms, formulas, signatures and problems are well typed, as relations.
-- A signature g and a number of type variables are given; a context is the list of the types of the
-- term variables, the nearest binder's first.
use Rattle.std.specs.Prelude.{ℕ, ◌<◌, ◌≡◌, Bool, List, [], ◌∷◌, map, length, slice_get, Option, Some, None}
use Rattle.std.specs.List.{AllByRecursion}
use Rattle.tf_core.specs.declared.ty.Ty.{Ty}
use Rattle.tf_core.specs.declared.ty.Ty.TheVariants as type
use Rattle.tf_core.specs.declared.term.Term.{Term}
use Rattle.tf_core.specs.declared.term.Term.TheVariants as term
use Rattle.tf_core.specs.declared.formula.Formula.{Formula}
use Rattle.tf_core.specs.declared.formula.Formula.TheVariants as formula
use Rattle.tf_core.specs.declared.nnf.Nnf.{Nnf}
use Rattle.tf_core.specs.declared.nnf.Nnf.TheVariants as nnf
use Rattle.tf_core.specs.declared.signature.Constructor.{Constructor}
use Rattle.tf_core.specs.declared.signature.Symbol.{Symbol}
use Rattle.tf_core.specs.declared.signature.Signature.{Signature}
use Rattle.tf_core.specs.declared.problem.Problem.{Problem}
use Rattle.tf_core.specs.declared.normal.Normal.{Normal}
use Rattle.tf_core.specs.Types.{instantiate}

mutual
  -- a type of so many variables: each constructor stands at its number of arguments
  pub data IsType (g : Signature) (variables : ℕ) : Ty → Type 0 where
    type_variable : (i : ℕ) → i < variables → IsType g variables (type.Var i)
    type_apply : (c : ℕ) (constructor : Constructor) (arguments : List Ty) →
        slice_get g.constructors c ≡ Some constructor → length arguments ≡ constructor.arity →
        AreTypes g variables arguments → IsType g variables (type.Apply c arguments)

  pub data AreTypes (g : Signature) (variables : ℕ) : List Ty → Type 0 where
    no_types : AreTypes g variables []
    more_types : (ty : Ty) (types : List Ty) → IsType g variables ty →
        AreTypes g variables types → AreTypes g variables (ty ∷ types)

-- the f-th symbol is this one, with this result, and has these types for its parameters
pub record IsInstance (g : Signature) (variables f : ℕ) (symbol : Symbol) (result : Option Ty)
    (types : List Ty) : Type 0 where
  pub at : slice_get g.symbols f ≡ Some symbol
  pub gives : symbol.result ≡ result
  pub count : length types ≡ symbol.parameters
  pub formed : AreTypes g variables types

mutual
  -- a term of this type in a context
  pub data HasType (g : Signature) (variables : ℕ) (context : List Ty) : Term → Ty → Type 0 where
    of_variable : (i : ℕ) (ty : Ty) → slice_get context i ≡ Some ty →
        HasType g variables context (term.Var i) ty
    of_apply : (f : ℕ) (symbol : Symbol) (result : Ty) (types : List Ty) (terms : List Term) →
        IsInstance g variables f symbol (Some result) types →
        HaveTypes g variables context terms (map (instantiate types) symbol.arguments) →
        HasType g variables context (term.Apply f types terms) (instantiate types result)

  pub data HaveTypes (g : Signature) (variables : ℕ) (context : List Ty) :
      List Term → List Ty → Type 0 where
    no_terms : HaveTypes g variables context [] []
    more_terms : (t : Term) (ty : Ty) (terms : List Term) (types : List Ty) →
        HasType g variables context t ty → HaveTypes g variables context terms types →
        HaveTypes g variables context (t ∷ terms) (ty ∷ types)

-- the f-th symbol is a predicate that takes these types and terms
pub record IsAtom (g : Signature) (variables : ℕ) (context : List Ty) (f : ℕ) (symbol : Symbol)
    (types : List Ty) (terms : List Term) : Type 0 where
  pub predicate : IsInstance g variables f symbol None types
  pub arguments : HaveTypes g variables context terms (map (instantiate types) symbol.arguments)

-- two terms of the type at which they are compared
pub record IsEquation (g : Signature) (variables : ℕ) (context : List Ty) (ty : Ty)
    (left right : Term) : Type 0 where
  pub formed : IsType g variables ty
  pub left_side : HasType g variables context left ty
  pub right_side : HasType g variables context right ty

mutual
  -- a formula in a context
  pub data IsFormula (g : Signature) (variables : ℕ) : List Ty → Formula → Type 0 where
    is_true : (context : List Ty) → IsFormula g variables context formula.True
    is_false : (context : List Ty) → IsFormula g variables context formula.False
    is_atom : (context : List Ty) (f : ℕ) (symbol : Symbol) (types : List Ty) (terms : List Term) →
        IsAtom g variables context f symbol types terms →
        IsFormula g variables context (formula.Atom f types terms)
    is_equal : (context : List Ty) (ty : Ty) (left right : Term) →
        IsEquation g variables context ty left right →
        IsFormula g variables context (formula.Equal ty left right)
    is_not : (context : List Ty) (a : Formula) → IsFormula g variables context a →
        IsFormula g variables context (formula.Not a)
    is_and : (context : List Ty) (parts : List Formula) → AreFormulas g variables context parts →
        IsFormula g variables context (formula.And parts)
    is_or : (context : List Ty) (parts : List Formula) → AreFormulas g variables context parts →
        IsFormula g variables context (formula.Or parts)
    is_implies : (context : List Ty) (a b : Formula) → IsFormula g variables context a →
        IsFormula g variables context b → IsFormula g variables context (formula.Implies a b)
    is_if : (context : List Ty) (a b : Formula) → IsFormula g variables context a →
        IsFormula g variables context b → IsFormula g variables context (formula.If a b)
    is_iff : (context : List Ty) (a b : Formula) → IsFormula g variables context a →
        IsFormula g variables context b → IsFormula g variables context (formula.Iff a b)
    is_xor : (context : List Ty) (a b : Formula) → IsFormula g variables context a →
        IsFormula g variables context b → IsFormula g variables context (formula.Xor a b)
    is_nand : (context : List Ty) (a b : Formula) → IsFormula g variables context a →
        IsFormula g variables context b → IsFormula g variables context (formula.Nand a b)
    is_nor : (context : List Ty) (a b : Formula) → IsFormula g variables context a →
        IsFormula g variables context b → IsFormula g variables context (formula.Nor a b)
    is_for_all : (context : List Ty) (ty : Ty) (body : Formula) → IsType g variables ty →
        IsFormula g variables (ty ∷ context) body →
        IsFormula g variables context (formula.ForAll ty body)
    is_exists : (context : List Ty) (ty : Ty) (body : Formula) → IsType g variables ty →
        IsFormula g variables (ty ∷ context) body →
        IsFormula g variables context (formula.Exists ty body)

  pub data AreFormulas (g : Signature) (variables : ℕ) : List Ty → List Formula → Type 0 where
    no_formulas : (context : List Ty) → AreFormulas g variables context []
    more_formulas : (context : List Ty) (part : Formula) (parts : List Formula) →
        IsFormula g variables context part → AreFormulas g variables context parts →
        AreFormulas g variables context (part ∷ parts)

mutual
  -- a formula in negation normal form in a context
  pub data IsNnf (g : Signature) (variables : ℕ) : List Ty → Nnf → Type 0 where
    nnf_true : (context : List Ty) → IsNnf g variables context nnf.True
    nnf_false : (context : List Ty) → IsNnf g variables context nnf.False
    nnf_atom : (context : List Ty) (positive : Bool) (f : ℕ) (symbol : Symbol) (types : List Ty)
        (terms : List Term) → IsAtom g variables context f symbol types terms →
        IsNnf g variables context (nnf.Atom positive f types terms)
    nnf_equation : (context : List Ty) (positive : Bool) (ty : Ty) (left right : Term) →
        IsEquation g variables context ty left right →
        IsNnf g variables context (nnf.Equation positive ty left right)
    nnf_and : (context : List Ty) (parts : List Nnf) → AreNnf g variables context parts →
        IsNnf g variables context (nnf.And parts)
    nnf_or : (context : List Ty) (parts : List Nnf) → AreNnf g variables context parts →
        IsNnf g variables context (nnf.Or parts)
    nnf_for_all : (context : List Ty) (ty : Ty) (body : Nnf) → IsType g variables ty →
        IsNnf g variables (ty ∷ context) body → IsNnf g variables context (nnf.ForAll ty body)
    nnf_exists : (context : List Ty) (ty : Ty) (body : Nnf) → IsType g variables ty →
        IsNnf g variables (ty ∷ context) body → IsNnf g variables context (nnf.Exists ty body)

  pub data AreNnf (g : Signature) (variables : ℕ) : List Ty → List Nnf → Type 0 where
    no_parts : (context : List Ty) → AreNnf g variables context []
    more_parts : (context : List Ty) (part : Nnf) (parts : List Nnf) →
        IsNnf g variables context part → AreNnf g variables context parts →
        AreNnf g variables context (part ∷ parts)

-- a result's type is formed, where there is one
abbrev pub IsResult : Signature → ℕ → Option Ty → Type 0
IsResult g parameters None = Unit {0}
IsResult g parameters (Some ty) = IsType g parameters ty

-- a symbol's types are formed from the constructors and its own parameters
pub record IsSymbol (g : Signature) (symbol : Symbol) : Type 0 where
  pub arguments : AreTypes g symbol.parameters symbol.arguments
  pub result : IsResult g symbol.parameters symbol.result

-- a signature is well typed
abbrev pub IsSignature : Signature → Type 0
IsSignature g = AllByRecursion (IsSymbol g) g.symbols

-- a problem is well typed
pub record IsProblem (problem : Problem) : Type 0 where
  pub signature : IsSignature problem.signature
  pub formulas :
      AllByRecursion (λ stated. IsFormula problem.signature stated.type_variables [] stated.body)
      problem.formulas

-- a normal problem is well typed
pub record IsNormal (normal : Normal) : Type 0 where
  pub signature : IsSignature normal.signature
  pub formulas :
      AllByRecursion (λ formula. IsNnf normal.signature formula.type_variables [] formula.body)
      normal.formulas
