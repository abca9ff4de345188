-- Typing that is kept: with more constructors behind those of a signature, and with types in place
-- of type variables.
use Rattle.std.proofs.Common.{ℕ, zero, suc, ◌<◌, ◌≡◌, List, [], ◌∷◌, map, length, get_or, refl, sym, ap, subst, ◌∙◌, arith}
use Rattle.std.specs.Prelude.{slice_get, Option, Some, None}
use Rattle.std.proofs.lemmas.List.{length-map, get_or-map}
use Rattle.tf_core.specs.declared.ty.Ty.{Ty}
use Rattle.tf_core.specs.declared.ty.Ty.TheVariants as type
use Rattle.tf_core.specs.declared.term.Term.{Term}
use Rattle.tf_core.specs.declared.term.Term.TheVariants as term
use Rattle.tf_core.specs.declared.nnf.Nnf.{Nnf}
use Rattle.tf_core.specs.declared.signature.Constructor.{Constructor}
use Rattle.tf_core.specs.declared.signature.Symbol.{Symbol}
use Rattle.tf_core.specs.declared.signature.Signature.{Signature}
use Rattle.tf_core.specs.Types.{instantiate}
use Rattle.tf_core.specs.Substitution.{substitute_term, substitute_types}
use Rattle.tf_core.specs.Typing.{IsType, type_variable, type_apply, AreTypes, no_types, more_types, IsInstance, HasType, of_variable, of_apply, HaveTypes, no_terms, more_terms, IsAtom, IsEquation, IsNnf, nnf_true, nnf_false, nnf_atom, nnf_equation, nnf_and, nnf_or, nnf_for_all, nnf_exists, AreNnf, no_parts, more_parts, IsResult, IsSymbol, IsSignature}
use Rattle.tf_nnf.proofs.Substitution.{instantiate-var, instantiate-apply, substitute_term-var, substitute_term-apply, substitute_types-true, substitute_types-false, substitute_types-atom, substitute_types-equation, substitute_types-and, substitute_types-or, substitute_types-for_all, substitute_types-exists}
use Rattle.tf_nnf.proofs.SharedTables.{at_all}

-- a signature has the constructors of another in their places, and the same symbols
pub record Extends (g h : Signature) : Type 0 where
  pub constructors : (c : ℕ) (constructor : Constructor) →
      slice_get g.constructors c ≡ Some constructor → slice_get h.constructors c ≡ Some constructor
  pub symbols : h.symbols ≡ g.symbols

module _ (g h : Signature) (extends : Extends g h) (variables : ℕ) where
  mutual
    pub type-extended : (ty : Ty) → IsType g variables ty → IsType h variables ty
    type-extended ty (type_variable i within) = type_variable i within
    type-extended ty (type_apply c constructor types at count formed) =
        type_apply c constructor types (extends.constructors c constructor at) count
        (types-extended types formed)

    pub types-extended : (types : List Ty) → AreTypes g variables types → AreTypes h variables types
    types-extended types no_types = no_types
    types-extended types (more_types ty others formed rest) =
        more_types ty others (type-extended ty formed) (types-extended others rest)

  instance-extended : (f : ℕ) (symbol : Symbol) (result : Option Ty) (types : List Ty) →
      IsInstance g variables f symbol result types → IsInstance h variables f symbol result types
  instance-extended f symbol result types is = record {
    at = subst (λ (symbols : List Symbol). slice_get symbols f ≡ Some symbol) (sym extends.symbols) is.at;
    gives = is.gives;
    count = is.count;
    formed = types-extended types is.formed;
  }

  module _ (context : List Ty) where
    mutual
      pub term-extended : (t : Term) (ty : Ty) → HasType g variables context t ty →
          HasType h variables context t ty
      term-extended t ty (of_variable i found at) = of_variable i found at
      term-extended t ty (of_apply f symbol result types terms is typed) =
          of_apply f symbol result types terms (instance-extended f symbol (Some result) types is)
          (terms-extended terms (map (instantiate types) symbol.arguments) typed)

      pub terms-extended : (terms : List Term) (types : List Ty) →
          HaveTypes g variables context terms types → HaveTypes h variables context terms types
      terms-extended terms types no_terms = no_terms
      terms-extended terms types (more_terms t ty others rest typed typed_rest) =
          more_terms t ty others rest (term-extended t ty typed) (terms-extended others rest typed_rest)

    pub atom-extended : (f : ℕ) (symbol : Symbol) (types : List Ty) (terms : List Term) →
        IsAtom g variables context f symbol types terms → IsAtom h variables context f symbol types terms
    atom-extended f symbol types terms is = record {
      predicate = instance-extended f symbol None types is.predicate;
      arguments = terms-extended terms (map (instantiate types) symbol.arguments) is.arguments;
    }

    pub equation-extended : (ty : Ty) (left right : Term) →
        IsEquation g variables context ty left right → IsEquation h variables context ty left right
    equation-extended ty left right is = record {
      formed = type-extended ty is.formed;
      left_side = term-extended left ty is.left_side;
      right_side = term-extended right ty is.right_side;
    }

-- symbols

result-extended : (g h : Signature) → Extends g h → (parameters : ℕ) (result : Option Ty) →
    IsResult g parameters result → IsResult h parameters result
result-extended g h extends parameters None is = tt
result-extended g h extends parameters (Some ty) is = type-extended g h extends parameters ty is

pub symbol-extended : (g h : Signature) → Extends g h → (symbol : Symbol) → IsSymbol g symbol →
    IsSymbol h symbol
symbol-extended g h extends symbol is = record {
  arguments = types-extended g h extends symbol.parameters symbol.arguments is.arguments;
  result = result-extended g h extends symbol.parameters symbol.result is.result;
}

-- an instance of an instance replaces the variables by instances
module _ (g : Signature) (instances types : List Ty) (parameters : ℕ)
    (count : length types ≡ parameters) where
  mutual
    pub instantiate-instantiate : (ty : Ty) → IsType g parameters ty →
        instantiate (map (instantiate instances) types) ty ≡ instantiate instances (instantiate types ty)
    instantiate-instantiate ty (type_variable i within) =
        instantiate-var (map (instantiate instances) types) i
        ∙ get_or-map (instantiate instances) types i (type.Var i) (type.Var i) (omega (arith, count, within))
        ∙ sym (ap (instantiate instances) (instantiate-var types i))
    instantiate-instantiate ty (type_apply c constructor arguments at same formed) =
        instantiate-apply (map (instantiate instances) types) c arguments
        ∙ ap (type.Apply c) (instantiate-instantiate-all arguments formed)
        ∙ sym (instantiate-apply instances c (map (instantiate types) arguments))
        ∙ sym (ap (instantiate instances) (instantiate-apply types c arguments))

    pub instantiate-instantiate-all : (arguments : List Ty) → AreTypes g parameters arguments →
        map (instantiate (map (instantiate instances) types)) arguments
        ≡ map (instantiate instances) (map (instantiate types) arguments)
    instantiate-instantiate-all arguments no_types = refl
    instantiate-instantiate-all arguments (more_types ty others formed rest) =
        ap (λ x. x ∷ map (instantiate (map (instantiate instances) types)) others)
        (instantiate-instantiate ty formed)
        ∙ ap (λ xs. instantiate instances (instantiate types ty) ∷ xs)
        (instantiate-instantiate-all others rest)

-- the i-th of types that are formed
type_at : (g : Signature) (variables : ℕ) (types : List Ty) (i : ℕ) (otherwise : Ty) →
    AreTypes g variables types → i < length types → IsType g variables (get_or types i otherwise)
type_at g variables types i otherwise no_types within = absurd (omega (arith, within))
type_at g variables types zero otherwise (more_types ty others formed rest) within = formed
type_at g variables types (suc i) otherwise (more_types ty others formed rest) within =
    type_at g variables others i otherwise rest (omega (arith, within))

-- types in place of the type variables
module _ (g : Signature) (typed : IsSignature g) (variables others : ℕ) (instances : List Ty)
    (formed : AreTypes g others instances) (all : length instances ≡ variables) where
  mutual
    pub type-substituted : (ty : Ty) → IsType g variables ty → IsType g others (instantiate instances ty)
    type-substituted ty (type_variable i within) =
        subst (IsType g others) (sym (instantiate-var instances i))
        (type_at g others instances i (type.Var i) formed (omega (arith, all, within)))
    type-substituted ty (type_apply c constructor types at count are) =
        subst (IsType g others) (sym (instantiate-apply instances c types))
        (type_apply c constructor (map (instantiate instances) types) at
        (length-map types (instantiate instances) ∙ count) (types-substituted types are))

    pub types-substituted : (types : List Ty) → AreTypes g variables types →
        AreTypes g others (map (instantiate instances) types)
    types-substituted types no_types = no_types
    types-substituted types (more_types ty rest is are) =
        more_types (instantiate instances ty) (map (instantiate instances) rest)
        (type-substituted ty is) (types-substituted rest are)

  instance-substituted : (f : ℕ) (symbol : Symbol) (result : Option Ty) (types : List Ty) →
      IsInstance g variables f symbol result types →
      IsInstance g others f symbol result (map (instantiate instances) types)
  instance-substituted f symbol result types is = record {
    at = is.at;
    gives = is.gives;
    count = length-map types (instantiate instances) ∙ is.count;
    formed = types-substituted types is.formed;
  }

  -- the types of a symbol's arguments, and of its result, at instances
  arguments-substituted : (f : ℕ) (symbol : Symbol) (result : Option Ty) (types : List Ty) →
      IsInstance g variables f symbol result types →
      map (instantiate instances) (map (instantiate types) symbol.arguments)
      ≡ map (instantiate (map (instantiate instances) types)) symbol.arguments
  arguments-substituted f symbol result types is =
      let formed_symbol : IsSymbol g symbol = at_all (IsSymbol g) g.symbols f symbol typed is.at in
      sym (instantiate-instantiate-all g instances types symbol.parameters is.count symbol.arguments
      formed_symbol.arguments)

  result-substituted : (f : ℕ) (symbol : Symbol) (result : Ty) (types : List Ty) →
      IsInstance g variables f symbol (Some result) types →
      instantiate (map (instantiate instances) types) result
      ≡ instantiate instances (instantiate types result)
  result-substituted f symbol result types is =
      let formed_symbol : IsSymbol g symbol = at_all (IsSymbol g) g.symbols f symbol typed is.at in
      let formed_result : IsType g symbol.parameters result =
      subst (IsResult g symbol.parameters) is.gives formed_symbol.result in
      instantiate-instantiate g instances types symbol.parameters is.count result formed_result

  slice_get-substituted : (context : List Ty) (i : ℕ) (ty : Ty) → slice_get context i ≡ Some ty →
      slice_get (map (instantiate instances) context) i ≡ Some (instantiate instances ty)
  slice_get-substituted [] i ty at = cc
  slice_get-substituted (first ∷ context) zero ty at =
      let same : first ≡ ty = cc in ap (λ x. Some (instantiate instances x)) same
  slice_get-substituted (first ∷ context) (suc i) ty at = slice_get-substituted context i ty at

  mutual
    pub term-substituted : (context : List Ty) (t : Term) (ty : Ty) → HasType g variables context t ty →
        HasType g others (map (instantiate instances) context) (substitute_term instances t)
        (instantiate instances ty)
    term-substituted context t ty (of_variable i found at) =
        subst (λ x. HasType g others (map (instantiate instances) context) x (instantiate instances found))
        (sym (substitute_term-var instances i))
        (of_variable i (instantiate instances found) (slice_get-substituted context i found at))
    term-substituted context t ty (of_apply f symbol result types terms is typed_terms) =
        subst (λ x. HasType g others (map (instantiate instances) context) x
        (instantiate instances (instantiate types result)))
        (sym (substitute_term-apply instances f types terms))
        (subst (HasType g others (map (instantiate instances) context)
        (term.Apply f (map (instantiate instances) types) (map (substitute_term instances) terms)))
        (result-substituted f symbol result types is)
        (of_apply f symbol result (map (instantiate instances) types)
        (map (substitute_term instances) terms)
        (instance-substituted f symbol (Some result) types is)
        (subst (HaveTypes g others (map (instantiate instances) context)
        (map (substitute_term instances) terms))
        (arguments-substituted f symbol (Some result) types is)
        (terms-substituted context terms (map (instantiate types) symbol.arguments) typed_terms))))

    pub terms-substituted : (context : List Ty) (terms : List Term) (types : List Ty) →
        HaveTypes g variables context terms types →
        HaveTypes g others (map (instantiate instances) context) (map (substitute_term instances) terms)
        (map (instantiate instances) types)
    terms-substituted context terms types no_terms = no_terms
    terms-substituted context terms types (more_terms t ty rest rest_types is are) =
        more_terms (substitute_term instances t) (instantiate instances ty)
        (map (substitute_term instances) rest) (map (instantiate instances) rest_types)
        (term-substituted context t ty is) (terms-substituted context rest rest_types are)

  mutual
    pub nnf-substituted : (context : List Ty) (p : Nnf) → IsNnf g variables context p →
        IsNnf g others (map (instantiate instances) context) (substitute_types instances p)
    nnf-substituted context p (nnf_true c) =
        subst (IsNnf g others (map (instantiate instances) context))
        (sym (substitute_types-true instances)) (nnf_true (map (instantiate instances) context))
    nnf-substituted context p (nnf_false c) =
        subst (IsNnf g others (map (instantiate instances) context))
        (sym (substitute_types-false instances)) (nnf_false (map (instantiate instances) context))
    nnf-substituted context p (nnf_atom c positive f symbol types terms atom) =
        subst (IsNnf g others (map (instantiate instances) context))
        (sym (substitute_types-atom instances positive f types terms))
        (nnf_atom (map (instantiate instances) context) positive f symbol
        (map (instantiate instances) types) (map (substitute_term instances) terms)
        (record {
          predicate = instance-substituted f symbol None types atom.predicate;
          arguments = subst (HaveTypes g others (map (instantiate instances) context)
              (map (substitute_term instances) terms))
              (arguments-substituted f symbol None types atom.predicate)
              (terms-substituted context terms (map (instantiate types) symbol.arguments) atom.arguments);
        }))
    nnf-substituted context p (nnf_equation c positive ty left right equation) =
        subst (IsNnf g others (map (instantiate instances) context))
        (sym (substitute_types-equation instances positive ty left right))
        (nnf_equation (map (instantiate instances) context) positive (instantiate instances ty)
        (substitute_term instances left) (substitute_term instances right)
        (record {
          formed = type-substituted ty equation.formed;
          left_side = term-substituted context left ty equation.left_side;
          right_side = term-substituted context right ty equation.right_side;
        }))
    nnf-substituted context p (nnf_and c parts are) =
        subst (IsNnf g others (map (instantiate instances) context))
        (sym (substitute_types-and instances parts))
        (nnf_and (map (instantiate instances) context) (map (substitute_types instances) parts)
        (parts-substituted context parts are))
    nnf-substituted context p (nnf_or c parts are) =
        subst (IsNnf g others (map (instantiate instances) context))
        (sym (substitute_types-or instances parts))
        (nnf_or (map (instantiate instances) context) (map (substitute_types instances) parts)
        (parts-substituted context parts are))
    nnf-substituted context p (nnf_for_all c ty body is_type is) =
        subst (IsNnf g others (map (instantiate instances) context))
        (sym (substitute_types-for_all instances ty body))
        (nnf_for_all (map (instantiate instances) context) (instantiate instances ty)
        (substitute_types instances body) (type-substituted ty is_type)
        (nnf-substituted (ty ∷ context) body is))
    nnf-substituted context p (nnf_exists c ty body is_type is) =
        subst (IsNnf g others (map (instantiate instances) context))
        (sym (substitute_types-exists instances ty body))
        (nnf_exists (map (instantiate instances) context) (instantiate instances ty)
        (substitute_types instances body) (type-substituted ty is_type)
        (nnf-substituted (ty ∷ context) body is))

    pub parts-substituted : (context : List Ty) (parts : List Nnf) → AreNnf g variables context parts →
        AreNnf g others (map (instantiate instances) context) (map (substitute_types instances) parts)
    parts-substituted context parts (no_parts c) = no_parts (map (instantiate instances) context)
    parts-substituted context parts (more_parts c part rest is are) =
        more_parts (map (instantiate instances) context) (substitute_types instances part)
        (map (substitute_types instances) rest) (nnf-substituted context part is)
        (parts-substituted context rest are)
