-- Typing that is kept where types are put in place of type variables, and where variables are raised.
use Rattle.std.specs.Prelude.{ℕ, zero, suc, ◌<◌, ◌≤◌, ◌+◌, ◌-◌, ◌≡◌, List, [], ◌∷◌, ◌++◌, map, length, cond, get_or, slice_get, Option, Some}
use Rattle.std.specs.List.{AllByRecursion}
use Rattle.std.proofs.Common.{refl, sym, ap, subst, ◌∙◌, arith, ⊎_elim}
use Rattle.std.proofs.lemmas.Bool.{cases_lt, lt-ltb, le-ltb}
use Rattle.std.proofs.lemmas.List.{length-map, get_or-map}
use Rattle.tf_core.specs.declared.ty.Ty.{Ty}
use Rattle.tf_core.specs.declared.ty.Ty.TheVariants as type
use Rattle.tf_core.specs.declared.term.Term.{Term}
use Rattle.tf_core.specs.declared.term.Term.TheVariants as term
use Rattle.tf_core.specs.declared.signature.Symbol.{Symbol}
use Rattle.tf_core.specs.declared.signature.Signature.{Signature}
use Rattle.tf_core.specs.Types.{instantiate}
use Rattle.tf_core.specs.Substitution.{raised, shift, substitute_term}
use Rattle.tf_core.specs.Typing.{IsType, type_variable, type_apply, AreTypes, no_types, more_types, IsInstance, HasType, of_variable, of_apply, HaveTypes, no_terms, more_terms, IsResult, IsSymbol, IsSignature}
use Rattle.tf_core.proofs.Types.{instantiate-variable, instantiate-apply}
use Rattle.tf_core.proofs.Substitution.{shift-variable, shift-apply, substitute_term-variable, substitute_term-apply}

-- the item that stands at an index
pub at_all : {A : Type 0} (P : A → Type 0) (items : List A) (i : ℕ) (item : A) →
    AllByRecursion P items → slice_get items i ≡ Some item → P item
at_all P [] i item all at = cc
at_all P (first ∷ items) zero item all at =
    let same : first ≡ item = cc in subst P same all.0
at_all P (first ∷ items) (suc i) item all at = at_all P items i item all.1 at

-- an instance of an instance replaces the variables by instances
module _ (g : Signature) (instances types : List Ty) (parameters : ℕ)
    (count : length types ≡ parameters) where
  mutual
    pub instantiate-instantiate : (ty : Ty) → IsType g parameters ty →
        instantiate (map (instantiate instances) types) ty ≡ instantiate instances (instantiate types ty)
    instantiate-instantiate ty (type_variable i within) =
        instantiate-variable (map (instantiate instances) types) i
        ∙ get_or-map (instantiate instances) types i (type.Var i) (type.Var i) (omega (arith, count, within))
        ∙ sym (ap (instantiate instances) (instantiate-variable types i))
    instantiate-instantiate ty (type_apply c constructor arguments at same formed) =
        instantiate-apply (map (instantiate instances) types) c arguments
        ∙ ap (type.Apply c) (instantiate-instantiate-all arguments formed)
        ∙ sym (instantiate-apply instances c (map (instantiate types) arguments))
        ∙ sym (ap (instantiate instances) (instantiate-apply types c arguments))

    pub instantiate-instantiate-all : (arguments : List Ty) → AreTypes g parameters arguments →
        map (instantiate (map (instantiate instances) types)) arguments
        ≡ map (instantiate instances) (map (instantiate types) arguments)
    instantiate-instantiate-all arguments no_types = refl
    instantiate-instantiate-all arguments (more_types ty others formed rest) =
        ap (λ x. x ∷ map (instantiate (map (instantiate instances) types)) others)
        (instantiate-instantiate ty formed)
        ∙ ap (λ xs. instantiate instances (instantiate types ty) ∷ xs)
        (instantiate-instantiate-all others rest)

-- the i-th of types that are formed
type_at : (g : Signature) (variables : ℕ) (types : List Ty) (i : ℕ) (otherwise : Ty) →
    AreTypes g variables types → i < length types → IsType g variables (get_or types i otherwise)
type_at g variables types i otherwise no_types within = absurd (omega (arith, within))
type_at g variables types zero otherwise (more_types ty others formed rest) within = formed
type_at g variables types (suc i) otherwise (more_types ty others formed rest) within =
    type_at g variables others i otherwise rest (omega (arith, within))

-- types in place of the type variables
module _ (g : Signature) (variables others : ℕ) (instances : List Ty)
    (formed : AreTypes g others instances) (all : length instances ≡ variables) where
  mutual
    pub type-substituted : (ty : Ty) → IsType g variables ty → IsType g others (instantiate instances ty)
    type-substituted ty (type_variable i within) =
        subst (IsType g others) (sym (instantiate-variable instances i))
        (type_at g others instances i (type.Var i) formed (omega (arith, all, within)))
    type-substituted ty (type_apply c constructor types at count are) =
        subst (IsType g others) (sym (instantiate-apply instances c types))
        (type_apply c constructor (map (instantiate instances) types) at
        (length-map types (instantiate instances) ∙ count) (types-substituted types are))

    pub types-substituted : (types : List Ty) → AreTypes g variables types →
        AreTypes g others (map (instantiate instances) types)
    types-substituted types no_types = no_types
    types-substituted types (more_types ty rest is are) =
        more_types (instantiate instances ty) (map (instantiate instances) rest)
        (type-substituted ty is) (types-substituted rest are)

  pub instance-substituted : (f : ℕ) (symbol : Symbol) (result : Option Ty) (types : List Ty) →
      IsInstance g variables f symbol result types →
      IsInstance g others f symbol result (map (instantiate instances) types)
  instance-substituted f symbol result types is = record {
    at = is.at;
    gives = is.gives;
    count = length-map types (instantiate instances) ∙ is.count;
    formed = types-substituted types is.formed;
  }

  module _ (typed : IsSignature g) where
    -- the types of a symbol's arguments, and of its result, at instances
    pub arguments-substituted : (f : ℕ) (symbol : Symbol) (result : Option Ty) (types : List Ty) →
        IsInstance g variables f symbol result types →
        map (instantiate instances) (map (instantiate types) symbol.arguments)
        ≡ map (instantiate (map (instantiate instances) types)) symbol.arguments
    arguments-substituted f symbol result types is =
        let formed_symbol : IsSymbol g symbol = at_all (IsSymbol g) g.symbols f symbol typed is.at in
        sym (instantiate-instantiate-all g instances types symbol.parameters is.count symbol.arguments
        formed_symbol.arguments)

    result-substituted : (f : ℕ) (symbol : Symbol) (result : Ty) (types : List Ty) →
        IsInstance g variables f symbol (Some result) types →
        instantiate (map (instantiate instances) types) result
        ≡ instantiate instances (instantiate types result)
    result-substituted f symbol result types is =
        let formed_symbol : IsSymbol g symbol = at_all (IsSymbol g) g.symbols f symbol typed is.at in
        let formed_result : IsType g symbol.parameters result =
        subst (IsResult g symbol.parameters) is.gives formed_symbol.result in
        instantiate-instantiate g instances types symbol.parameters is.count result formed_result

    slice_get-substituted : (context : List Ty) (i : ℕ) (ty : Ty) → slice_get context i ≡ Some ty →
        slice_get (map (instantiate instances) context) i ≡ Some (instantiate instances ty)
    slice_get-substituted [] i ty at = cc
    slice_get-substituted (first ∷ context) zero ty at =
        let same : first ≡ ty = cc in ap (λ x. Some (instantiate instances x)) same
    slice_get-substituted (first ∷ context) (suc i) ty at = slice_get-substituted context i ty at

    mutual
      pub term-substituted : (context : List Ty) (t : Term) (ty : Ty) → HasType g variables context t ty →
          HasType g others (map (instantiate instances) context) (substitute_term instances t)
          (instantiate instances ty)
      term-substituted context t ty (of_variable i found at) =
          subst (λ x. HasType g others (map (instantiate instances) context) x (instantiate instances found))
          (sym (substitute_term-variable instances i))
          (of_variable i (instantiate instances found) (slice_get-substituted context i found at))
      term-substituted context t ty (of_apply f symbol result types terms is typed_terms) =
          subst (λ x. HasType g others (map (instantiate instances) context) x
          (instantiate instances (instantiate types result)))
          (sym (substitute_term-apply instances f types terms))
          (subst (HasType g others (map (instantiate instances) context)
          (term.Apply f (map (instantiate instances) types) (map (substitute_term instances) terms)))
          (result-substituted f symbol result types is)
          (of_apply f symbol result (map (instantiate instances) types)
          (map (substitute_term instances) terms)
          (instance-substituted f symbol (Some result) types is)
          (subst (HaveTypes g others (map (instantiate instances) context)
          (map (substitute_term instances) terms))
          (arguments-substituted f symbol (Some result) types is)
          (terms-substituted context terms (map (instantiate types) symbol.arguments) typed_terms))))

      pub terms-substituted : (context : List Ty) (terms : List Term) (types : List Ty) →
          HaveTypes g variables context terms types →
          HaveTypes g others (map (instantiate instances) context) (map (substitute_term instances) terms)
          (map (instantiate instances) types)
      terms-substituted context terms types no_terms = no_terms
      terms-substituted context terms types (more_terms t ty rest rest_types is are) =
          more_terms (substitute_term instances t) (instantiate instances ty)
          (map (substitute_term instances) rest) (map (instantiate instances) rest_types)
          (term-substituted context t ty is) (terms-substituted context rest rest_types are)

-- the types of new variables put in a context
module _ (before inserted after : List Ty) where
  slice_get-append_left : (xs ys : List Ty) (i : ℕ) → i < length xs →
      slice_get (xs ++ ys) i ≡ slice_get xs i
  slice_get-append_left [] ys i within = absurd (omega arith)
  slice_get-append_left (x ∷ xs) ys zero within = refl
  slice_get-append_left (x ∷ xs) ys (suc i) within = slice_get-append_left xs ys i (omega arith)

  slice_get-append_right : (xs ys : List Ty) (i j : ℕ) → i ≡ length xs + j →
      slice_get (xs ++ ys) i ≡ slice_get ys j
  slice_get-append_right [] ys i j is = let same : i ≡ j = omega arith in ap (slice_get ys) same
  slice_get-append_right (x ∷ xs) ys zero j is = absurd (omega arith)
  slice_get-append_right (x ∷ xs) ys (suc i) j is = slice_get-append_right xs ys i j (omega arith)

  abbrev longer : List Ty
  longer = before ++ (inserted ++ after)

  raised_at : (i : ℕ) →
      slice_get longer (raised (length inserted) (length before) i) ≡ slice_get (before ++ after) i
  raised_at i = ⊎_elim below above (cases_lt i (length before))
    where
      below : i < length before →
          slice_get longer (raised (length inserted) (length before) i) ≡ slice_get (before ++ after) i
      below within =
          ap (λ b. slice_get longer (cond b i (i + length inserted))) (lt-ltb i (length before) within)
          ∙ slice_get-append_left before (inserted ++ after) i within
          ∙ sym (slice_get-append_left before after i within)

      above : length before ≤ i →
          slice_get longer (raised (length inserted) (length before) i) ≡ slice_get (before ++ after) i
      above past =
          let j : ℕ = i - length before in
          ap (λ b. slice_get longer (cond b i (i + length inserted))) (le-ltb i (length before) past)
          ∙ slice_get-append_right before (inserted ++ after) (i + length inserted) (length inserted + j)
          (omega arith)
          ∙ slice_get-append_right inserted after (length inserted + j) j refl
          ∙ sym (slice_get-append_right before after i j (omega arith))

  module _ (g : Signature) (variables : ℕ) where
    abbrev raise : Term → Term
    raise = shift (length inserted) (length before)

    mutual
      pub term-shifted : (t : Term) (ty : Ty) → HasType g variables (before ++ after) t ty →
          HasType g variables longer (raise t) ty
      term-shifted t ty (of_variable i found at) =
          subst (λ x. HasType g variables longer x found)
          (sym (shift-variable (length inserted) (length before) i))
          (of_variable (raised (length inserted) (length before) i) found (raised_at i ∙ at))
      term-shifted t ty (of_apply f symbol result types terms is typed) =
          subst (λ x. HasType g variables longer x (instantiate types result))
          (sym (shift-apply (length inserted) (length before) f types terms))
          (of_apply f symbol result types (map raise terms) is
          (terms-shifted terms (map (instantiate types) symbol.arguments) typed))

      pub terms-shifted : (terms : List Term) (types : List Ty) →
          HaveTypes g variables (before ++ after) terms types →
          HaveTypes g variables longer (map raise terms) types
      terms-shifted terms types no_terms = no_terms
      terms-shifted terms types (more_terms t ty rest rest_types is are) =
          more_terms (raise t) ty (map raise rest) rest_types
          (term-shifted t ty is) (terms-shifted rest rest_types are)
