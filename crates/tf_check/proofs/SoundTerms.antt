-- The terms that well typed raw terms mean have their types.
use Rattle.std.proofs.Common.{◌≡◌, ℕ, zero, suc, ◌+◌, ◌<◌, ◌≤◌, Bool, true, false, List, [], ◌∷◌, length, map, refl, sym, ap, ◌∙◌, subst, arith, Option, Some, None, is_some, slice_get, get_or, if◌then◌else◌, bytes_eq}
use Rattle.std.specs.List.{AllByRecursion}
use Rattle.tptp_syntax.specs.declared.term.RawTerm.{RawTerm}
use Rattle.tf_core.specs.declared.ty.Ty.{Ty}
use Rattle.tf_core.specs.declared.ty.Ty.TheVariants as type
use Rattle.tf_core.specs.declared.term.Term.{Term}
use Rattle.tf_core.specs.declared.signature.Constructor.{Constructor}
use Rattle.tf_core.specs.declared.signature.Symbol.{Symbol}
use Rattle.tf_core.specs.declared.signature.Signature.{Signature}
use Rattle.tf_core.specs.Types.{instantiate}
use Rattle.tf_core.specs.Typing.{IsType, type_variable, type_apply, AreTypes, IsInstance, HasType, of_variable, of_apply, HaveTypes, IsResult, IsSymbol, IsSignature}
use Rattle.tf_core.specs.Typing as typing
use Rattle.tf_core.proofs.Types.{instantiate-variable, instantiate-apply}
use Rattle.std.proofs.lemmas.List.{length-map}
use Rattle.tf_check.specs.Scope.{Scope, TypeVariable, TermVariable, Meaning, Unbound, OfType, OfTerm, meaning, under_binder, type_variables}
use Rattle.tf_check.specs.Types.{constructor_named}
use Rattle.tf_check.specs.Signature.{symbol_among, symbol_named}
use Rattle.tf_check.specs.Typing.{TypeArgumentMeans, bound_argument, applied_argument, individuals_argument, TypeArgumentsMean, no_type_arguments, more_type_arguments}
use Rattle.tf_check.specs.Typing.{IsApplied, TermMeans, bound_term, applied_term, TermsMean, no_terms, more_terms}
use Rattle.tf_check.proofs.SoundTypes.{found_at, type_bounded, individuals_formed}

-- ---- what names mean

-- the types of the term variables, the innermost first
abbrev pub context_of : Scope → List Ty
context_of [] = []
context_of (TypeVariable name ∷ outer) = context_of outer
context_of (TermVariable name ty ∷ outer) = ty ∷ context_of outer

term_step : (same : Bool) (here outer : Meaning) (i : ℕ) (ty : Ty) (context : List Ty) →
    (here ≡ OfTerm i ty → slice_get context i ≡ Some ty) →
    (outer ≡ OfTerm i ty → slice_get context i ≡ Some ty) →
    (if same then here else outer) ≡ OfTerm i ty → slice_get context i ≡ Some ty
term_step true here outer i ty context first rest is = first is
term_step false here outer i ty context first rest is = rest is

term_under : (first : Ty) (context : List Ty) (m : Meaning) (i : ℕ) (ty : Ty) →
    ((j : ℕ) → m ≡ OfTerm j ty → slice_get context j ≡ Some ty) →
    under_binder m ≡ OfTerm i ty → slice_get (first ∷ context) i ≡ Some ty
term_under first context Unbound i ty inside is = cc
term_under first context (OfType j) i ty inside is = cc
term_under first context (OfTerm j other) i ty inside is =
    let number : j + 1 ≡ i = cc in
    let same : other ≡ ty = cc in
    let next : j + 1 ≡ suc j = omega arith in
    ap (slice_get (first ∷ context)) (sym number ∙ next) ∙ inside j (ap (OfTerm j) same)

-- a term variable stands in the context with its type
pub term_at : (scope : Scope) (name : List ℕ) (i : ℕ) (ty : Ty) →
    meaning scope name ≡ OfTerm i ty →
    slice_get (context_of scope) i ≡ Some ty
term_at [] name i ty is = cc
term_at (TypeVariable bound ∷ outer) name i ty is =
    term_step (bytes_eq name bound) (OfType (type_variables outer)) (meaning outer name) i ty
    (context_of outer) (λ same. cc) (λ same. term_at outer name i ty same) is
term_at (TermVariable bound first ∷ outer) name i ty is =
    term_step (bytes_eq name bound) (OfTerm 0 first) (under_binder (meaning outer name)) i ty
    (first ∷ context_of outer)
    (λ same.
    let number : 0 ≡ i = cc in
    let equal : first ≡ ty = cc in
    ap (slice_get (first ∷ context_of outer)) (sym number) ∙ ap Some equal)
    (λ same.
    term_under first (context_of outer) (meaning outer name) i ty
    (λ j inside. term_at outer name j ty inside) same) is

-- the symbol that is named stands at its place
pub symbol_at : (name : List ℕ) (g : Signature) (place : ℕ) (symbol : Symbol) →
    symbol_named name g ≡ Some (place, symbol) → slice_get g.symbols place ≡ Some symbol
symbol_at name g place symbol is = by (is_some (constructor_named name g.constructors)) is
  where
    by : (hidden : Bool) →
        (if hidden then None else symbol_among name g.symbols) ≡ Some (place, symbol) →
        slice_get g.symbols place ≡ Some symbol
    by true here = cc
    by false here = found_at (λ (s : Symbol). s.name) name g.symbols place symbol here

-- an item of a list of which something is said
all_at : {A : Type 0} (P : A → Type 0) (xs : List A) (i : ℕ) (x : A) → AllByRecursion P xs →
    slice_get xs i ≡ Some x → P x
all_at P [] i x all is = cc
all_at P (y ∷ xs) zero x all is =
    let same : y ≡ x = cc in
    subst P same all.0
all_at P (y ∷ xs) (suc i) x all is = all_at P xs i x all.1 is

-- ---- types

module _ (g : Signature) (variables : ℕ) where
  formed_at : (types : List Ty) (i : ℕ) (ty : Ty) → AreTypes g variables types →
      slice_get types i ≡ Some ty → IsType g variables ty
  formed_at _ i ty typing.no_types is = cc
  formed_at _ zero ty (typing.more_types first types one rest) is =
      let same : first ≡ ty = cc in
      subst (IsType g variables) same one
  formed_at _ (suc i) ty (typing.more_types first types one rest) is = formed_at types i ty rest is

  formed_or : (types : List Ty) (i : ℕ) (d : Ty) → AreTypes g variables types → i < length types →
      IsType g variables (get_or types i d)
  formed_or _ i d typing.no_types within = absurd (omega arith)
  formed_or _ zero d (typing.more_types first types one rest) within = one
  formed_or _ (suc i) d (typing.more_types first types one rest) within =
      formed_or types i d rest (omega arith)

  module _ (types : List Ty) (all : AreTypes g variables types) where
    mutual
      -- an instance of a type that is formed from so many variables as there are types
      instance_formed : (ty : Ty) → IsType g (length types) ty →
          IsType g variables (instantiate types ty)
      instance_formed _ (type_variable i within) =
          subst (IsType g variables) (sym (instantiate-variable types i))
          (formed_or types i (type.Var i) all within)
      instance_formed _ (type_apply c constructor arguments at count formed) =
          subst (IsType g variables) (sym (instantiate-apply types c arguments))
          (type_apply c constructor (map (instantiate types) arguments) at
          (length-map arguments (instantiate types) ∙ count) (instances_formed arguments formed))

      instances_formed : (arguments : List Ty) → AreTypes g (length types) arguments →
          AreTypes g variables (map (instantiate types) arguments)
      instances_formed _ typing.no_types = typing.no_types
      instances_formed _ (typing.more_types ty arguments one rest) =
          typing.more_types (instantiate types ty) (map (instantiate types) arguments)
          (instance_formed ty one) (instances_formed arguments rest)

-- ---- terms

module _ (g : Signature) (signed : IsSignature g)
    (first : slice_get g.constructors 0 ≡ Some (record { name = 36 ∷ 105 ∷ []; arity = 0 }))
    (variables : ℕ) (scope : Scope) (within : type_variables scope ≤ variables)
  where
    types_count : (xs : List RawTerm) (types : List Ty) → TypeArgumentsMean g scope xs types →
        length types ≡ length xs
    types_count _ _ no_type_arguments = refl
    types_count _ _ (more_type_arguments part ty parts types means others) =
        omega (arith, types_count parts types others)

    mutual
      pub argument_formed : (x : RawTerm) (ty : Ty) → TypeArgumentMeans g scope x ty →
          IsType g variables ty
      argument_formed _ _ (bound_argument name i is) =
          let bounded : i < type_variables scope = type_bounded scope name i is in
          type_variable i (omega arith)
      argument_formed _ _ (applied_argument name place constructor parts types named arity means) =
          type_apply place constructor types
          (found_at (λ (c : Constructor). c.name) name g.constructors place constructor named)
          (types_count parts types means ∙ sym arity) (arguments_formed parts types means)
      argument_formed _ _ individuals_argument =
          individuals_formed g variables (record { name = 36 ∷ 105 ∷ []; arity = 0 }) first refl

      pub arguments_formed : (xs : List RawTerm) (types : List Ty) →
          TypeArgumentsMean g scope xs types →
          AreTypes g variables types
      arguments_formed _ _ no_type_arguments = typing.no_types
      arguments_formed _ _ (more_type_arguments part ty parts types means others) =
          typing.more_types ty types (argument_formed part ty means)
          (arguments_formed parts types others)

    pub instance_is : (name : List ℕ) (place : ℕ) (symbol : Symbol) (result : Option Ty)
        (parts : List RawTerm) (types : List Ty) →
        IsApplied g scope name place symbol result parts types →
        IsInstance g variables place symbol result types
    instance_is name place symbol result parts types applied =
        record {
          at = symbol_at name g place symbol applied.named;
          gives = applied.gives;
          count = types_count parts types applied.means ∙ applied.count;
          formed = arguments_formed parts types applied.means;
        }

    mutual
      pub term_typed : (x : RawTerm) (a : Term) (ty : Ty) → TermMeans g scope x a ty →
          HasType g variables (context_of scope) a ty
      term_typed _ _ _ (bound_term name i ty is) = of_variable i ty (term_at scope name i ty is)
      term_typed _ _ _ (applied_term name place symbol result front types back terms applied
          means) =
          of_apply place symbol result types terms
          (instance_is name place symbol (Some result) front types applied)
          (terms_typed back terms (map (instantiate types) symbol.arguments) means)

      pub terms_typed : (xs : List RawTerm) (terms : List Term) (types : List Ty) →
          TermsMean g scope xs terms types → HaveTypes g variables (context_of scope) terms types
      terms_typed _ _ _ no_terms = typing.no_terms
      terms_typed _ _ _ (more_terms part a ty parts terms types means others) =
          typing.more_terms a ty terms types (term_typed part a ty means)
          (terms_typed parts terms types others)

    -- the type of a term is formed
    pub term_formed : AreTypes g variables (context_of scope) →
        (x : RawTerm) (a : Term) (ty : Ty) →
        TermMeans g scope x a ty → IsType g variables ty
    term_formed context _ _ _ (bound_term name i ty is) =
        formed_at g variables (context_of scope) i ty context (term_at scope name i ty is)
    term_formed context _ _ _ (applied_term name place symbol result front types back terms applied
        means) =
        let is = instance_is name place symbol (Some result) front types applied in
        let symbol_formed : IsSymbol g symbol = all_at (IsSymbol g) g.symbols place symbol signed
        is.at in
        let result_formed : IsType g symbol.parameters result =
        subst (IsResult g symbol.parameters) is.gives symbol_formed.result in
        instance_formed g variables types is.formed result
        (subst (λ n. IsType g n result) (sym is.count) result_formed)
