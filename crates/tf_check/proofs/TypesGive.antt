-- Well typed type expressions are visited without a fault, and give what they mean.
use Rattle.std.proofs.Common.{◌≡◌, ℕ, ◌==◌, true, List, [], ◌∷◌, ◌++◌, map, length, refl, sym, ◌∙◌, Option, Some, None}
use Rattle.std.proofs.lemmas.List.{length-map}
use Rattle.tptp_syntax.specs.declared.types.TypeExpr.{TypeExpr}
use Rattle.tf_core.specs.declared.ty.Ty.{Ty}
use Rattle.tf_core.specs.declared.ty.Ty.TheVariants as type
use Rattle.tf_core.specs.declared.signature.Constructor.{Constructor}
use Rattle.tf_core.specs.declared.signature.Symbol.{Symbol}
use Rattle.tf_check.specs.declared.error.TypeError.TheVariants.{Arity, BadDeclaration}
use Rattle.tf_check.specs.Scope.{Scope, TypeVariable, type_variables}
use Rattle.tf_check.specs.Visited.{Visited, good, expect, in_turn, ◌>>=◌, ◌>>◌}
use Rattle.tf_check.specs.Types.{individuals, reading, Reading, type_applied, arguments_of_all, symbol_of, bound_reading, bind_parameters}
use Rattle.tf_check.specs.Typing.{TypeMeans, TypesMean, bound_type, applied_type, individuals_type, no_types, more_types}
use Rattle.tf_check.specs.Typing.{ArgumentsMean, one_argument, several_arguments, AllArgumentsMean, no_arguments, more_arguments}
use Rattle.tf_check.specs.Typing.{ResultMeans, predicate_result, function_result, type_bound, with_parameters}
use Rattle.tf_check.specs.Typing.{SymbolMeans, constant_symbol, mapped_symbol, quantified_symbol}
use Rattle.tf_check.proofs.VisitLemmas.{Gives, gives-good, gives-bind, gives-then, gives-expect, gives-none, gives-more}
use Rattle.tf_check.proofs.SameLemmas.{equal_test}
use Rattle.tf_check.proofs.TypeLemmas as l

-- a constructor with its arguments
pub applied_gives : (entry : ℕ) (name : List ℕ) (place : ℕ) (constructor : Constructor)
    (arguments : List (Visited Ty)) (types : List Ty) → constructor.arity ≡ length arguments →
    Gives (in_turn arguments) types →
    Gives (type_applied entry name (Some (place, constructor)) arguments) (type.Apply place types)
applied_gives entry name place constructor arguments types arity given =
    gives-bind
    (expect (constructor.arity == length arguments)
    (Arity entry name constructor.arity (length arguments))
    >> good place)
    (λ c. in_turn arguments >>= λ ts. good (type.Apply c ts)) place (type.Apply place types)
    (gives-then
    (expect (constructor.arity == length arguments)
    (Arity entry name constructor.arity (length arguments)))
    (good place) place
    (gives-expect (constructor.arity == length arguments)
    (Arity entry name constructor.arity (length arguments))
    (equal_test constructor.arity (length arguments) arity)) (gives-good place))
    (gives-bind (in_turn arguments) (λ ts. good (type.Apply place ts)) types
    (type.Apply place types) given (gives-good (type.Apply place types)))

module _ (entry : ℕ) (constructors : List Constructor) (scope : Scope) where
  mutual
    pub type_gives : (x : TypeExpr) (ty : Ty) → TypeMeans constructors scope x ty →
        Gives ((reading entry constructors x).as_type scope) ty
    type_gives _ _ (bound_type name i is) =
        rw (l.reading-variable entry constructors name, is) (gives-good (type.Var i))
    type_gives _ _ (applied_type name place constructor parts types named arity means) =
        rw (l.reading-apply entry constructors name parts, named)
        (applied_gives entry name place constructor
        (map (λ (part : Reading). part.as_type scope) (map (reading entry constructors) parts)) types
        (arity
        ∙ sym (length-map (map (reading entry constructors) parts) (λ (part : Reading). part.as_type scope)
        ∙ length-map parts (reading entry constructors)))
        (types_give parts types means))
    type_gives _ _ individuals_type =
        rw (l.reading-individuals entry constructors) (gives-good individuals)

    pub types_give : (xs : List TypeExpr) (types : List Ty) → TypesMean constructors scope xs types →
        Gives (in_turn (map (λ (part : Reading). part.as_type scope) (map (reading entry constructors) xs))) types
    types_give _ _ no_types = gives-none
    types_give _ _ (more_types part ty parts types means others) =
        gives-more ((reading entry constructors part).as_type scope)
        (map (λ (part : Reading). part.as_type scope) (map (reading entry constructors) parts))
        ty types (type_gives part ty means) (types_give parts types others)

  -- a type of terms as an argument, as a result and as the body of a declaration

  plain_arguments : (x : TypeExpr) (ty : Ty) → TypeMeans constructors scope x ty →
      (reading entry constructors x).as_arguments scope
      ≡ ((reading entry constructors x).as_type scope >>= λ a. good (a ∷ []))
  plain_arguments _ _ (bound_type name i is) = rw (l.reading-variable entry constructors name) refl
  plain_arguments _ _ (applied_type name place constructor parts types named arity means) =
      rw (l.reading-apply entry constructors name parts) refl
  plain_arguments _ _ individuals_type = rw (l.reading-individuals entry constructors) refl

  plain_result : (x : TypeExpr) (ty : Ty) → TypeMeans constructors scope x ty →
      (reading entry constructors x).as_result scope
      ≡ ((reading entry constructors x).as_type scope >>= λ a. good (Some a))
  plain_result _ _ (bound_type name i is) = rw (l.reading-variable entry constructors name) refl
  plain_result _ _ (applied_type name place constructor parts types named arity means) =
      rw (l.reading-apply entry constructors name parts) refl
  plain_result _ _ individuals_type = rw (l.reading-individuals entry constructors) refl

  plain_symbol : (name : List ℕ) (x : TypeExpr) (ty : Ty) → TypeMeans constructors scope x ty →
      (reading entry constructors x).as_symbol name scope
      ≡ symbol_of name scope (good []) ((reading entry constructors x).as_result scope)
  plain_symbol symbol _ _ (bound_type name i is) =
      rw (l.reading-variable entry constructors name) refl
  plain_symbol symbol _ _ (applied_type name place constructor parts types named arity means) =
      rw (l.reading-apply entry constructors name parts) refl
  plain_symbol symbol _ _ individuals_type = rw (l.reading-individuals entry constructors) refl

  mutual
    arguments_give : (x : TypeExpr) (types : List Ty) → ArgumentsMean constructors scope x types →
        Gives ((reading entry constructors x).as_arguments scope) types
    arguments_give _ _ (one_argument part ty means) =
        rw (plain_arguments part ty means)
        (gives-bind ((reading entry constructors part).as_type scope) (λ a. good (a ∷ [])) ty
        (ty ∷ []) (type_gives part ty means) (gives-good (ty ∷ [])))
    arguments_give _ _ (several_arguments parts types means) =
        rw (l.reading-product entry constructors parts) (all_arguments_give parts types means)

    all_arguments_give : (xs : List TypeExpr) (types : List Ty) →
        AllArgumentsMean constructors scope xs types →
        Gives (arguments_of_all (map (reading entry constructors) xs) scope) types
    all_arguments_give _ _ no_arguments = gives-good []
    all_arguments_give _ _ (more_arguments part front parts back means others) =
        gives-bind ((reading entry constructors part).as_arguments scope)
        (λ a. arguments_of_all (map (reading entry constructors) parts) scope
        >>= λ b. good (a ++ b)) front (front ++ back)
        (arguments_give part front means)
        (gives-bind (arguments_of_all (map (reading entry constructors) parts) scope)
        (λ b. good (front ++ b)) back (front ++ back) (all_arguments_give parts back others)
        (gives-good (front ++ back)))

  result_gives : (x : TypeExpr) (result : Option Ty) → ResultMeans constructors scope x result →
      Gives ((reading entry constructors x).as_result scope) result
  result_gives _ _ predicate_result = rw (l.reading-truth entry constructors) (gives-good None)
  result_gives _ _ (function_result part ty means) =
      rw (plain_result part ty means)
      (gives-bind ((reading entry constructors part).as_type scope) (λ a. good (Some a)) ty
      (Some ty) (type_gives part ty means) (gives-good (Some ty)))

  -- a symbol, by what its arguments and its result give
  symbol_of_gives : (name : List ℕ) (left : Visited (List Ty)) (right : Visited (Option Ty))
      (arguments : List Ty) (result : Option Ty) → Gives left arguments → Gives right result →
      Gives (symbol_of name scope left right)
      (record {
        name = name;
        parameters = type_variables scope;
        arguments = arguments;
        result = result;
      })
  symbol_of_gives name left right arguments result one two =
      let made : List Ty → Option Ty → Symbol = λ a r. record {
        name = name;
        parameters = type_variables scope;
        arguments = a;
        result = r;
      } in
      gives-bind left (λ a. right >>= λ r. good (made a r)) arguments (made arguments result) one
      (gives-bind right (λ r. good (made arguments r)) result (made arguments result) two
      (gives-good (made arguments result)))

  constant_is : (name : List ℕ) (x : TypeExpr) (result : Option Ty) →
      ResultMeans constructors scope x result →
      (reading entry constructors x).as_symbol name scope
      ≡ symbol_of name scope (good []) ((reading entry constructors x).as_result scope)
  constant_is name _ _ predicate_result = rw (l.reading-truth entry constructors) refl
  constant_is name _ _ (function_result part ty means) = plain_symbol name part ty means

-- ---- declarations of symbols

parameters_give : (entry : ℕ) (constructors : List Constructor) (names : List (List ℕ))
    (scope : Scope) →
    Gives
    (bind_parameters entry
    (map (bound_reading entry constructors) (map type_bound names)) scope)
    (with_parameters names scope)
parameters_give entry constructors [] scope = gives-good scope
parameters_give entry constructors (name ∷ names) scope =
    rw (l.bound_reading-type entry constructors name)
    (gives-then (expect true (BadDeclaration entry))
    (bind_parameters entry (map (bound_reading entry constructors) (map type_bound names))
    (TypeVariable name ∷ scope))
    (with_parameters names (TypeVariable name ∷ scope))
    (gives-expect true (BadDeclaration entry) refl)
    (parameters_give entry constructors names (TypeVariable name ∷ scope)))

pub symbol_gives : (entry : ℕ) (constructors : List Constructor) (name : List ℕ) (scope : Scope)
    (x : TypeExpr) (symbol : Symbol) → SymbolMeans constructors name scope x symbol →
    Gives ((reading entry constructors x).as_symbol name scope) symbol
symbol_gives entry constructors name _ _ _ (constant_symbol scope body result means) =
    rw (constant_is entry constructors scope name body result means)
    (symbol_of_gives entry constructors scope name (good [])
    ((reading entry constructors body).as_result scope) [] result (gives-good [])
    (result_gives entry constructors scope body result means))
symbol_gives entry constructors name _ _ _
    (mapped_symbol scope left right arguments result means gives) =
    rw (l.reading-map entry constructors left right)
    (symbol_of_gives entry constructors scope name
    ((reading entry constructors left).as_arguments scope)
    ((reading entry constructors right).as_result scope) arguments result
    (arguments_give entry constructors scope left arguments means)
    (result_gives entry constructors scope right result gives))
symbol_gives entry constructors name _ _ _ (quantified_symbol scope names body symbol means) =
    rw (l.reading-quantified entry constructors (map type_bound names) body)
    (gives-bind
    (bind_parameters entry
    (map (bound_reading entry constructors) (map type_bound names)) scope)
    ((reading entry constructors body).as_symbol name) (with_parameters names scope) symbol
    (parameters_give entry constructors names scope)
    (symbol_gives entry constructors name (with_parameters names scope) body symbol means))
