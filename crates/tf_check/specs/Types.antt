-- Type expressions: what they stand for in each place in which one may stand, and the faults in them
-- from left to right, an expression before its parts.
use Rattle.std.specs.Prelude.{ℕ, ◌+◌, ◌==◌, Bool, false, List, [], ◌∷◌, ◌++◌, length, map}
use Rattle.std.specs.Prelude.{Option, Some, None, if◌then◌else◌, bytes_eq, option_map}
use Rattle.tptp_syntax.specs.declared.types.TypeExpr.{TypeExpr}
use Rattle.tptp_syntax.specs.declared.types.Bound.{Bound}
use Rattle.tptp_syntax.specs.declared.types.TypeExpr.TheOpen.{TypeExpr-F, Bound-F}
use Rattle.tptp_syntax.specs.declared.types.TypeExpr.TheOpen as layer
use Rattle.tptp_syntax.specs.declared.types.TypeExpr.TheFolds.{fold-TypeExpr, fold-Bound}
use Rattle.tf_core.specs.declared.ty.Ty.{Ty}
use Rattle.tf_core.specs.declared.ty.Ty.TheVariants.{Var, Apply}
use Rattle.tf_core.specs.declared.signature.Constructor.{Constructor}
use Rattle.tf_core.specs.declared.signature.Symbol.{Symbol}
use Rattle.tf_check.specs.declared.error.TypeError.TheVariants.{BadDeclaration, UnknownType, Arity}
use Rattle.tf_check.specs.Kinds.{is_types_at}
use Rattle.tf_check.specs.Scope.{Scope, TypeVariable, Meaning, OfType, meaning}
use Rattle.tf_check.specs.Scope.{type_variables}
use Rattle.tf_check.specs.Visited.{Visited, good, bad, expect, in_turn, ◌>>=◌, ◌>>◌}

-- the type `$i`
abbrev pub individuals : Ty
individuals = Apply 0 []

-- the first item with the name, and its place
abbrev pub found : {A : Type 0} → (A → List ℕ) → List ℕ → List A → Option (ℕ × A)
found name_of name [] = None
found name_of name (item ∷ items) =
    if bytes_eq name (name_of item) then Some (0, item)
    else option_map (λ at. (at.0 + 1, at.1)) (found name_of name items)

-- the constructor with the name, and its place
abbrev pub constructor_named : List ℕ → List Constructor → Option (ℕ × Constructor)
constructor_named = found (λ (constructor : Constructor). constructor.name)

-- ---- types of terms

-- a variable in the place of a type
abbrev pub type_variable : ℕ → List ℕ → Meaning → Visited Ty
type_variable entry name (OfType i) = good (Var i)
type_variable entry name _ = bad (UnknownType entry name) individuals

-- the place of a constructor that takes so many arguments: the name first, then their number
abbrev pub constructor_place : ℕ → List ℕ → ℕ → Option (ℕ × Constructor) → Visited ℕ
constructor_place entry name count None = bad (UnknownType entry name) 0
constructor_place entry name count (Some (place, constructor)) = do
  expect (constructor.arity == count) (Arity entry name constructor.arity count)
  good place

-- a name with arguments in the place of a type
abbrev pub type_applied : ℕ → List ℕ → Option (ℕ × Constructor) → List (Visited Ty) → Visited Ty
type_applied entry name at arguments = do
  place ← constructor_place entry name (length arguments) at
  types ← in_turn arguments
  good (Apply place types)

-- ---- type expressions

-- what is said of a type expression, under the names that are bound
pub record Reading : Type 0 where
  -- whether it is `$tType`
  pub is_types : Bool
  -- as a type of terms
  pub as_type : Scope → Visited Ty
  -- as the result of a symbol: a type of terms, or `$o`, of predicates
  pub as_result : Scope → Visited (Option Ty)
  -- as the arguments of a symbol, products flattened
  pub as_arguments : Scope → Visited (List Ty)
  -- as the body of the declaration of a symbol with the name
  pub as_symbol : List ℕ → Scope → Visited Symbol

-- a bound variable of a type: whether it is bound with `$tType`
pub record BoundReading : Type 0 where
  pub name : List ℕ
  pub is_type : Bool

abbrev pub is_bound_type : Option Reading → Bool
is_bound_type (Some kind) = kind.is_types
is_bound_type None = false

abbrev pub bound_step : Bound-F Reading BoundReading → BoundReading
bound_step bound = record { name = bound.name; is_type = is_bound_type bound.kind }

-- the parameters of a symbol, each of its own
abbrev pub bind_parameters : ℕ → List BoundReading → Scope → Visited Scope
bind_parameters entry [] scope = good scope
bind_parameters entry (bound ∷ bounds) scope = do
  expect bound.is_type (BadDeclaration entry)
  bind_parameters entry bounds (TypeVariable bound.name ∷ scope)

abbrev pub joined : Visited (List Ty) → Visited (List Ty) → Visited (List Ty)
joined first second = do
  front ← first
  back ← second
  good (front ++ back)

abbrev pub arguments_of_all : List Reading → Scope → Visited (List Ty)
arguments_of_all [] scope = good []
arguments_of_all (part ∷ parts) scope =
    joined (part.as_arguments scope) (arguments_of_all parts scope)

-- the symbol with the name, by its arguments and its result
abbrev pub symbol_of : List ℕ → Scope → Visited (List Ty) → Visited (Option Ty) → Visited Symbol
symbol_of name scope left right = do
  arguments ← left
  result ← right
  good (record {
    name = name;
    parameters = type_variables scope;
    arguments = arguments;
    result = result;
  })

abbrev pub types_of_all : List Reading → Scope → List (Visited Ty)
types_of_all parts scope = map (λ (part : Reading). part.as_type scope) parts

-- of the entry, under the constructors of the file
module _ (entry : ℕ) (constructors : List Constructor) where
  abbrev pub type_at : TypeExpr-F Reading BoundReading → Scope → Visited Ty
  type_at (layer.Variable name) scope = type_variable entry name (meaning scope name)
  type_at (layer.Apply name parts) scope =
      type_applied entry name (constructor_named name constructors)
      (types_of_all parts scope)
  type_at layer.Individuals scope = good individuals
  type_at _ scope = bad (BadDeclaration entry) individuals

  abbrev pub result_at : TypeExpr-F Reading BoundReading → Scope → Visited (Option Ty)
  result_at layer.Truth scope = good None
  result_at part scope = do
    ty ← type_at part scope
    good (Some ty)

  abbrev pub arguments_at : TypeExpr-F Reading BoundReading → Scope → Visited (List Ty)
  arguments_at (layer.Product parts) scope = arguments_of_all parts scope
  arguments_at part scope = do
    ty ← type_at part scope
    good (ty ∷ [])

  abbrev pub symbol_at : TypeExpr-F Reading BoundReading → List ℕ → Scope → Visited Symbol
  symbol_at (layer.Quantified bounds body) name scope =
      bind_parameters entry bounds scope >>= body.as_symbol name
  symbol_at (layer.Map left right) name scope =
      symbol_of name scope (left.as_arguments scope) (right.as_result scope)
  symbol_at part name scope = symbol_of name scope (good []) (result_at part scope)

  abbrev pub reading_step : TypeExpr-F Reading BoundReading → Reading
  reading_step part =
      record {
        is_types = is_types_at part;
        as_type = type_at part;
        as_result = result_at part;
        as_arguments = arguments_at part;
        as_symbol = symbol_at part;
      }

  unfoldable pub reading : TypeExpr → Reading
  reading = fold-TypeExpr Reading BoundReading reading_step bound_step

  -- the same of a bound variable
  abbrev pub bound_reading : Bound → BoundReading
  bound_reading = fold-Bound Reading BoundReading reading_step bound_step
