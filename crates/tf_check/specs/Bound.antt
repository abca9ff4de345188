-- What a scope of the code stands for: the names that are bound, the types that have numbers, and
-- the types of the symbols. (For the clauses of the code.)
use Rattle.std.specs.Prelude.{◌≡◌, ◌≤◌, ℕ, List, [], length, map, reverse, get_or, slice_get, Option, Some, None, option_map}
use Rattle.std.specs.List.{AllByRecursion}
use Rattle.tf_core.specs.declared.ty.Ty.{Ty}
use Rattle.tf_core.specs.declared.ty.Ty.TheVariants.{Apply}
use Rattle.tf_core.specs.declared.term.Term.{Term}
use Rattle.tf_core.specs.declared.signature.Symbol.{Symbol}
use Rattle.tf_core.specs.declared.signature.Signature.{Signature}
use Rattle.tf_types.specs.declared.node.TypeId.{TypeId}
use Rattle.tf_types.specs.declared.node.TypeNode.{TypeNode}
use Rattle.tf_types.specs.declared.node.TypeNode.TheVariants as node
use Rattle.tf_types.specs.Numbers.{Extends, IsNumber, AreNumbers, type_at}
use Rattle.tf_check.specs.declared.context.Context.{Context}
use Rattle.tf_check.specs.declared.table.Profile.{Profile}
use Rattle.tf_check.specs.declared.terms.Arguments.{Arguments}
use Rattle.tf_check.specs.declared.terms.Given.{Given}
use Rattle.tf_check.specs.declared.scope.Binding as code
use Rattle.tf_check.specs.declared.scope.Meaning as answer
use Rattle.tf_check.specs.declared.scope.Meaning.TheVariants as answers
use Rattle.tf_check.specs.declared.scope.SymbolNumbers.{SymbolNumbers}
use Rattle.tf_check.specs.Limits.{most_nodes}
use Rattle.tf_check.specs.Scope.{Binding, Scope, TypeVariable, TermVariable, type_variables, Meaning, Unbound, OfType, OfTerm}

-- ---- what stands

-- the types of a symbol: those of its arguments as one, under the constructor 0, and its result
pub record SymbolTypes : Type 0 where
  pub arguments : Ty
  pub result : Option Ty

pub record Scoped : Type 0 where
  -- the names that are bound
  pub names : Scope
  -- the types that have numbers
  pub types : List Ty
  -- the types of the symbols, in order
  pub symbols : List SymbolTypes

abbrev pub symbol_types : List Ty → Option Ty → SymbolTypes
symbol_types arguments result = record { arguments = Apply 0 arguments; result = result }

abbrev pub types_of_symbol : Symbol → SymbolTypes
types_of_symbol symbol = symbol_types symbol.arguments symbol.result

-- the types of the symbols of a signature
abbrev pub types_of_symbols : Signature → List SymbolTypes
types_of_symbols signature = map types_of_symbol signature.symbols

-- the types of the symbol at the place
abbrev pub symbol_at : Scoped → ℕ → SymbolTypes
symbol_at scoped place = get_or scoped.symbols place (symbol_types [] None)

-- the symbol at the place has this type
abbrev pub IsSymbolAt : Scoped → ℕ → Profile → Type 0
IsSymbolAt scoped place profile =
    slice_get scoped.symbols place ≡ Some (symbol_types profile.arguments profile.result)

-- the symbols are those under which an entry is checked
abbrev pub IsReady : Context → Scoped → Type 0
IsReady context scoped = scoped.symbols ≡ types_of_symbols context.table.now

-- ---- under a table of types

abbrev pub named_binding : List Ty → List ℕ → Option TypeId → Binding
named_binding types name None = TypeVariable name
named_binding types name (Some id) = TermVariable name (type_at types id)

abbrev pub binding_of : List Ty → code.Binding → Binding
binding_of types binding = named_binding types binding.name.now binding.ty

-- the innermost name is the last of the stack
abbrev pub scope_of : List Ty → List code.Binding → Scope
scope_of types bindings = reverse (map (binding_of types) bindings)

abbrev pub meaning_of : List Ty → answer.Meaning → Meaning
meaning_of types answers.Unbound = Unbound
meaning_of types (answers.OfType i) = OfType i
meaning_of types (answers.OfTerm i id) = OfTerm i (type_at types id)

abbrev pub numbered_types : List Ty → SymbolNumbers → SymbolTypes
numbered_types types numbers =
    record {
      arguments = type_at types numbers.arguments;
      result = option_map (type_at types) numbers.result;
    }

-- what the parts of a scope stand for
abbrev pub scoped_as : List Ty → List code.Binding → List SymbolNumbers → Scoped
scoped_as types bindings numbers =
    record {
      names = scope_of types bindings;
      types = types;
      symbols = map (numbered_types types) numbers;
    }

-- the numbers of the arguments of a type; a variable has none
abbrev pub numbers_in : TypeNode → List TypeId
numbers_in (node.Var i) = []
numbers_in (node.Apply c numbers) = numbers

-- a term and the type that its number denotes
abbrev pub typed_at : List Ty → Term × TypeId → Term × Ty
typed_at types typed = (typed.0, type_at types typed.1)

-- the number, where there is one, is of the table
abbrev pub IsNumberIfAny : List Ty → Option TypeId → Type 0
IsNumberIfAny types None = Unit {0}
IsNumberIfAny types (Some id) = IsNumber types id

-- the numbers of the bindings are of the table
abbrev pub AreBound : List Ty → List code.Binding → Type 0
AreBound types = AllByRecursion (λ (binding : code.Binding). IsNumberIfAny types binding.ty)

abbrev pub HasNumbers : List Ty → SymbolNumbers → Type 0
HasNumbers types numbers = IsNumber types numbers.arguments × IsNumberIfAny types numbers.result

-- the numbers of the symbols are of the table
abbrev pub HaveNumbers : List Ty → List SymbolNumbers → Type 0
HaveNumbers types = AllByRecursion (HasNumbers types)

-- the parts of a scope fit one another
pub record AreScoped (types : List Ty) (bound_types : ℕ) (bindings : List code.Binding)
    (numbers : List SymbolNumbers) : Type 0 where
  pub counted : bound_types ≡ type_variables (scope_of types bindings)
  pub within : length bindings ≤ most_nodes
  pub bound : AreBound types bindings
  pub symbols : HaveNumbers types numbers

-- the number of what a name means is of the table
abbrev pub MeansNumber : List Ty → answer.Meaning → Type 0
MeansNumber types answers.Unbound = Unit {0}
MeansNumber types (answers.OfType i) = Unit {0}
MeansNumber types (answers.OfTerm i id) = IsNumber types id

abbrev pub arguments_given : Given → Arguments
arguments_given given = given.arguments

-- the numbers are those of the types for the parameters
abbrev pub IsGiven : Scoped → Given → Type 0
IsGiven scoped given =
    (map (type_at scoped.types) given.numbers ≡ given.arguments.types)
    × AreNumbers scoped.types given.numbers

-- ---- changes

-- types may have been added, and the symbols are the same
pub record Grows (old new : Scoped) : Type 0 where
  pub types : Extends old.types new.types
  pub symbols : new.symbols ≡ old.symbols

-- and so are the names
pub record Keeps (old new : Scoped) : Type 0 where
  pub names : new.names ≡ old.names
  pub grows : Grows old new
