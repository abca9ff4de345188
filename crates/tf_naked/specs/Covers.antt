-- Covers: the argument places that tell the types for a symbol's parameters. From an argument of a
-- type that is a parameter itself, the type for that parameter can be read off.
use Rattle.std.specs.Prelude.{ℕ, ◌<◌, Bool, false, not, List, [], ◌∷◌, map, eqb, position, is_none}
use Rattle.std.specs.Prelude.{Option, Some, None}
use Rattle.std.specs.List.{AllByRecursion, list_any, range_with_len}
use Rattle.tf_core.specs.declared.ty.Ty.{Ty}
use Rattle.tf_core.specs.declared.ty.Ty.TheOpen.{Ty-F}
use Rattle.tf_core.specs.declared.ty.Ty.TheOpen as layer
use Rattle.tf_core.specs.declared.ty.Ty.TheFolds.{fold-Ty}
use Rattle.tf_core.specs.declared.signature.Symbol.{Symbol}

abbrev pub parameter_step : Ty-F (Option ℕ) → Option ℕ
parameter_step (layer.Var i) = Some i
parameter_step (layer.Apply c arguments) = None

-- the parameter that a type is itself, where it is one
unfoldable pub parameter_of : Ty → Option ℕ
parameter_of = fold-Ty (Option ℕ) parameter_step

abbrev pub is_parameter : ℕ → Option ℕ → Bool
is_parameter parameter None = false
is_parameter parameter (Some other) = eqb parameter other

-- the parameters that the declared types of a symbol's arguments are
abbrev pub argument_parameters : Symbol → List (Option ℕ)
argument_parameters symbol = map parameter_of symbol.arguments

-- the cover of a parameter: the first argument place whose declared type is that parameter itself
abbrev pub cover_of : Symbol → ℕ → Option ℕ
cover_of symbol parameter = position (is_parameter parameter) (argument_parameters symbol)

-- for each parameter, whether it is kept: whether it has no cover
abbrev pub kept_parameters : Symbol → List Bool
kept_parameters symbol =
    map (λ parameter. is_none (cover_of symbol parameter)) (range_with_len 0 symbol.parameters)

-- for each place, whether it has a parameter, and no earlier place has the same one
abbrev pub first_places : List ℕ → List (Option ℕ) → List Bool
first_places earlier [] = []
first_places earlier (None ∷ parameters) = false ∷ first_places earlier parameters
first_places earlier (Some parameter ∷ parameters) =
    not (list_any (eqb parameter) earlier) ∷ first_places (parameter ∷ earlier) parameters

-- for each argument place of a symbol, whether it is the cover of a parameter
abbrev pub covers : Symbol → List Bool
covers symbol = first_places [] (argument_parameters symbol)

-- a parameter below the count, where there is one
abbrev pub IsOwn : ℕ → Option ℕ → Type 0
IsOwn count None = Unit {0}
IsOwn count (Some parameter) = parameter < count

-- each parameter that the type of an argument is, is one of the symbol's own
abbrev pub HasOwnParameters : Symbol → Type 0
HasOwnParameters symbol =
    AllByRecursion (IsOwn symbol.parameters) (argument_parameters symbol)

-- the covers of a symbol that may not be there
abbrev pub covers_of : Option Symbol → List Bool
covers_of None = []
covers_of (Some symbol) = covers symbol
