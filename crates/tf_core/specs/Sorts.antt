-- The list of sorts of a normal problem whose symbols and formulas have no type variables.
use Rattle.std.specs.Prelude.{List, [], ◌∷◌, ◌++◌, map, cond, Option, Some, None}
use Rattle.std.specs.List.{list_any}
use Rattle.tf_core.specs.declared.ty.Ty.{Ty}
use Rattle.tf_core.specs.declared.ty.Ty.TheVariants as type
use Rattle.tf_core.specs.declared.ty.Ty.TheOpen.{Ty-F}
use Rattle.tf_core.specs.declared.ty.Ty.TheOpen as type_layer
use Rattle.tf_core.specs.declared.ty.Ty.TheFolds.{para-Ty}
use Rattle.tf_core.specs.declared.nnf.Nnf.{Nnf}
use Rattle.tf_core.specs.declared.nnf.Nnf.TheOpen.{Nnf-F}
use Rattle.tf_core.specs.declared.nnf.Nnf.TheOpen as layer
use Rattle.tf_core.specs.declared.nnf.Nnf.TheFolds.{fold-Nnf}
use Rattle.tf_core.specs.declared.signature.Symbol.{Symbol}
use Rattle.tf_core.specs.declared.normal.Normal.{Normal}
use Rattle.tf_core.specs.Types.{same_type}

-- lists, one after another
abbrev pub joined : {A : Type 0} → List (List A) → List A
joined [] = []
joined (list ∷ lists) = list ++ joined lists

-- one layer of the parts of a type, each argument beside its parts
abbrev pub parts_step : Ty-F (Ty × List Ty) → List Ty
parts_step (type_layer.Var i) = type.Var i ∷ []
parts_step (type_layer.Apply c arguments) =
    joined (map (λ argument. argument.1) arguments)
    ++ type.Apply c (map (λ argument. argument.0) arguments) ∷ []

-- a type after its own arguments, from the left, each after its own
unfoldable pub parts_of : Ty → List Ty
parts_of = para-Ty (List Ty) parts_step

-- the result's type, where there is one
abbrev pub result_types : Option Ty → List Ty
result_types None = []
result_types (Some ty) = ty ∷ []

-- the types that a symbol is declared with: its arguments, then its result
abbrev pub declared_types : Symbol → List Ty
declared_types symbol = symbol.arguments ++ result_types symbol.result

-- one layer of the types at binders
abbrev pub binder_types_step : Nnf-F (List Ty) → List Ty
binder_types_step layer.True = []
binder_types_step layer.False = []
binder_types_step (layer.Atom positive f types terms) = []
binder_types_step (layer.Equation positive ty left right) = []
binder_types_step (layer.And parts) = joined parts
binder_types_step (layer.Or parts) = joined parts
binder_types_step (layer.ForAll ty body) = ty ∷ body
binder_types_step (layer.Exists ty body) = ty ∷ body

-- the types at a formula's binders, in reading order
unfoldable pub binder_types : Nnf → List Ty
binder_types = fold-Nnf (List Ty) binder_types_step

-- each type once, where it comes first, besides those seen before
abbrev pub once : List Ty → List Ty → List Ty
once seen [] = []
once seen (ty ∷ types) =
    cond (list_any (same_type ty) seen) (once seen types) (ty ∷ once (ty ∷ seen) types)

-- the types of the symbols, then those at binders
abbrev pub types_in_order : Normal → List Ty
types_in_order normal =
    joined (map declared_types normal.signature.symbols)
    ++ joined (map (λ formula. binder_types formula.body) normal.formulas)

-- the list itself, or where it is empty the type `$i` alone
abbrev pub or_individuals : List Ty → List Ty
or_individuals [] = type.Apply 0 [] ∷ []
or_individuals (ty ∷ types) = ty ∷ types

-- the list of sorts
abbrev pub sorts : Normal → List Ty
sorts normal = or_individuals (once [] (joined (map parts_of (types_in_order normal))))
