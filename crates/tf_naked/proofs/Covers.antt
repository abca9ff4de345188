-- The equations of the parameter that a type is, and where it is a symbol's own.
use Rattle.std.specs.Prelude.{ℕ, zero, suc, ◌<◌, ◌≡◌, List, [], ◌∷◌, length, map, get_or, Option, Some, None}
use Rattle.std.specs.List.{AllByRecursion}
use Rattle.std.proofs.Common.{sym, ap, subst, ◌∙◌, arith}
use Rattle.tf_core.specs.declared.ty.Ty.{Ty}
use Rattle.tf_core.specs.declared.ty.Ty.TheVariants as type
use Rattle.tf_core.specs.declared.ty.Ty.TheOpen as layer
use Rattle.tf_core.specs.declared.ty.Ty.TheFolds.{fold-roll-Ty}
use Rattle.tf_core.specs.declared.signature.Symbol.{Symbol}
use Rattle.tf_core.specs.declared.signature.Signature.{Signature}
use Rattle.tf_core.specs.Typing.{IsType, type_variable, type_apply, AreTypes, no_types, more_types, IsSymbol}
use Rattle.tf_naked.specs.Covers.{parameter_of, parameter_step, IsOwn, HasOwnParameters}

pub parameter_of-variable : (i : ℕ) → parameter_of (type.Var i) ≡ Some i
unfolding parameter_of
parameter_of-variable i =
    ap parameter_of (sym (type.rolls-Var i))
    ∙ fold-roll-Ty (Option ℕ) parameter_step (layer.Var i)

pub parameter_of-apply : (c : ℕ) (arguments : List Ty) →
    parameter_of (type.Apply c arguments) ≡ None
unfolding parameter_of
parameter_of-apply c arguments =
    ap parameter_of (sym (type.rolls-Apply c arguments))
    ∙ fold-roll-Ty (Option ℕ) parameter_step (layer.Apply c arguments)

module _ (g : Signature) (count : ℕ) where
  own_parameter : (ty : Ty) → IsType g count ty → IsOwn count (parameter_of ty)
  own_parameter ty (type_variable i within) =
      subst (IsOwn count) (sym (parameter_of-variable i)) within
  own_parameter ty (type_apply c constructor arguments at same formed) =
      subst (IsOwn count) (sym (parameter_of-apply c arguments)) tt

  pub own_parameters : (types : List Ty) → AreTypes g count types →
      AllByRecursion (IsOwn count) (map parameter_of types)
  own_parameters [] no_types = tt
  own_parameters (_ ∷ _) (more_types ty types formed others) =
      (own_parameter ty formed, own_parameters types others)

-- a symbol of a well-typed list names its own parameters alone
pub own_parameters_at : (g : Signature) (symbols : List Symbol) (i : ℕ) (symbol : Symbol) →
    i < length symbols → symbol ≡ get_or symbols i symbol →
    AllByRecursion (IsSymbol g) symbols → HasOwnParameters symbol
own_parameters_at g [] i symbol within is typed = absurd (omega (arith, within))
own_parameters_at g (other ∷ symbols) zero symbol within is typed =
    subst HasOwnParameters (sym is)
    (own_parameters g other.parameters other.arguments typed.0.arguments)
own_parameters_at g (other ∷ symbols) (suc i) symbol within is typed =
    own_parameters_at g symbols i symbol (omega (arith, within)) is typed.1
