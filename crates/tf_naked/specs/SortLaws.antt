-- What the list of sorts promises: the types that occur in a problem without type variables are
-- sorts, each stands once, and has no variables.
use Rattle.std.specs.Prelude.{ℕ, ◌≡◌, List, map, slice_get, Option, Some, IsTrue}
use Rattle.std.specs.List.{AllByRecursion, list_any, position_or_len}
use Rattle.tf_core.specs.declared.ty.Ty.{Ty}
use Rattle.tf_core.specs.declared.ty.Ty.TheVariants as type
use Rattle.tf_core.specs.declared.term.Term.{Term}
use Rattle.tf_core.specs.declared.signature.Symbol.{Symbol}
use Rattle.tf_core.specs.declared.normal.NormalFormula.{NormalFormula}
use Rattle.tf_core.specs.declared.normal.Normal.{Normal}
use Rattle.tf_core.specs.Types.{same_type, instantiate}
use Rattle.tf_core.specs.Typing.{IsType, IsInstance, HasType}
use Rattle.tf_core.specs.Sorts.{declared_types, binder_types, sorts}
use Rattle.tf_core.specs.Sound.{is_monomorphic, IsSoundNormal}

-- the type is one of the sorts
abbrev pub IsSort : Normal → Ty → Type 0
IsSort normal ty = IsTrue (list_any (same_type ty) (sorts normal))

abbrev pub AreSorts : Normal → List Ty → Type 0
AreSorts normal = AllByRecursion (IsSort normal)

-- The sorts hold the types that a problem is written with; and where neither symbols nor formulas
-- have type variables, the type of each term, and those of the places where terms stand.
pub record HoldTypes (normal : Normal) : Type 0 where
  -- of a symbol's arguments and of its result
  pub declared :
      AllByRecursion (λ (symbol : Symbol). AreSorts normal (declared_types symbol))
      normal.signature.symbols
  -- at binders
  pub binders :
      AllByRecursion (λ (formula : NormalFormula). AreSorts normal (binder_types formula.body))
      normal.formulas
  -- the arguments of a sort
  pub arguments : (c : ℕ) (types : List Ty) → IsSort normal (type.Apply c types) →
      AreSorts normal types
  -- of a term, where those of the variables in scope are sorts
  pub terms : IsTrue (is_monomorphic normal) → (variables : ℕ) (context : List Ty) (t : Term)
      (ty : Ty) → AreSorts normal context → HasType normal.signature variables context t ty →
      IsSort normal ty
  -- of what a symbol is applied to
  pub places : IsTrue (is_monomorphic normal) → (variables f : ℕ) (symbol : Symbol)
      (result : Option Ty) (types : List Ty) →
      IsInstance normal.signature variables f symbol result types →
      AreSorts normal (map (instantiate types) symbol.arguments)

abbrev pub SortsHoldTypes : Type 0
SortsHoldTypes = (normal : Normal) → HoldTypes normal

-- each sort stands once in the list: the first to equal it is it itself
abbrev pub SortsStandOnce : Type 0
SortsStandOnce = (normal : Normal) (i : ℕ) (ty : Ty) → slice_get (sorts normal) i ≡ Some ty →
    position_or_len (same_type ty) (sorts normal) ≡ i

-- sorts are types without variables, where a sound problem has no type variables
abbrev pub SortsAreTypes : Type 0
SortsAreTypes = (normal : Normal) → IsTrue (is_monomorphic normal) → IsSoundNormal normal →
    AllByRecursion (IsType normal.signature 0) (sorts normal)
