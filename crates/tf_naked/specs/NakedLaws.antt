-- Naked places and naked variables say the same: a problem's places are found from its equations,
-- a variable is found naked from its binder.
use Rattle.std.specs.Prelude.{ℕ, ◌≡◌, ◌↔◌, false, [], map, None, IsTrue}
use Rattle.std.specs.List.{AllByRecursion, list_any}
use Rattle.tf_core.specs.declared.ty.Ty.{Ty}
use Rattle.tf_core.specs.declared.nnf.Nnf.{Nnf}
use Rattle.tf_core.specs.declared.signature.Signature.{Signature}
use Rattle.tf_core.specs.declared.normal.NormalFormula.{NormalFormula}
use Rattle.tf_core.specs.declared.normal.Normal.{Normal}
use Rattle.tf_core.specs.Types.{same_type}
use Rattle.tf_core.specs.Typing.{IsNnf, IsNormal}
use Rattle.tf_naked.specs.declared.binder.Binder.{Binder}
use Rattle.tf_naked.specs.Binders.{binder_of, universal_binders}
use Rattle.tf_naked.specs.Universals.{universals_of, is_naked_of}
use Rattle.tf_naked.specs.Naked.{equations_of, naked_in_equations, first_naked, is_naked_type}
use Rattle.tf_naked.specs.SortLaws.{IsSort}

-- a formula, of whatever number, has a naked place of a type exactly where it has a naked variable
-- of that type
abbrev pub NakedPlacesAreOfNakedVariables : Type 0
NakedPlacesAreOfNakedVariables = (g : Signature) (variables number : ℕ) (p : Nnf) (ty : Ty) →
    IsNnf g variables [] p →
    list_any (λ naked. same_type ty naked.ty) (naked_in_equations number 0 (equations_of p []))
    ≡ list_any (is_naked_of g ty) (universals_of p)

-- what is told of the universal binders of a formula, is told of each binder and its body
abbrev pub BindersAreTold : Type 0
BindersAreTold = (g : Signature) (p : Nnf) →
    universal_binders g p ≡ map (λ binder. binder_of g binder.body) (universals_of p)

-- the variable of no universal binder of the problem is naked
abbrev pub NoVariableIsNaked : Normal → Type 0
NoVariableIsNaked normal = AllByRecursion (λ (formula : NormalFormula).
    AllByRecursion (λ (binder : Binder). binder.naked ≡ false)
    (universal_binders normal.signature formula.body)) normal.formulas

-- a problem has no naked place exactly where no variable is naked
abbrev pub NoPlaceIsNaked : Type 0
NoPlaceIsNaked = (normal : Normal) → IsNormal normal →
    (first_naked normal ≡ None) ↔ NoVariableIsNaked normal

-- the types of a problem's naked places are those of its naked variables
abbrev pub NakedVariablesHaveNakedTypes : Type 0
NakedVariablesHaveNakedTypes = (normal : Normal) (ty : Ty) → IsNormal normal →
    is_naked_type normal ty
    ≡ list_any (λ formula. list_any (is_naked_of normal.signature ty) (universals_of formula.body))
    normal.formulas

-- the type of a naked place is a sort
abbrev pub NakedTypesAreSorts : Type 0
NakedTypesAreSorts = (normal : Normal) (ty : Ty) → IsNormal normal →
    IsTrue (is_naked_type normal ty) → IsSort normal ty
