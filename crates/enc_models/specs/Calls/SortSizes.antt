-- Words of private contracts: the sizes of the members that types without variables are.
use Rattle.std.specs.Prelude.{ℕ, ◌≡◌, List, [], ◌∷◌, map}
use Rattle.std.specs.List.{AllByRecursion}
use Rattle.tf_core.specs.declared.ty.Ty.{Ty}
use Rattle.tf_core.specs.declared.signature.Symbol.{Symbol}
use Rattle.tf_core.specs.declared.signature.Signature.{Signature}
use Rattle.tf_core.specs.declared.normal.NormalFormula.{NormalFormula}
use Rattle.tf_core.specs.Typing.{IsType}
use Rattle.tf_core.specs.Sorts.{joined, parts_of, declared_types, binder_types}
use Rattle.tf_models.specs.declared.structure.TypedStructure.{TypedStructure}
use Rattle.tf_models.specs.Evaluation.{member_in, size_in}
use Rattle.enc_laws.specs.CollapsedStructure.{greatest}
use Rattle.enc_models.specs.declared.sort_sizes.Measured.{Measured}

-- types without variables
abbrev pub AreClosedTypes : Signature → List Ty → Type 0
AreClosedTypes g = AllByRecursion (IsType g 0)

-- those of symbols, and those at the binders of formulas

abbrev pub AreDeclaredClosed : Signature → List Symbol → Type 0
AreDeclaredClosed g = AllByRecursion (λ symbol. AreClosedTypes g (declared_types symbol))

abbrev pub AreBoundClosed : Signature → List NormalFormula → Type 0
AreBoundClosed g = AllByRecursion (λ formula. AreClosedTypes g (binder_types formula.body))

-- the greatest size of a member that one of the types is, or one of their parts
abbrev pub greatest_size : TypedStructure → List Ty → ℕ
greatest_size model types = greatest (map (size_in model []) (joined (map parts_of types)))

-- a type's member, and the greatest size of its parts' members
pub record IsMeasured (model : TypedStructure) (ty : Ty) (measured : Measured) : Type 0 where
  pub member_is : measured.member ≡ member_in model [] ty
  pub greatest_is : measured.greatest ≡ greatest_size model (ty ∷ [])
