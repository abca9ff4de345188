-- Rounds: the symbol instances that are known after each, and the substitutions that each admits.
-- Both are sets over all ground substitutions.
use Rattle.std.specs.Prelude.{ℕ, zero, suc, ◌<◌, ◌≡◌, ◌⊎◌, List, length, IsTrue}
use Rattle.std.specs.List.{Contains}
use Rattle.tf_core.specs.declared.ty.Ty.{Ty}
use Rattle.tf_core.specs.declared.signature.Signature.{Signature}
use Rattle.tf_core.specs.declared.normal.NormalFormula.{NormalFormula}
use Rattle.tf_core.specs.declared.normal.Normal.{Normal}
use Rattle.tf_core.specs.Typing.{AreTypes}
use Rattle.tf_core.specs.Occurrences.{occurs_in_types}
use Rattle.enc_mono.specs.declared.instances.Origin.{Origin}
use Rattle.enc_mono.specs.Instances.{symbol_instances, instance_under}

-- a ground substitution: a type without variables for each type variable
pub record IsGround (g : Signature) (variables : ℕ) (types : List Ty) : Type 0 where
  pub count : length types ≡ variables
  pub formed : AreTypes g 0 types

-- The type variable stands in the type arguments of some symbol of the formula whose instance under
-- the substitution is in the set.
pub record IsFound (known : Origin → Type 0) (formula : NormalFormula) (types : List Ty) (i : ℕ) :
    Type 0 where
  pub origin : Origin
  pub stands : Contains (symbol_instances formula.body) origin
  pub has : IsTrue (occurs_in_types i origin.types)
  pub is_known : known (instance_under types origin)

-- A set of symbol instances admits a ground substitution of a formula that has type variables where
-- each of these is found.
pub record IsAdmittedBy (known : Origin → Type 0) (g : Signature) (formula : NormalFormula)
    (types : List Ty) : Type 0 where
  pub polymorphic : 0 < formula.type_variables
  pub ground : IsGround g formula.type_variables types
  pub found : (i : ℕ) → i < formula.type_variables → IsFound known formula types i

-- a symbol instance of a formula without type variables
pub record StandsInGround (normal : Normal) (origin : Origin) : Type 0 where
  pub formula : NormalFormula
  pub of_problem : Contains normal.formulas formula
  pub no_variables : formula.type_variables ≡ 0
  pub stands : Contains (symbol_instances formula.body) origin

-- a symbol instance of a formula under a substitution that a set admits
pub record StandsInAdmitted (known : Origin → Type 0) (normal : Normal) (origin : Origin) :
    Type 0 where
  pub formula : NormalFormula
  pub of_problem : Contains normal.formulas formula
  pub types : List Ty
  pub admitted : IsAdmittedBy known normal.signature formula types
  pub before : Origin
  pub stands : Contains (symbol_instances formula.body) before
  pub is_instance : origin ≡ instance_under types before

-- The symbol instances that are known after so many rounds: at first those of the formulas without
-- type variables, and each round adds those of all formulas under the substitutions that it admits.
abbrev pub IsKnown : Normal → ℕ → Origin → Type 0
IsKnown normal zero origin = StandsInGround normal origin
IsKnown normal (suc rounds) origin =
    IsKnown normal rounds origin ⊎ StandsInAdmitted (IsKnown normal rounds) normal origin

-- The last of so many rounds admits the substitution, by what is known before it. Where there are
-- no
-- rounds none is admitted.
abbrev pub IsAdmitted : Normal → ℕ → NormalFormula → List Ty → Type 0
IsAdmitted normal zero formula types = ⊥
IsAdmitted normal (suc rounds) formula types =
    IsAdmittedBy (IsKnown normal rounds) normal.signature formula types
