-- What rounds and restrictions promise.
use Rattle.std.specs.Prelude.{ℕ, suc, List}
use Rattle.std.specs.List.{AllByRecursion}
use Rattle.tf_core.specs.declared.ty.Ty.{Ty}
use Rattle.tf_core.specs.declared.normal.NormalFormula.{NormalFormula}
use Rattle.tf_core.specs.declared.normal.Normal.{Normal}
use Rattle.tf_core.specs.Typing.{IsNormal}
use Rattle.tf_core.specs.Structures.{Typed}
use Rattle.tf_core.specs.Sound.{IsSoundNormal}
use Rattle.tf_core.specs.Models.{IsNormalModel}
use Rattle.tf_core.specs.TypedTables.{TypedTables, AreNormalModel}
use Rattle.enc_mono.specs.declared.instances.Origin.{Origin}
use Rattle.enc_mono.specs.Origins.{IsOriginOf}
use Rattle.enc_mono.specs.Rounds.{IsKnown, IsAdmitted}
use Rattle.enc_mono.specs.Monomorphised.{IsMonomorphised}
use Rattle.enc_mono.specs.Restricted.{restricted, restricted_tables}

-- One round more knows each symbol instance that was known, and admits each substitution that was.
pub record RoundsOnlyAdd : Type 0 where
  pub known : (normal : Normal) (rounds : ℕ) (origin : Origin) → IsKnown normal rounds origin →
      IsKnown normal (suc rounds) origin
  pub admitted : (normal : Normal) (rounds : ℕ) (formula : NormalFormula) (types : List Ty) →
      IsAdmitted normal rounds formula types → IsAdmitted normal (suc rounds) formula types

-- The restriction of any model of a sound problem is a model of its instances.
abbrev pub RestrictionKeepsModels : Type 0
RestrictionKeepsModels = (normal : Normal) (rounds : ℕ) (made : Normal) (origins : List Origin)
    (s : Typed) → IsSoundNormal normal → IsMonomorphised normal rounds made origins →
    IsNormalModel normal s → IsNormalModel made (restricted origins s)

-- The same of a model that is given as tables.
abbrev pub RestrictedTablesKeepModels : Type 0
RestrictedTablesKeepModels = (normal : Normal) (rounds : ℕ) (made : Normal) (origins : List Origin)
    (t : TypedTables) → IsSoundNormal normal → IsMonomorphised normal rounds made origins →
    AreNormalModel normal t →
    AreNormalModel made (restricted_tables normal.signature origins t)

-- The instances of a sound problem are well typed, and each of their symbols is a symbol of the
-- problem, with a type without variables for each parameter.
pub record InstancesAreTyped : Type 0 where
  pub made : (normal : Normal) (rounds : ℕ) (made : Normal) (origins : List Origin) →
      IsSoundNormal normal → IsMonomorphised normal rounds made origins → IsNormal made
  pub origins : (normal : Normal) (rounds : ℕ) (made : Normal) (origins : List Origin) →
      IsSoundNormal normal → IsMonomorphised normal rounds made origins →
      AllByRecursion (IsOriginOf normal.signature 0) origins
