-- That a scheme keeps models.
use Rattle.std.specs.Prelude.{◌≡◌}
use Rattle.tf_core.specs.declared.normal.Normal.{Normal}
use Rattle.tf_core.specs.Sound.{IsSoundNormal}
use Rattle.tf_core.specs.TypedTables.{TypedTables, AreNormalModel}
use Rattle.fof_models.specs.declared.problem.FofProblem.{FofProblem}
use Rattle.fof_models.specs.declared.structure.Structure.{Structure}
use Rattle.fof_models.specs.Models.{AreModel}
use Rattle.enc_marks.specs.declared.choices.Domain.TheVariants.{Merged, Collapsed}
use Rattle.enc_marks.specs.declared.choices.Marking.TheVariants.{ByType}
use Rattle.enc_marks.specs.declared.scheme.Scheme.{Scheme}
use Rattle.enc_marks.specs.Applies.{Applies}
use Rattle.enc_marks.specs.Encoded.{encoded}
use Rattle.enc_marks.specs.Schemes.{choices_of}
use Rattle.enc_models.specs.Lowered.{lowered}
use Rattle.enc_models.specs.LiftedTables.{lifted_tables}

-- the untyped problem that a scheme makes of a normal problem
abbrev pub translation_by : Scheme → Normal → FofProblem
translation_by which normal = (encoded (choices_of which normal) normal).problem

-- The lowered tables of any model of a normal problem to which the scheme applies are a model of
-- its translation, however large.
abbrev pub LowersModels : Scheme → Type 0
LowersModels which = (normal : Normal) (t : TypedTables) → IsSoundNormal normal →
    Applies which normal → AreNormalModel normal t →
    AreModel (translation_by which normal) (lowered (choices_of which normal) normal t)

-- The lifted tables of any model of its translation are a model of the normal problem.
abbrev pub LiftsModels : Scheme → Type 0
LiftsModels which = (normal : Normal) (s : Structure) → IsSoundNormal normal →
    Applies which normal → AreModel (translation_by which normal) s →
    AreNormalModel normal (lifted_tables (choices_of which normal) normal s)

pub record KeepsModels (which : Scheme) : Type 0 where
  pub lowers : LowersModels which
  pub lifts : LiftsModels which

-- ---- which schemes do

-- whatever the problem, models are lowered to the merged domain
abbrev pub IsMerged : Scheme → Type 0
IsMerged which = (normal : Normal) → (choices_of which normal).domain ≡ Merged

-- whatever the problem, models are lowered to the collapsed domain
abbrev pub IsCollapsed : Scheme → Type 0
IsCollapsed which = (normal : Normal) → (choices_of which normal).domain ≡ Collapsed

-- whatever the problem, guards and tags have the type as an argument
abbrev pub IsMarkedByType : Scheme → Type 0
IsMarkedByType which = (normal : Normal) → (choices_of which normal).marking ≡ ByType

abbrev pub MergedSchemesKeepModels : Type 0
MergedSchemesKeepModels = (which : Scheme) → IsMerged which → KeepsModels which

abbrev pub CollapsedSchemesLowerModels : Type 0
CollapsedSchemesLowerModels = (which : Scheme) → IsCollapsed which → LowersModels which

-- all schemes lift models
abbrev pub SchemesLiftModels : Type 0
SchemesLiftModels = (which : Scheme) → LiftsModels which
