-- What is made of a model on the way from one table to another. This need not be believed.
use Rattle.std.specs.Prelude.{ℕ, ◌≤◌, ◌≡◌, List}
use Rattle.enc_base.specs.Counts.{most_entries}
use Rattle.tf_core.specs.TypedTables.{TypedTables}
use Rattle.tf_core.specs.TypedTables as typed_models
use Rattle.tf_models.specs.declared.structure.TypedStructure.{TypedStructure}
use Rattle.tf_models.specs.Reading.{tables}
use Rattle.tf_nnf.specs.Extension.{IsExtension}
use Rattle.fof_models.specs.declared.structure.Structure.{Structure}
use Rattle.fof_models.specs.Models as untyped_models
use Rattle.enc_marks.specs.declared.refusal.Refusal.TheVariants as refusal
use Rattle.enc_models.specs.Lowered.{lowered, lowered_entries}
use Rattle.enc_models.specs.LiftedTables.{lifted_entries}
use Rattle.enc_pipeline.specs.Way.{Preparation}
use Rattle.enc_pipeline.specs.Carried.{written_normal, translation, choices, IsTableOfModel}
use Rattle.enc_pipeline.specs.Carried.{IsTableOfUntypedModel}
use Rattle.enc_pipeline.specs.Carried.{IsLoweredTooLarge, IsLiftedTooLarge, lifted_model}
use Rattle.enc_pipeline.specs.declared.fault.Fault.{Fault}
use Rattle.enc_pipeline.specs.declared.fault.Fault.TheVariants as fault

-- ---- lowering

-- the structure is the lowered one of the extension of these tables, and a model of the translation
pub record IsLowered (p : Preparation) (t : TypedTables) (s : Structure) : Type 0 where
  pub extension : TypedTables
  pub extends : IsExtension p.problem t extension
  pub within : lowered_entries (choices p) (written_normal p) extension ≤ most_entries
  pub exact : s ≡ lowered (choices p) (written_normal p) extension
  pub is_model : untyped_models.AreModel (translation p) s

-- why there is none
abbrev pub IsNotLowered : Preparation → TypedTables → Fault → Type 0
IsNotLowered p t (fault.Scheme (refusal.TableTooLarge entries)) = IsLoweredTooLarge p t entries
IsNotLowered p t _ = ⊥

-- it is that of the model of which a text is a table
pub record IsLoweredFrom (p : Preparation) (table : List ℕ) (s : Structure) : Type 0 where
  pub model : TypedStructure
  pub is_table : IsTableOfModel table p.problem model
  pub is_lowered : IsLowered p (tables model) s

-- ---- lifting

-- the structure is that which an untyped model gives, and a model of the problem
pub record IsLifted (p : Preparation) (model : Structure) (s : TypedStructure) : Type 0 where
  pub within : lifted_entries (choices p) (written_normal p) model ≤ most_entries
  pub exact : s ≡ lifted_model p model
  pub is_model : typed_models.AreModel p.problem (tables s)

-- why there is none
abbrev pub IsNotLifted : Preparation → Structure → Fault → Type 0
IsNotLifted p model (fault.Scheme (refusal.TableTooLarge entries)) =
    IsLiftedTooLarge p model entries
IsNotLifted p model _ = ⊥

-- it is given by the model of which a text is a table
pub record IsLiftedFrom (p : Preparation) (table : List ℕ) (s : TypedStructure) : Type 0 where
  pub model : Structure
  pub is_table : IsTableOfUntypedModel table p model
  pub is_lifted : IsLifted p model s
