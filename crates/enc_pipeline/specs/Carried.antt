-- Models that are read from tables, carried to the other side, and written as tables.
use Rattle.std.specs.Prelude.{ℕ, ◌<◌, ◌≤◌, ◌≡◌, ◌≢◌, List, codes}
use Rattle.enc_base.specs.Counts.{most_entries, in_64_bits}
use Rattle.tf_core.specs.declared.problem.Problem.{Problem}
use Rattle.tf_core.specs.declared.normal.Normal.{Normal}
use Rattle.tf_core.specs.TypedTables.{TypedTables, AreModel, reading}
use Rattle.tf_models.specs.declared.structure.TypedStructure.{TypedStructure}
use Rattle.tf_models.specs.FirstFalse.{IsFirstFalse}
use Rattle.tf_models.specs.Reading.{tables}
use Rattle.tf_nnf.specs.Extension.{IsExtension, without_fresh}
use Rattle.tf_nnf.specs.NormalForm.{normal_of}
use Rattle.fof_models.specs.declared.problem.FofProblem.{FofProblem}
use Rattle.fof_models.specs.declared.structure.Structure.{Structure}
use Rattle.fof_models.specs.Models as untyped_models
use Rattle.fof_models.specs.Structures as untyped_structures
use Rattle.fof_text.specs.Names.{chosen_names}
use Rattle.model_tables.specs.declared.error.TableError.TheVariants as table_error
use Rattle.model_tables.specs.Refusals.{IsRefused}
use Rattle.model_tables.specs.Typed as typed
use Rattle.model_tables.specs.Untyped as untyped_tables
use Rattle.model_tables.specs.Written.{typed_text, untyped_text}
use Rattle.enc_marks.specs.declared.refusal.Refusal.TheVariants as refusal
use Rattle.enc_marks.specs.Choices.{Choices}
use Rattle.enc_marks.specs.Schemes.{choices_of}
use Rattle.enc_models.specs.Lowered.{lowered, lowered_entries}
use Rattle.enc_models.specs.LiftedTables.{lifted_tables, lifted_entries}
use Rattle.enc_pipeline.specs.Way.{Preparation}
use Rattle.enc_pipeline.specs.Output.{translated}
use Rattle.enc_pipeline.specs.declared.fault.Fault.{Fault}
use Rattle.enc_pipeline.specs.declared.fault.Fault.TheVariants as fault

-- ---- what belongs to a prepared problem

-- The normal problem to which a model is extended, and the one that is translated; without
-- instances they are the same. The translation, the names of its symbols, and the choices of the
-- scheme by which it is made.

abbrev pub source_normal : Preparation → Normal
source_normal p = normal_of p.problem

abbrev pub written_normal : Preparation → Normal
written_normal p = normal_of p.problem

abbrev pub translation : Preparation → FofProblem
translation p = (translated p.how.scheme p.problem).problem

abbrev pub names : Preparation → List (List ℕ)
names p = chosen_names (translation p).signature

abbrev pub choices : Preparation → Choices
choices p = choices_of p.how.scheme (written_normal p)

-- ---- models by tables

-- the text is a typed table of this model of the problem, which is within the limit on entries
pub record IsTableOfModel (text : List ℕ) (problem : Problem) (model : TypedStructure)
    : Type 0 where
  pub is_table : typed.IsTypedTable text problem.signature model
  pub within : typed.structure_entries model ≤ most_entries
  pub is_model : AreModel problem (tables model)

-- the text is an untyped table of this model of the translation, which is within the limit
pub record IsTableOfUntypedModel (text : List ℕ) (p : Preparation) (model : Structure)
    : Type 0 where
  pub is_table : untyped_tables.IsUntypedTable text (translation p) (names p) model
  pub within : untyped_tables.structure_entries model ≤ most_entries
  pub is_model : untyped_models.AreModel (translation p) model

-- Why a text is no typed table of a model of the problem: it is no table within the limit, or the
-- formula at this index is the first that isn't as it should be in the table's structure.
abbrev pub IsNoModel : Problem → List ℕ → Fault → Type 0
IsNoModel problem text (fault.Table reason) =
    (reason ≢ table_error.Memory) × IsRefused (typed.typed problem.signature) text reason
IsNoModel problem text (fault.NotModel formula) =
    (structure : TypedStructure)
    × typed.IsTypedTable text problem.signature structure
    × (typed.structure_entries structure ≤ most_entries)
    × IsFirstFalse (reading problem.signature (tables structure)) problem.formulas formula
IsNoModel problem text _ = ⊥

-- the same of an untyped table and the translation
abbrev pub IsNoUntypedModel : Preparation → List ℕ → Fault → Type 0
IsNoUntypedModel p text (fault.Table reason) =
    (reason ≢ table_error.Memory)
    × IsRefused (untyped_tables.untyped (translation p).signature (names p)) text reason
IsNoUntypedModel p text (fault.NotModel formula) =
    (structure : Structure)
    × untyped_tables.IsUntypedTable text (translation p) (names p) structure
    × (untyped_tables.structure_entries structure ≤ most_entries)
    × untyped_models.IsFirstFalse (untyped_structures.reading structure) (translation p).formulas
    formula
IsNoUntypedModel p text _ = ⊥

-- what is written where a table is that of a model
unfoldable pub model_line : List ℕ
model_line = codes "model\n"

-- the output is written for a typed table: the line, where the table is that of a model
pub record IsCheckedTo (problem : Problem) (table output : List ℕ) : Type 0 where
  pub model : TypedStructure
  pub is_table : IsTableOfModel table problem model
  pub output_is : output ≡ model_line

-- ---- lowering

-- The output is written for a typed table: the untyped table, under the names of the translation's
-- symbols, of the lowered structure of the model's extension to the normal problem.
pub record IsLoweredTo (p : Preparation) (table output : List ℕ) : Type 0 where
  pub model : TypedStructure
  pub is_table : IsTableOfModel table p.problem model
  pub extension : TypedTables
  pub extends : IsExtension p.problem (tables model) extension
  pub within : lowered_entries (choices p) (written_normal p) extension ≤ most_entries
  pub output_is :
      output
      ≡ untyped_text (translation p).signature (names p)
      (lowered (choices p) (written_normal p) extension)

-- the lowered structure of the extension of a model has too many entries, of which the refusal says
-- how many
abbrev pub IsLoweredTooLarge : Preparation → TypedTables → ℕ → Type 0
IsLoweredTooLarge p t entries =
    (extension : TypedTables) × IsExtension p.problem t extension
    × (most_entries < lowered_entries (choices p) (written_normal p) extension)
    × (entries ≡ in_64_bits (lowered_entries (choices p) (written_normal p) extension))

-- why nothing is: the text is no table of a model, or the lowered structure has too many entries
abbrev pub IsUnlowered : Preparation → List ℕ → Fault → Type 0
IsUnlowered p table (fault.Table reason) = IsNoModel p.problem table (fault.Table reason)
IsUnlowered p table (fault.NotModel formula) = IsNoModel p.problem table (fault.NotModel formula)
IsUnlowered p table (fault.Scheme (refusal.TableTooLarge entries)) =
    (model : TypedStructure) × IsTableOfModel table p.problem model
    × IsLoweredTooLarge p (tables model) entries
IsUnlowered p table _ = ⊥

-- ---- lifting

-- a structure of these tables
abbrev pub structure_of : TypedTables → TypedStructure
structure_of t = record { sizes = t.sizes; constructors = t.constructors; symbols = t.symbols }

-- the model of the problem that a model of the translation gives: the lifted structure without the
-- tables of the fresh constructors
abbrev pub lifted_model : Preparation → Structure → TypedStructure
lifted_model p model =
    structure_of
    (without_fresh (source_normal p) (lifted_tables (choices p) (written_normal p) model))

-- the output is written for an untyped table: the typed table of the model that its model gives
pub record IsLiftedTo (p : Preparation) (table output : List ℕ) : Type 0 where
  pub model : Structure
  pub is_table : IsTableOfUntypedModel table p model
  pub within : lifted_entries (choices p) (written_normal p) model ≤ most_entries
  pub output_is : output ≡ typed_text p.problem.signature (lifted_model p model)

-- the lifted structure of a model, the tables of the fresh constructors counted in, has too many
-- entries, of which the refusal says how many
abbrev pub IsLiftedTooLarge : Preparation → Structure → ℕ → Type 0
IsLiftedTooLarge p model entries =
    (most_entries < lifted_entries (choices p) (written_normal p) model)
    × (entries ≡ in_64_bits (lifted_entries (choices p) (written_normal p) model))

-- why nothing is: the text is no table of a model, or the lifted structure has too many entries
abbrev pub IsUnlifted : Preparation → List ℕ → Fault → Type 0
IsUnlifted p table (fault.Table reason) = IsNoUntypedModel p table (fault.Table reason)
IsUnlifted p table (fault.NotModel formula) = IsNoUntypedModel p table (fault.NotModel formula)
IsUnlifted p table (fault.Scheme (refusal.TableTooLarge entries)) =
    (model : Structure) × IsTableOfUntypedModel table p model × IsLiftedTooLarge p model entries
IsUnlifted p table _ = ⊥
