-- Schemes keep models, from the laws of the structures.
use Rattle.std.specs.Prelude.{◌≡◌, ◌↔◌, length}
use Rattle.std.proofs.Common.{refl, sym, subst}
use Rattle.tf_core.specs.declared.normal.Normal.{Normal}
use Rattle.tf_core.specs.Sound.{IsSoundNormal}
use Rattle.tf_core.specs.TypedTables.{TypedTables, AreNormalModel}
use Rattle.tf_core.specs.TypedTables as typed
use Rattle.fof_models.specs.Models.{IsModel, AreModel, HasFiniteModel}
use Rattle.fof_models.specs.Tabled.{tabled}
use Rattle.fof_models.proofs.Tabled.{AreModel-tabled}
use Rattle.enc_marks.specs.declared.choices.Domain.{Domain}
use Rattle.enc_marks.specs.declared.choices.Domain.TheVariants.{Merged, Collapsed}
use Rattle.enc_marks.specs.declared.scheme.Scheme.{Scheme}
use Rattle.enc_marks.specs.declared.scheme.Scheme.TheVariants as scheme
use Rattle.enc_marks.specs.Applies.{Applies}
use Rattle.enc_marks.specs.Choices.{Choices}
use Rattle.enc_marks.specs.Encoded.{all_marks, is_present, translation, encoded}
use Rattle.enc_marks.specs.Schemes.{choices_of}
use Rattle.enc_marks.proofs.Sound.{translations_well_formed}
use Rattle.enc_marks.proofs.SoundSchemes.{schemes_fitting}
use Rattle.enc_laws.specs.Present.{over_present}
use Rattle.enc_laws.proofs.SoundNormal.{normal_typed}
use Rattle.enc_laws.proofs.Schemes.{models_encoded}
use Rattle.enc_laws.proofs.SortSchemes.{models_lifted}
use Rattle.enc_laws.proofs.CollapsedModel.{models_encoded_collapsed}
use Rattle.structure_tables.proofs.TypedModels.{AreNormalModel-tabled}
use Rattle.enc_models.specs.Lowered.{structure_by, lowered}
use Rattle.enc_models.specs.LiftedTables.{lifted_structure, lifted_tables}
use Rattle.enc_models.specs.KeepsModels.{translation_by, LowersModels, LiftsModels, KeepsModels, IsMerged, IsCollapsed}

-- The tables of the structure over a scheme's domain are a model where it is one.
tables_lowered : (which : Scheme) (d : Domain) (normal : Normal) (t : TypedTables) →
    (choices_of which normal).domain ≡ d → IsSoundNormal normal → Applies which normal →
    IsModel (translation_by which normal)
    (over_present (is_present (translation (choices_of which normal) normal))
    (length (all_marks (choices_of which normal) normal))
    (structure_by d (choices_of which normal) normal (typed.reading normal.signature t))) →
    AreModel (translation_by which normal) (lowered (choices_of which normal) normal t)
tables_lowered which d normal t is sound applies model =
    let c : Choices = choices_of which normal in
    subst (λ domain. AreModel (encoded c normal).problem
    (tabled (encoded c normal).problem.signature
    (over_present (is_present (translation c normal)) (length (all_marks c normal))
    (structure_by domain c normal (typed.reading normal.signature t))))) (sym is)
    (AreModel-tabled (encoded c normal).problem _
    (translations_well_formed c normal (schemes_fitting.schemes which normal applies) sound) model)

pub lowers_models : (which : Scheme) → IsMerged which → LowersModels which
lowers_models which merges normal t sound applies are =
    tables_lowered which Merged normal t (merges normal) sound applies
    (models_encoded which normal (typed.reading normal.signature t) (merges normal)
    (normal_typed normal sound) are.model)

pub collapsed_lower : (which : Scheme) → IsCollapsed which → LowersModels which
collapsed_lower which collapses normal t sound applies are =
    tables_lowered which Collapsed normal t (collapses normal) sound applies
    (models_encoded_collapsed which normal (typed.reading normal.signature t)
    (collapses normal) sound applies are.model)

pub lifts_models : (which : Scheme) → LiftsModels which
lifts_models which normal s sound applies model =
    AreNormalModel-tabled normal (lifted_structure (choices_of which normal) normal s)
    (normal_typed normal sound) (models_lifted which normal s sound applies model)

-- A scheme that keeps models has a finite model of the translation exactly where the problem has one.
pub finite_models_kept : (which : Scheme) → KeepsModels which → (normal : Normal) →
    IsSoundNormal normal → Applies which normal →
    (((t : TypedTables) × AreNormalModel normal t) ↔ HasFiniteModel (translation_by which normal))
finite_models_kept which keeps normal sound applies = (
  λ has. (
    lowered (choices_of which normal) normal has.0,
    keeps.lowers normal has.0 sound applies has.1,
  ),
  λ has. (
    lifted_tables (choices_of which normal) normal has.0,
    keeps.lifts normal has.0 sound applies has.1,
  ),
)

-- the schemes

pub merged_schemes_keep : (which : Scheme) → IsMerged which → KeepsModels which
merged_schemes_keep which merges = record {
  lowers = lowers_models which merges;
  lifts = lifts_models which;
}

pub guards_keep : KeepsModels scheme.Guards
guards_keep = merged_schemes_keep scheme.Guards (λ normal. refl)

pub tags_keep : KeepsModels scheme.Tags
tags_keep = merged_schemes_keep scheme.Tags (λ normal. refl)

pub guards_cover_keep : KeepsModels scheme.GuardsCover
guards_cover_keep = merged_schemes_keep scheme.GuardsCover (λ normal. refl)

pub tags_cover_keep : KeepsModels scheme.TagsCover
tags_cover_keep = merged_schemes_keep scheme.TagsCover (λ normal. refl)
