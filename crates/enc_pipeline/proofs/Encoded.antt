-- The headline of problems that are encoded by a scheme that applies to them.
use Rattle.std.proofs.Common.{◌≤◌}
use Rattle.std.specs.Prelude.{◌↔◌}
use Rattle.tf_check.specs.Writable.{HasWritableNames}
use Rattle.tf_core.specs.declared.problem.Problem.{Problem}
use Rattle.tf_core.specs.Sound.{IsSound, IsSoundNormal}
use Rattle.tf_core.specs.TypedTables.{HasFiniteModel}
use Rattle.tf_nnf.specs.NormalForm.{normal_of}
use Rattle.tf_nnf.specs.Refusal.{most_nodes}
use Rattle.tf_nnf.proofs.SoundNormal.{normal_sound}
use Rattle.fof_models.specs.Sound as untyped
use Rattle.fof_text.specs.Names.{chosen_names}
use Rattle.fof_text.specs.States.{TextHasFiniteModel, AreNamed}
use Rattle.enc_marks.specs.declared.scheme.Scheme.{Scheme}
use Rattle.enc_marks.specs.Applies.{Applies}
use Rattle.enc_marks.specs.Schemes.{choices_of}
use Rattle.enc_marks.proofs.Sound.{translations_well_formed}
use Rattle.enc_marks.proofs.SoundSchemes.{schemes_fitting}
use Rattle.enc_models.proofs.KeepsModels.{finite_models_kept}
use Rattle.enc_pipeline.specs.Output.{output_of, translated}
use Rattle.enc_pipeline.specs.Causes.{nodes_of}
use Rattle.enc_pipeline.proofs.EncodedNames.{translation_named}
use Rattle.enc_pipeline.proofs.Headline.{text_and_problem}
use Rattle.enc_pipeline.proofs.SchemesKeep.{schemes_keep}

module _ (which : Scheme) (problem : Problem) (sound : IsSound problem)
    (writable : HasWritableNames problem) (within : nodes_of problem ≤ most_nodes)
    (applies : Applies which (normal_of problem)) where
  sound_normal : IsSoundNormal (normal_of problem)
  sound_normal = normal_sound problem sound within

  -- the translation is well formed
  pub encoded_sound : untyped.IsSound (translated which problem).problem
  encoded_sound =
      translations_well_formed (choices_of which (normal_of problem)) (normal_of problem)
      (schemes_fitting.schemes which (normal_of problem) applies) sound_normal

  -- its names are chosen
  pub encoded_named : AreNamed (chosen_names (translated which problem).problem.signature)
      (translated which problem).problem
  encoded_named =
      translation_named problem writable (choices_of which (normal_of problem)) sound_normal
      encoded_sound

  -- its text has a finite model exactly when the problem has a finite typed model
  pub encoded_headline :
      TextHasFiniteModel (output_of which (translated which problem).problem)
      ↔ HasFiniteModel problem
  encoded_headline =
      text_and_problem which problem (translated which problem).problem sound encoded_sound
      encoded_named
      (finite_models_kept which (schemes_keep which) (normal_of problem) sound_normal applies)
