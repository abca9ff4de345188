-- A text that is written has a finite model exactly when its problem has a finite typed one, where
-- the untyped problem has one exactly when the normal problem has.
use Rattle.std.proofs.Common.{◌≡◌, ◌++◌, ℕ, true, List, [], ◌∷◌, refl, sym, subst, codes}
use Rattle.std.specs.Prelude.{◌↔◌, ◌&&◌, Bool, false}
use Rattle.std.specs.List.{list_all}
use Rattle.tptp_words.specs.Text.{AllPass, not_feed}
use Rattle.tf_core.specs.declared.problem.Problem.{Problem}
use Rattle.tf_core.specs.Sound.{IsSound}
use Rattle.tf_core.specs.TypedTables.{TypedTables, AreNormalModel, HasFiniteModel}
use Rattle.tf_nnf.specs.NormalForm.{normal_of}
use Rattle.tf_nnf.specs.Extension.{without_fresh}
use Rattle.tf_nnf.proofs.Models.{model_has_one_extension, extension_is_model, reduct_is_model}
use Rattle.fof_models.specs.declared.problem.FofProblem.{FofProblem}
use Rattle.fof_models.specs.Models as untyped
use Rattle.fof_models.specs.Sound as untyped_sound
use Rattle.fof_text.specs.Names.{chosen_names}
use Rattle.fof_text.specs.States.{States, TextHasFiniteModel, AreNamed}
use Rattle.fof_text.specs.Written.{comment_line, text_of}
use Rattle.fof_text.proofs.Stated.{states, comments_change_nothing}
use Rattle.fof_text.proofs.Together.{models_together}
use Rattle.enc_marks.specs.declared.scheme.Scheme.{Scheme}
use Rattle.enc_marks.specs.declared.scheme.Scheme.TheVariants as scheme
use Rattle.enc_pipeline.specs.Output.{first_line, output_of}

all_pass : (bytes : List ℕ) → list_all not_feed bytes ≡ true → AllPass not_feed bytes
all_pass [] passed = tt
all_pass (b ∷ bytes) passed =
    let parts = both (not_feed b) (list_all not_feed bytes) passed in
    (parts.0, all_pass bytes parts.1)
  where
    both : (p q : Bool) → (p && q) ≡ true → (p ≡ true) × (q ≡ true)
    both true q passed = (refl, passed)
    both false q passed = absurd cc

-- a first line that is a comment changes nothing of what is stated
stated_behind : (line body text : List ℕ) (problem : FofProblem) → line ≡ comment_line body →
    list_all not_feed body ≡ true → States text problem → States (line ++ text) problem
stated_behind line body text problem is passed stated =
    subst (λ l. States (l ++ text) problem) (sym is)
    (comments_change_nothing body text problem (all_pass body passed) stated)

-- the first line of each scheme is a comment
comment_states : (which : Scheme) (text : List ℕ) (problem : FofProblem) → States text problem →
    States (first_line which ++ text) problem
unfolding first_line
comment_states scheme.Guards text problem =
    stated_behind _ (codes " tfenc guards complete") text problem refl refl
comment_states scheme.Tags text problem =
    stated_behind _ (codes " tfenc tags complete") text problem refl refl
comment_states scheme.GuardsCover text problem =
    stated_behind _ (codes " tfenc guards_cover complete") text problem refl refl
comment_states scheme.TagsCover text problem =
    stated_behind _ (codes " tfenc tags_cover complete") text problem refl refl
comment_states scheme.Args text problem =
    stated_behind _ (codes " tfenc args complete") text problem refl refl
comment_states scheme.Erase text problem =
    stated_behind _ (codes " tfenc erase complete") text problem refl refl
comment_states scheme.GuardsLight text problem =
    stated_behind _ (codes " tfenc guards_light complete") text problem refl refl
comment_states scheme.TagsLight text problem =
    stated_behind _ (codes " tfenc tags_light complete") text problem refl refl
comment_states scheme.GuardsFeather text problem =
    stated_behind _ (codes " tfenc guards_feather complete") text problem refl refl
comment_states scheme.TagsFeather text problem =
    stated_behind _ (codes " tfenc tags_feather complete") text problem refl refl

-- the untyped problem has a finite model exactly when the normal problem has
abbrev pub HaveModelsTogether : Problem → FofProblem → Type 0
HaveModelsTogether problem translation =
    ((t : TypedTables) × AreNormalModel (normal_of problem) t) ↔ untyped.HasFiniteModel translation

module _ (which : Scheme) (problem : Problem) (translation : FofProblem) (sound : IsSound problem)
    (sound_translation : untyped_sound.IsSound translation)
    (named : AreNamed (chosen_names translation.signature) translation)
    (together : HaveModelsTogether problem translation) where
  stated : States (output_of which translation) translation
  stated =
      comment_states which (text_of (chosen_names translation.signature) translation) translation
      (states (chosen_names translation.signature) translation sound_translation named)

  typed_model : TextHasFiniteModel (output_of which translation) → HasFiniteModel problem
  typed_model has =
      let model = models_together (output_of which translation) has.problem translation has.states
      stated has.model in
      let normal = together.1 model in (
        without_fresh (normal_of problem) normal.0,
        reduct_is_model problem normal.0 sound normal.1,
      )

  text_model : HasFiniteModel problem → TextHasFiniteModel (output_of which translation)
  text_model has =
      let extension = model_has_one_extension.some problem has.0 has.1 in
      let normal = extension_is_model problem has.0 extension.0 sound has.1 extension.1 in
      record {
        problem = translation;
        states = stated;
        model = together.0 (extension.0, normal);
      }

  pub text_and_problem : TextHasFiniteModel (output_of which translation) ↔ HasFiniteModel problem
  text_and_problem = (typed_model, text_model)
