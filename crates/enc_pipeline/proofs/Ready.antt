-- What is known of a prepared problem, and of all that was made of it.
use Rattle.std.proofs.Common.{◌≡◌, ◌++◌, ◌∙◌, ℕ, List, ap, subst, sym}
use Rattle.std.specs.Prelude.{◌↔◌}
use Rattle.tf_core.specs.declared.signature.Constructor.{Constructor}
use Rattle.tf_core.specs.declared.signature.Symbol.{Symbol}
use Rattle.tf_core.specs.declared.problem.Problem.{Problem}
use Rattle.tf_core.specs.declared.normal.Normal.{Normal}
use Rattle.tf_core.specs.Sound.{IsSoundNormal}
use Rattle.tf_core.specs.TypedTables.{HasFiniteModel}
use Rattle.tf_check.proofs.VisitedNames.{all-map}
use Rattle.tf_nnf.proofs.SoundNormal.{normal_sound}
use Rattle.fof_models.specs.declared.problem.FofProblem.{FofProblem}
use Rattle.fof_models.specs.Sound as untyped
use Rattle.fof_text.specs.Names.{chosen_names}
use Rattle.enc_base.specs.Names.{IsWritable}
use Rattle.fof_text.specs.States.{TextHasFiniteModel, AreNamed}
use Rattle.fof_text.specs.Written.{text_of}
use Rattle.model_tables.specs.Writable.{IsNamed, AreNames}
use Rattle.enc_marks.specs.declared.scheme.Scheme.{Scheme}
use Rattle.enc_marks.specs.declared.encoded.Encoded.{Encoded}
use Rattle.enc_marks.specs.Applies.{Applies}
use Rattle.enc_pipeline.specs.declared.how.How.{How}
use Rattle.enc_pipeline.specs.Way.{Preparation}
use Rattle.enc_pipeline.specs.Ready.{IsPrepared, IsReady}
use Rattle.enc_pipeline.specs.Output.{first_line, output_of, translated, output}
use Rattle.enc_pipeline.specs.Carried.{written_normal, translation, names}
use Rattle.enc_pipeline.proofs.Encoded.{encoded_sound, encoded_named, encoded_headline}

module _ (p : Preparation) (prepared : IsPrepared p) where
  pub sound_normal : IsSoundNormal (written_normal p)
  sound_normal = normal_sound p.problem prepared.sound prepared.within

  pub sound_translation : untyped.IsSound (translation p)
  sound_translation =
      encoded_sound p.how.scheme p.problem prepared.sound prepared.named prepared.within
      prepared.applies

  pub translation_is_named : AreNamed (names p) (translation p)
  translation_is_named =
      encoded_named p.how.scheme p.problem prepared.sound prepared.named prepared.within
      prepared.applies

  -- the names with which tables of the translation are written and read
  pub are_names : AreNames (translation p).signature (names p)
  are_names = record {
    one_each = translation_is_named.one_each;
    differ = translation_is_named.differ;
    writable = translation_is_named.symbols;
  }

  -- and those of tables of the problem
  pub is_named : IsNamed p.problem.signature
  is_named = record {
    first = prepared.sound.signature.first;
    constructors =
        all-map IsWritable (λ (c : Constructor). c.name) p.problem.signature.constructors
        prepared.named.constructors;
    symbols =
        all-map IsWritable (λ (f : Symbol). f.name) p.problem.signature.symbols
        prepared.named.symbols;
    constructors_differ = prepared.distinct.constructors;
    symbols_differ = prepared.distinct.symbols;
  }

  pub headline : TextHasFiniteModel (output p) ↔ HasFiniteModel p.problem
  headline =
      encoded_headline p.how.scheme p.problem prepared.sound prepared.named prepared.within
      prepared.applies

-- the scheme applies to the normal problem, as calls give the two
pub applies_to_parts : (p : Preparation) (which : Scheme) (n : Normal) → IsPrepared p →
    which ≡ p.how.scheme → n ≡ written_normal p → Applies which n
applies_to_parts p which n prepared scheme_is normal_is =
    subst (λ (w : Scheme). Applies w n) (sym scheme_is)
    (subst (Applies p.how.scheme) (sym normal_is) prepared.applies)

-- the translation and the names, as a call gives them
module _ (p : Preparation) (made : Encoded) (ns : List (List ℕ))
    (made_is : made ≡ translated p.how.scheme p.problem) (names_are : ns ≡ names p) where
  pub from_made : (P : FofProblem → List (List ℕ) → Type 0) → P made.problem ns →
      P (translation p) (names p)
  from_made P holds =
      subst (λ (e : Encoded). P e.problem (names p)) made_is (subst (P made.problem) names_are holds)

  pub to_made : (P : FofProblem → List (List ℕ) → Type 0) → P (translation p) (names p) →
      P made.problem ns
  to_made P holds =
      subst (P made.problem) (sym names_are)
      (subst (λ (e : Encoded). P e.problem (names p)) (sym made_is) holds)

-- what was made of a prepared problem
module _ (problem : Problem) (how : How) (normal : Normal) (made : Encoded)
    (names : List (List ℕ)) (ready : IsReady problem how normal made names) where
  abbrev prepared_from : Preparation
  prepared_from = record { problem = problem; how = how }

  pub ready_sound : untyped.IsSound made.problem
  ready_sound =
      subst (λ (e : Encoded). untyped.IsSound e.problem) (sym ready.made_is)
      (sound_translation prepared_from ready.prepared)

  pub ready_named : AreNamed names made.problem
  ready_named =
      subst (λ ns. AreNamed ns made.problem) (sym ready.names_are)
      (subst (λ (e : Encoded). AreNamed (chosen_names e.problem.signature) e.problem)
      (sym ready.made_is) (translation_is_named prepared_from ready.prepared))

  -- what is written is the output of the problem and the way
  pub ready_text : first_line how.scheme ++ text_of names made.problem ≡ output prepared_from
  ready_text =
      ap (λ ns. first_line how.scheme ++ text_of ns made.problem) ready.names_are
      ∙ ap (λ (e : Encoded). output_of how.scheme e.problem) ready.made_is
