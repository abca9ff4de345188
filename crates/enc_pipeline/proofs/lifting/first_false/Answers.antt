use Rattle.std.proofs.Common.{sym, subst}
use Rattle.fof_models.specs.Sound.{IsSound}
use Rattle.enc_marks.specs.declared.encoded.Encoded.{Encoded}
use Rattle.enc_pipeline.proofs.Ready.{sound_translation}
use Rattle.enc_pipeline.proofs.lifting.first_false.Goals as goal

pub most_terms-requires : goal.most_terms-requires
most_terms-requires c = record {
  sound =
      subst (λ (e : Encoded). IsSound e.problem) (sym c.encoded-encoded.ensures.exact)
      (sound_translation c.args.prepared.now c.encoded-encoded.ensures.prepared);
}

pub first_false-requires-clause-sound : goal.first_false-requires-clause-sound
first_false-requires-clause-sound c =
    subst (λ (e : Encoded). IsSound e.problem) (sym c.encoded-encoded.ensures.exact)
    (sound_translation c.args.prepared.now c.encoded-encoded.ensures.prepared)
