use Rattle.std.proofs.Common.{subst, sym}
use Rattle.fof_models.specs.Sound.{IsSound}
use Rattle.enc_marks.specs.declared.encoded.Encoded.{Encoded}
use Rattle.enc_marks.specs.declared.scheme.Scheme.TheVariants.{Guards}
use Rattle.enc_marks.specs.Schemes.{guards}
use Rattle.enc_marks.proofs.Sound.{translations_well_formed}
use Rattle.enc_marks.proofs.SoundSchemes.{schemes_fitting}
use Rattle.enc_guards.proofs.translation.encode.Goals as goal

pub returns-in-Ok-clause-sound : goal.returns-in-Ok-clause-sound
returns-in-Ok-clause-sound c =
    subst (λ (made : Encoded). IsSound made.problem) (sym c.in-Ok.ensures.exact)
    (translations_well_formed guards c.args.normal.now
    (schemes_fitting.schemes Guards c.args.normal.now tt) c.requires.sound)
