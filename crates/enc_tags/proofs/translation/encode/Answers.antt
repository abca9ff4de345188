use Rattle.std.proofs.Common.{subst, sym}
use Rattle.fof_models.specs.Sound.{IsSound}
use Rattle.enc_marks.specs.declared.encoded.Encoded.{Encoded}
use Rattle.enc_marks.specs.declared.scheme.Scheme.TheVariants.{Tags}
use Rattle.enc_marks.specs.Schemes.{tags}
use Rattle.enc_marks.proofs.Sound.{translations_well_formed}
use Rattle.enc_marks.proofs.SoundSchemes.{schemes_fitting}
use Rattle.enc_tags.proofs.translation.encode.Goals as goal

pub returns-in-Ok-clause-sound : goal.returns-in-Ok-clause-sound
returns-in-Ok-clause-sound c =
    subst (λ (made : Encoded). IsSound made.problem) (sym c.in-Ok.ensures.exact)
    (translations_well_formed tags c.args.normal.now
    (schemes_fitting.schemes Tags c.args.normal.now tt) c.requires.sound)
