use Rattle.std.specs.Prelude.{◌≡◌, Result, Ok}
use Rattle.std.specs.Result.{IfOk}
use Rattle.std.proofs.Common.{subst, sym, ◌∙◌}
use Rattle.enc_base.specs.declared.error.NoMemory.{NoMemory}
use Rattle.fof_models.specs.Sound.{IsSound}
use Rattle.enc_marks.specs.declared.encoded.Encoded.{Encoded}
use Rattle.enc_marks.specs.declared.scheme.Scheme.TheVariants.{GuardsCover, TagsCover}
use Rattle.enc_marks.specs.Schemes.{guards_cover, tags_cover}
use Rattle.enc_marks.proofs.Sound.{translations_well_formed}
use Rattle.enc_marks.proofs.SoundSchemes.{schemes_fitting}
use Rattle.enc_cover.proofs.translation.encode.Goals.{in-GuardsCover, in-TagsCover}
use Rattle.enc_cover.proofs.translation.encode.Goals as goal

-- what is made, where both schemes' answers join
made_is : (joined answer : Result Encoded NoMemory) (made exact : Encoded) → joined ≡ answer →
    joined ≡ Ok made → IfOk answer (λ other. other ≡ exact) → made ≡ exact
made_is joined answer made exact same is holds =
    subst (λ r. IfOk r (λ other. other ≡ exact)) (sym same ∙ is) holds

pub returns-in-Ok-clause-sound : goal.returns-in-Ok-clause-sound
returns-in-Ok-clause-sound c =
    elim c.match-which.branch [
      | in-GuardsCover w ↦
          subst (λ (made : Encoded). IsSound made.problem)
          (sym (made_is c.match-which.made w.encode-made.result c.in-Ok.made _ w.made-is c.in-Ok.is
          w.encode-made.ensures.exact))
          (translations_well_formed guards_cover c.args.normal.now
          (schemes_fitting.schemes GuardsCover c.args.normal.now tt) c.requires.sound)
      | in-TagsCover w ↦
          subst (λ (made : Encoded). IsSound made.problem)
          (sym (made_is c.match-which.made w.encode-made-in-TagsCover.result c.in-Ok.made _
          w.made-is c.in-Ok.is w.encode-made-in-TagsCover.ensures.exact))
          (translations_well_formed tags_cover c.args.normal.now
          (schemes_fitting.schemes TagsCover c.args.normal.now tt) c.requires.sound)
    ]
