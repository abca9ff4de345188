use Rattle.std.proofs.Common.{sym, ◌∙◌}
use Rattle.enc_marks.specs.declared.scheme.Scheme.TheVariants.{Erase}
use Rattle.enc_marks.proofs.AppliesLaws.{applies_exactly}
use Rattle.enc_laws.proofs.SoundNormal.{normal_typed}
use Rattle.enc_args.proofs.translation.refuse_not_free.Goals as goal

pub returns-in-None-clause-applies : goal.returns-in-None-clause-applies
returns-in-None-clause-applies c =
    (applies_exactly Erase c.args.normal.now (normal_typed c.args.normal.now c.requires.sound)).1
    (λ asked. c.requires.monomorphic, sym c.in_ok-place.ensures.exact ∙ c.in-None.is)
