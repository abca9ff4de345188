use Rattle.std.proofs.Common.{sym, subst}
use Rattle.tf_core.specs.Sound.{IsSoundNormal}
use Rattle.tf_models.specs.Reading.{tables}
use Rattle.enc_pipeline.proofs.Ready.{sound_normal, applies_to_parts}
use Rattle.enc_pipeline.proofs.Carry.{is_lowered}
use Rattle.enc_pipeline.proofs.lowering.lowered.Goals as goal

pub lower-requires-clause-applies : goal.lower-requires-clause-applies
lower-requires-clause-applies c =
    applies_to_parts c.args.prepared.now c.scheme.result.now c.normal.result.now
    c.normal.ensures.prepared c.scheme.ensures.exact c.normal.ensures.exact

pub lower-requires-clause-sound : goal.lower-requires-clause-sound
lower-requires-clause-sound c =
    subst IsSoundNormal (sym c.normal.ensures.exact)
    (sound_normal c.args.prepared.now c.normal.ensures.prepared)

pub returns-in-Ok-clause-exact : goal.returns-in-Ok-clause-exact
returns-in-Ok-clause-exact c =
    is_lowered c.args.prepared.now c.scheme.result.now c.normal.result.now c.encoded.result.now
    c.scheme.ensures.exact c.normal.ensures.exact c.encoded.ensures.exact (tables c.args.model)
    (tables c.in_ok-extension.extension) c.in-Ok.structure c.in_ok-extension.ensures.exact
    c.in-Ok.ensures.model c.in-Ok.ensures.exact c.in-Ok.ensures.within
