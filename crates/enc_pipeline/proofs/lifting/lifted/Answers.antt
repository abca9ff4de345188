use Rattle.std.proofs.Common.{rules, sym, subst}
use Rattle.tf_core.specs.Sound.{IsSoundNormal}
use Rattle.tf_models.specs.Reading.{tables}
use Rattle.enc_marks.specs.Schemes.{choices_of}
use Rattle.enc_pipeline.proofs.Ready.{sound_normal, applies_to_parts}
use Rattle.enc_pipeline.proofs.Carry.{is_lifted, is_not_lifted, few_members}
use Rattle.enc_pipeline.proofs.lifting.lifted.Goals as goal

pub lift-requires-clause-applies : goal.lift-requires-clause-applies
lift-requires-clause-applies c =
    applies_to_parts c.args.prepared.now c.scheme.result.now c.normal-normal.result.now
    c.normal-normal.ensures.prepared c.scheme.ensures.exact c.normal-normal.ensures.exact

pub lift-requires-clause-sound : goal.lift-requires-clause-sound
lift-requires-clause-sound c =
    subst IsSoundNormal (sym c.normal-normal.ensures.exact)
    (sound_normal c.args.prepared.now c.normal-normal.ensures.prepared)

pub from_normal-requires-clause-sound : goal.from_normal-requires-clause-sound
from_normal-requires-clause-sound c =
    subst IsSoundNormal (sym c.normal-normal.ensures.exact)
    (sound_normal c.args.prepared.now c.normal-normal.ensures.prepared)

pub from_normal-requires-clause-members : goal.from_normal-requires-clause-members
from_normal-requires-clause-members c =
    few_members (choices_of c.scheme.result.now c.normal-normal.result.now)
    c.normal-normal.result.now c.args.model.now (tables c.in-Ok.structure) c.in-Ok.ensures.exact
    c.in-Ok.ensures.model c.in-Ok.ensures.within

pub returns-in-Ok-clause-exact : goal.returns-in-Ok-clause-exact
returns-in-Ok-clause-exact c =
    is_lifted c.args.prepared.now c.scheme.result.now c.normal-normal.result.now
    c.encoded.result.now c.scheme.ensures.exact c.normal-normal.ensures.exact
    c.encoded.ensures.exact c.args.model.now (tables c.in-Ok.structure) c.from_normal.result
    c.normal-normal.ensures.prepared.sound c.in-Ok.ensures.model c.in-Ok.ensures.exact
    c.in-Ok.ensures.within c.from_normal.ensures.exact c.from_normal.ensures.model

pub returns-in-Err : goal.returns-in-Err
returns-in-Err c = record {
  exact = tt;
  refused = λ _.
      is_not_lifted c.args.prepared.now c.scheme.result.now c.normal-normal.result.now
      c.encoded.result.now c.scheme.ensures.exact c.normal-normal.ensures.exact
      c.encoded.ensures.exact c.args.model.now c.in-Err.refusal (search rules)
      c.in-Err.ensures.refused;
}
