use Rattle.std.proofs.Common.{subst}
use Rattle.std.specs.Prelude.{◌↔◌}
use Rattle.enc_base.specs.Sink.{AppendsPrefix}
use Rattle.tf_core.specs.TypedTables.{HasFiniteModel}
use Rattle.fof_text.specs.States.{TextHasFiniteModel}
use Rattle.enc_pipeline.specs.Way.{Preparation}
use Rattle.enc_pipeline.specs.Output.{output}
use Rattle.enc_pipeline.proofs.Ready.{ready_sound, ready_named, ready_text, headline}
use Rattle.enc_pipeline.proofs.prepared.encode_file.Goals as goal

pub write_output-requires-clause-sound : goal.write_output-requires-clause-sound
write_output-requires-clause-sound g c = ready_sound _ _ _ _ _ c.prepared.invariant

pub write_output-requires-clause-named : goal.write_output-requires-clause-named
write_output-requires-clause-named g c = ready_named _ _ _ _ _ c.prepared.invariant

pub returns-in-Ok-clause-headline : goal.returns-in-Ok-clause-headline
returns-in-Ok-clause-headline g c =
    subst (λ (p : Preparation). TextHasFiniteModel (output p) ↔ HasFiniteModel p.problem)
    c.prepared.view_is (headline _ c.prepared.invariant.prepared)

pub returns-in-Err-clause-headline : goal.returns-in-Err-clause-headline
returns-in-Err-clause-headline g c =
    subst (λ (p : Preparation). TextHasFiniteModel (output p) ↔ HasFiniteModel p.problem)
    c.prepared.view_is (headline _ c.prepared.invariant.prepared)

pub returns-in-Err-clause-within : goal.returns-in-Err-clause-within
returns-in-Err-clause-within g c =
    subst (λ (p : Preparation). AppendsPrefix (g.O.Sink.bytes c.args.out.now)
    (g.O.Sink.bytes c.write_output.new.out) (output p)) c.prepared.view_is
    (subst (λ l. AppendsPrefix (g.O.Sink.bytes c.args.out.now)
    (g.O.Sink.bytes c.write_output.new.out) l) (ready_text _ _ _ _ _ c.prepared.invariant)
    c.in-Err.ensures.within)
