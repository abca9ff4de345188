use Rattle.enc_mono.proofs.Partials.{bound_up_to-more}
use Rattle.enc_mono.proofs.partial.first_free.Goals as goal

pub loop-i-preserved : goal.loop-i-preserved
loop-i-preserved c =
    bound_up_to-more c.args.bound.now c.loop-i.i c.loop-i-test.true c.in-Some.field-0
    c.in-Some.is c.loop-i.invariant
