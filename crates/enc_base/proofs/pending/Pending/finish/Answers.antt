use Rattle.enc_base.proofs.Puts.{broken, still_waits}
use Rattle.enc_base.proofs.pending.Pending.finish.Goals as goal

pub returns-clause-cause : goal.returns-clause-cause
returns-clause-cause g c = broken _ _ _ _ _ _ _
    (still_waits _ _ _ c.self.view_is c.if-self.false)
    (rw c.as_slice.ensures.value at c.write.ensures.begins) c.write.ensures.failed
