use Rattle.enc_base.proofs.Puts.{put_written}
use Rattle.enc_base.proofs.pending.flush.Goals as goal

pub returns-clause-puts : goal.returns-clause-puts
returns-clause-puts g c = put_written _ _ _ _ _ _ _ c.is_ok-sent.ensures.value
    (rw c.as_slice.ensures.value at c.write.ensures.ok)
    (rw c.as_slice.ensures.value at c.write.ensures.begins) c.write.ensures.failed
    c.write.ensures.kept_faults
