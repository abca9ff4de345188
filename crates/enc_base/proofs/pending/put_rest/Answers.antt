use Rattle.enc_base.proofs.Puts.{put_directly}
use Rattle.enc_base.proofs.pending.put_rest.Goals as goal

pub returns-clause-puts : goal.returns-clause-puts
returns-clause-puts g c = rw c.requires (put_directly _ _ _ _ _ _ _ c.is_ok.ensures.value
    c.write.ensures.ok c.write.ensures.begins c.write.ensures.failed
    c.write.ensures.kept_faults)
