use Rattle.enc_base.proofs.Puts.{has_stopped, put_stopped}
use Rattle.enc_base.proofs.pending.Pending.put.Goals as goal

pub returns-then-self-clause-puts : goal.returns-then-self-clause-puts
returns-then-self-clause-puts g c = put_stopped _ _ _ _
    (has_stopped _ _ _ c.self.view_is c.if-self.true)
