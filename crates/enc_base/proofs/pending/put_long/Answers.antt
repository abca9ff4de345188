use Rattle.std.proofs.Common.{refl}
use Rattle.enc_base.proofs.Puts.{put_filled, put_stopped}
use Rattle.enc_base.proofs.pending.put_long.Goals as goal

pub returns-then-flush-clause-puts : goal.returns-then-flush-clause-puts
returns-then-flush-clause-puts g c =
    put_filled _ _ _ _ _ _ c.split_at.ensures.front c.split_at.ensures.back c.store.ensures
    c.if-flush.ensures.puts c.put_rest.ensures.puts

pub returns-else-flush-clause-puts : goal.returns-else-flush-clause-puts
returns-else-flush-clause-puts g c = rw c.if-flush.false
    (put_filled _ _ _ _ _ _ c.split_at.ensures.front c.split_at.ensures.back c.store.ensures
    c.if-flush.ensures.puts (put_stopped _ _ _ _ refl))
