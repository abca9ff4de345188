use Rattle.enc_base.proofs.Puts.{then_put}
use Rattle.fof_text.proofs.term.put_sides.Goals as goal

pub returns : goal.returns
returns g c = then_put (then_put c.put_term.ensures c.put.ensures.puts) c.put_term-2.ensures
