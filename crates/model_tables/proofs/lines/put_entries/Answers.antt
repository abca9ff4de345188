use Rattle.enc_base.proofs.Puts.{then_put}
use Rattle.model_tables.proofs.lines.put_entries.Goals as goal

pub returns : goal.returns
returns g c =
    then_put (then_put c.put.ensures.puts c.put_numbers.ensures) c.put-2.ensures.puts
