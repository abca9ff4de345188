use Rattle.std.proofs.Common.{sym}
use Rattle.enc_base.proofs.Puts.{then_put, put_as}
use Rattle.fof_text.proofs.Parts.{variable_part}
use Rattle.fof_text.proofs.name.put_variable.Goals as goal

pub returns : goal.returns
returns g c = put_as (sym (variable_part c.args.number))
    (then_put c.put.ensures.puts c.put_number.ensures)
