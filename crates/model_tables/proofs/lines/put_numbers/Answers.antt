use Rattle.std.proofs.Common.{sym}
use Rattle.enc_base.proofs.Puts.{then_put, put_as}
use Rattle.model_tables.proofs.LineParts.{number_next}
use Rattle.model_tables.proofs.lines.put_numbers.Goals as goal

pub loop-number-preserved : goal.loop-number-preserved
loop-number-preserved g c =
    put_as (sym (number_next c.args.numbers.now c.loop-number.number-index
    c.loop-number-test.true))
    (then_put c.loop-number.invariant (then_put c.put.ensures.puts c.put_number.ensures))
