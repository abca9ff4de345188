use Rattle.std.proofs.Common.{sym}
use Rattle.enc_base.proofs.Puts.{then_put, put_as}
use Rattle.fof_text.proofs.Parts.{escaped_next}
use Rattle.fof_text.proofs.put.put_escaped.Goals as goal

pub loop-byte-preserved : goal.loop-byte-preserved
loop-byte-preserved g c =
    put_as (sym (escaped_next c.args.bytes.now c.loop-byte.byte-index c.loop-byte-test.true))
    (then_put c.loop-byte.invariant c.put_byte.ensures)
