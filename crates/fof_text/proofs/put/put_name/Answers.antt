use Rattle.std.proofs.Common.{sym, ◌∙◌, false, true}
use Rattle.enc_base.proofs.Puts.{then_put, put_as}
use Rattle.fof_text.proofs.Parts.{name_spelled}
use Rattle.fof_text.proofs.put.put_name.Goals as goal

pub returns-then-is_lower : goal.returns-then-is_lower
returns-then-is_lower g c =
    put_as (sym (name_spelled c.args.name.now true
    (sym c.is_lower.ensures ∙ c.if-is_lower.true))) c.put.ensures.puts

pub returns-else-is_lower : goal.returns-else-is_lower
returns-else-is_lower g c =
    put_as (sym (name_spelled c.args.name.now false
    (sym c.is_lower.ensures ∙ c.if-is_lower.false)))
    (then_put (then_put c.put-else-is_lower.ensures.puts c.put_escaped.ensures)
    c.put-else-is_lower-2.ensures.puts)
