use Rattle.std.proofs.Common.{sym}
use Rattle.enc_base.proofs.Puts.{then_put, put_as}
use Rattle.model_tables.specs.Written.{constructor_heading}
use Rattle.model_tables.proofs.LineParts.{item_line_is}
use Rattle.model_tables.proofs.lines.put_constructor.Goals as goal

pub returns : goal.returns
returns g c =
    put_as (sym (item_line_is (constructor_heading c.args.index c.args.name.now)
    c.args.entries.now))
    (then_put (then_put c.put.ensures.puts c.put_constructor_name.ensures)
    c.put_entries.ensures)
