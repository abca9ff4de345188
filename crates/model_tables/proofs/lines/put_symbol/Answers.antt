use Rattle.std.proofs.Common.{sym, ap, ◌∙◌, ◌++◌, [], codes}
use Rattle.fof_text.specs.Written.{name_word}
use Rattle.enc_base.proofs.Puts.{then_put, put_as}
use Rattle.model_tables.specs.Written.{laid, numbers, heading}
use Rattle.model_tables.proofs.LineParts.{item_line_is}
use Rattle.model_tables.proofs.lines.put_symbol.Goals as goal

pub returns : goal.returns
returns g c =
    put_as (ap (λ z. ((z ++ codes " ") ++ (name_word c.args.name.now).spelling)
    ++ ((codes " =" ++ laid (numbers c.args.entries.now [])) ++ codes ".\n")) c.kind_text.ensures
    ∙ sym (item_line_is (heading c.args.kind c.args.name.now) c.args.entries.now))
    (then_put (then_put (then_put c.put.ensures.puts c.put-2.ensures.puts)
    c.put_name.ensures) c.put_entries.ensures)
