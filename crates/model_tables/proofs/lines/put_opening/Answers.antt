use Rattle.std.proofs.Common.{sym, ap, ◌∙◌, ◌++◌, [], codes}
use Rattle.enc_base.proofs.Puts.{then_put, put_as}
use Rattle.model_tables.specs.Written.{laid, form_line, numbers}
use Rattle.model_tables.proofs.LineParts.{opening_is, fits_numbers}
use Rattle.model_tables.proofs.lines.put_opening.Goals as goal

pub returns-clause-puts : goal.returns-clause-puts
returns-clause-puts g c =
    let sizes = laid (numbers c.args.sizes.now []) in
    put_as (ap (λ z. ((z ++ c.size_word.result.now) ++ sizes) ++ codes ".\n") c.form_text.ensures
    ∙ ap (λ z. ((laid (form_line c.args.form []) ++ z) ++ sizes) ++ codes ".\n") c.size_word.ensures
    ∙ sym (opening_is c.args.form c.args.sizes.now))
    (then_put (then_put (then_put c.put.ensures.puts c.put-2.ensures.puts)
    c.put_numbers.ensures) c.put-3.ensures.puts)

pub returns-clause-numbers : goal.returns-clause-numbers
returns-clause-numbers g c = fits_numbers c.args.sizes.now c.type_inv.sizes
