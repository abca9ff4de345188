use Rattle.enc_base.proofs.Puts.{then_put, put_as}
use Rattle.model_tables.proofs.LineParts.{untyped_whole}
use Rattle.model_tables.proofs.write.put_untyped.Goals as goal

pub returns-clause-puts : goal.returns-clause-puts
returns-clause-puts g c =
    put_as (untyped_whole c.args.problem.now.signature c.args.names.now c.args.structure.now
    c.as_slice.result.now c.as_slice-2.result.now c.as_slice-3.result.now
    c.as_slice.ensures c.as_slice-2.ensures c.as_slice-3.ensures)
    (then_put c.put_opening.ensures.puts c.put_fof_symbols.ensures)

pub returns-clause-number : goal.returns-clause-number
returns-clause-number g c = c.put_opening.ensures.numbers.0
