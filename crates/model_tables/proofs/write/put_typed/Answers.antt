use Rattle.std.proofs.Common.{subst}
use Rattle.enc_base.proofs.Puts.{then_put, put_as}
use Rattle.model_tables.specs.WrittenLaws.{AreNumbers}
use Rattle.model_tables.proofs.LineParts.{typed_whole}
use Rattle.model_tables.proofs.write.put_typed.Goals as goal

pub returns-clause-puts : goal.returns-clause-puts
returns-clause-puts g c =
    put_as (typed_whole c.args.signature.now c.args.structure.now c.as_slice.result.now
    c.as_slice-2.result.now c.as_slice-3.result.now c.as_slice-4.result.now
    c.as_slice-5.result.now c.as_slice.ensures c.as_slice-2.ensures c.as_slice-3.ensures
    c.as_slice-4.ensures c.as_slice-5.ensures)
    (then_put (then_put c.put_opening.ensures.puts c.put_constructors.ensures)
    c.put_symbols.ensures)

pub returns-clause-numbers : goal.returns-clause-numbers
returns-clause-numbers g c = subst AreNumbers c.as_slice.ensures c.put_opening.ensures.numbers
