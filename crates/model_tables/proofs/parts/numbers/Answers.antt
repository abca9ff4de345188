use Rattle.std.proofs.Common.{sym, ◌∙◌}
use Rattle.model_tables.proofs.NumberTurns.{next_number, last_number}
use Rattle.model_tables.proofs.parts.numbers.Goals as goal

pub numbers-preserved : goal.numbers-preserved
numbers-preserved c =
    rw (c.in_ok-push.ensures.ok, c.advance.ensures)
    (c.numbers.invariant
    ∙ next_number c.numbers.found c.numbers.reader c.in-Some.number (sym c.in-Some.ensures))

pub returns : goal.returns
returns c =
    c.numbers.invariant ∙ last_number c.numbers.found c.numbers.reader (sym c.in_default.ensures)
