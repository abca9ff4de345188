use Rattle.model_tables.proofs.Numbers.{decimal_over}
use Rattle.model_tables.proofs.spelled.decimal.Goals as goal

pub returns-then-value : goal.returns-then-value
returns-then-value c =
    decimal_over c.digits.value c.digits.left.now c.args.digits.now c.in-len1-up.len_at_least
    c.digits.invariant.same c.if-value.true
