use Rattle.tf_check.specs.Names.{names_of_term}
use Rattle.tf_check.proofs.UseLemmas.{on_ok, uses_two}
use Rattle.tf_check.proofs.names.add_sides.Goals as goal

pub returns : goal.returns
returns c =
    on_ok c.add_term-2.result
    (λ second. uses_two c.args.table.now c.add_term.new.table c.add_term-2.new.table
    (λ p. names_of_term p c.args.left.now) (λ p. names_of_term p c.args.right.now)
    c.in_ok-add_term.ensures second)
    c.add_term-2.ensures
