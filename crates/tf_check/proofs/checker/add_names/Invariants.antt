use Rattle.std.proofs.Common.{◌≡◌, flat_map, take}
use Rattle.tf_check.specs.Names.{parameters_in}
use Rattle.tf_check.specs.Table.{with_uses}
use Rattle.tf_check.proofs.StatementLemmas.{names_in}
use Rattle.tf_check.proofs.checker.add_names.Given as goal

abbrev pub invariant-loop-entry : goal.invariant-loop-entry
invariant-loop-entry l =
    l.table
    ≡ with_uses l.fn.table
    (flat_map (names_in (parameters_in l.fn.table.symbols)) (take l.entry-index l.entries))
