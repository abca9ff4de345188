use Rattle.std.proofs.Common.{◌≡◌, ◌++◌}
use Rattle.tf_check.specs.Table.{listed_constructors}
use Rattle.tf_check.proofs.table.constructors_of.Given as goal

abbrev pub invariant-loop-name : goal.invariant-loop-name
invariant-loop-name l =
    l.listed ++ listed_constructors l.name-iterator ≡ listed_constructors l.fn.entries.entries
