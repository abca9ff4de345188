use Rattle.std.proofs.Common.{◌≡◌, ◌++◌}
use Rattle.tf_check.specs.Table.{listed_symbols}
use Rattle.tf_check.proofs.table.symbols_of.Given as goal

abbrev pub invariant-loop-name : goal.invariant-loop-name
invariant-loop-name l = l.listed ++ listed_symbols l.name-iterator
    ≡ listed_symbols l.fn.entries.entries
