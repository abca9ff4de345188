use Rattle.std.proofs.Common.{map, take}
use Rattle.tf_core.specs.Sorts.{joined, declared_types}
use Rattle.tf_naked.specs.Calls.Listing.{Lists}
use Rattle.tf_naked.proofs.sort_list.list_symbols.Given as goal

abbrev pub invariant-loop-symbol : goal.invariant-loop-symbol
invariant-loop-symbol l =
    Lists l.initial.listing l.listing
    (joined (map declared_types (take l.symbol-index l.symbols)))
