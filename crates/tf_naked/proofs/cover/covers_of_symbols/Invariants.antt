use Rattle.std.proofs.Common.{◌≡◌, map, take}
use Rattle.tf_naked.specs.Covers.{covers}
use Rattle.tf_naked.proofs.cover.covers_of_symbols.Given as goal

abbrev pub invariant-loop-symbol : goal.invariant-loop-symbol
invariant-loop-symbol l = l.rows ≡ map covers (take l.symbol-index l.symbol-items)
