use Rattle.std.proofs.Common.{◌≡◌, map, take}
use Rattle.tf_core.specs.Sorts.{joined, declared_types}
use Rattle.enc_models.specs.Calls.SortSizes.{greatest_size}
use Rattle.enc_models.proofs.sort_sizes.greatest_declared.Given as goal

abbrev pub invariant-loop-symbol : goal.invariant-loop-symbol
invariant-loop-symbol l =
    l.found ≡ greatest_size l.model (joined (map declared_types (take l.symbol-index l.symbols)))
