use Rattle.std.proofs.Common.{◌≡◌, take}
use Rattle.fof_models.proofs.problem.copy_symbols.Given as goal

abbrev pub invariant-loop-symbol : goal.invariant-loop-symbol
invariant-loop-symbol l = l.copied ≡ take l.symbol-index l.symbols
