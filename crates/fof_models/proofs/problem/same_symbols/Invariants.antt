use Rattle.std.proofs.Common.{◌≡◌, take}
use Rattle.fof_models.proofs.problem.same_symbols.Given as goal

abbrev pub invariant-loop-i : goal.invariant-loop-i
invariant-loop-i l = take l.i l.symbols ≡ take l.i l.others
