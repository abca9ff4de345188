use Rattle.std.proofs.Common.{take}
use Rattle.fof_models.specs.Sound.{AreShort}
use Rattle.fof_models.proofs.is_sound.are_short.Given as goal

abbrev pub invariant-loop-symbol : goal.invariant-loop-symbol
invariant-loop-symbol l = AreShort (take l.symbol-index l.symbols)
