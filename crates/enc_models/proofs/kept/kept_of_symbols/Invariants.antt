use Rattle.std.proofs.Common.{◌≡◌, map, take}
use Rattle.enc_marks.specs.Choices.{kept_types}
use Rattle.enc_models.proofs.kept.kept_of_symbols.Given as goal

abbrev pub invariant-loop-symbol : goal.invariant-loop-symbol
invariant-loop-symbol l = l.kept ≡ map (kept_types l.keeps) (take l.symbol-index l.symbols)
