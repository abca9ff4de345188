use Rattle.std.proofs.Common.{◌≡◌, map, take}
use Rattle.enc_marks.specs.Choices.{kept_types}
use Rattle.enc_models.specs.Calls.Sources.{sources}
use Rattle.enc_models.proofs.sources.sources_of_symbols.Given as goal

abbrev pub invariant-loop-symbol : goal.invariant-loop-symbol
invariant-loop-symbol l =
    l.all ≡ map (λ symbol. sources (kept_types l.keeps symbol) symbol) (take l.symbol-index l.symbols)
