use Rattle.std.proofs.Common.{◌≡◌, take, true}
use Rattle.std.specs.List.{list_all}
use Rattle.tf_core.specs.TypingTests.{is_symbol}
use Rattle.tf_core.proofs.typing.are_symbols.Given as goal

abbrev pub invariant-loop-symbol : goal.invariant-loop-symbol
invariant-loop-symbol l = list_all (is_symbol l.signature) (take l.symbol-index l.symbols) ≡ true
