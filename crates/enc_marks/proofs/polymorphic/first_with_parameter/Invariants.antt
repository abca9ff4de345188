use Rattle.std.proofs.Common.{◌≡◌, drop, filter, not, eqb}
use Rattle.enc_marks.proofs.polymorphic.first_with_parameter.Given as goal

abbrev pub invariant-loop-symbol : goal.invariant-loop-symbol
invariant-loop-symbol l =
    filter (λ symbol. not (eqb symbol.parameters 0)) (drop l.symbol-index l.symbols)
    ≡ filter (λ symbol. not (eqb symbol.parameters 0)) l.symbols
