use Rattle.std.proofs.Common.{◌≡◌}
use Rattle.enc_mono.specs.Calls.Searched.{nothing_bound}
use Rattle.enc_mono.proofs.partial.nothing.Given as goal

abbrev pub invariant-loop : goal.invariant-loop
invariant-loop l = l.made ≡ nothing_bound l.counter
