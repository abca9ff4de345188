use Rattle.std.proofs.Common.{◌≡◌, [], replicate}
use Rattle.enc_mono.specs.Calls.Numbered.{keys_in}
use Rattle.enc_mono.proofs.known.Known.new.Given as goal

abbrev pub invariant-loop : goal.invariant-loop
invariant-loop l = keys_in l.index.items ≡ replicate l.counter []
