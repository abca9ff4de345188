use Rattle.std.proofs.Common.{◌≡◌, take}
use Rattle.enc_mono.specs.Calls.Searched.{bound_to}
use Rattle.enc_mono.proofs.partial.numbers_in.Given as goal

abbrev pub invariant-loop-entry : goal.invariant-loop-entry
invariant-loop-entry l = bound_to l.ids ≡ take l.entry-index l.bound
