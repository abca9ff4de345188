use Rattle.std.proofs.Common.{◌≡◌, take}
use Rattle.enc_mono.proofs.instances.same_origins.Given as goal

abbrev pub invariant-loop-i : goal.invariant-loop-i
invariant-loop-i l = take l.i l.origins ≡ take l.i l.others
