use Rattle.std.proofs.Common.{◌≡◌, take}
use Rattle.enc_mono.proofs.instances.copy_origins.Given as goal

abbrev pub invariant-loop-origin : goal.invariant-loop-origin
invariant-loop-origin l = l.copied ≡ take l.origin-index l.origins
