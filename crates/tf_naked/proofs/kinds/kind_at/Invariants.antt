use Rattle.std.proofs.Common.{◌≡◌, drop}
use Rattle.tf_naked.specs.Calls.Frames.{kinds_of}
use Rattle.tf_naked.proofs.kinds.kind_at.Given as goal

abbrev pub invariant-loop : goal.invariant-loop
invariant-loop l = kinds_of l.nearest ≡ drop l.counter (kinds_of l.fn.frames)
