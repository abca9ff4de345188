use Rattle.std.proofs.Common.{◌≡◌, length, max, take}
use Rattle.enc_laws.specs.CollapsedStructure.{greatest}
use Rattle.enc_models.proofs.to_collapsed.greatest_or_count.Given as goal

abbrev pub invariant-loop-own : goal.invariant-loop-own
invariant-loop-own l = l.size ≡ max (length l.sizes) (greatest (take l.own-index l.sizes))
