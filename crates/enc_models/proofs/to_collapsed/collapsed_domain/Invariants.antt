use Rattle.std.proofs.Common.{◌≡◌, map, min, take}
use Rattle.enc_models.proofs.to_collapsed.collapsed_domain.Given as goal

abbrev pub invariant-loop-own : goal.invariant-loop-own
invariant-loop-own l = l.within ≡ map (λ own. min own l.size) (take l.own-index l.sizes)
