-- The way by a scheme where nothing else is asked for.
use Rattle.std.proofs.Common.{◌≡◌, ◌≤◌, sym, ap, subst, arith}
use Rattle.enc_pipeline.specs.declared.how.How.{How}
use Rattle.enc_pipeline.specs.Way.{plain_way, IsWithoutInstances, IsInRange}

rounds_in_range : 3 ≤ 8
rounds_in_range = omega arith

cap_is_some : 1 ≤ 2000
cap_is_some = omega arith

cap_in_range : 2000 ≤ 100000
cap_in_range = omega arith

-- its numbers are those that the command line takes
pub plain_in_range : (how : How) → how ≡ plain_way how.scheme → IsInRange how
plain_in_range how plain =
    subst IsInRange (sym plain)
    (record { rounds = rounds_in_range; some = cap_is_some; cap = cap_in_range })

-- it is without instances
pub plain_without_instances : (how : How) → how ≡ plain_way how.scheme → IsWithoutInstances how
plain_without_instances how plain = ap (λ (h : How). h.mono) plain
