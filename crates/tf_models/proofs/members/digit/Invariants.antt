use Rattle.std.proofs.Common.{◌≡◌, ◌+◌, ◌-◌, replicate, take}
use Rattle.enc_base.specs.Tables.{place}
use Rattle.enc_base.specs.Tuples.{tuple_at}
use Rattle.tf_models.proofs.members.digit.Given as goal

abbrev pub invariant-loop : goal.invariant-loop
invariant-loop l =
    l.rest
    ≡ place (take (l.count + (l.i + 1) - l.counter) (replicate l.count l.bound))
    (take (l.count + (l.i + 1) - l.counter) (tuple_at l.bound l.count l.number))
