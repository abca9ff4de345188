use Rattle.std.proofs.Common.{◌≡◌, take, length, replicate}
use Rattle.enc_base.specs.Tables.{place}
use Rattle.model_tables.proofs.counted.place_of.Given as goal

abbrev pub invariant-loop-member : goal.invariant-loop-member
invariant-loop-member l =
    l.at
    ≡ place (take l.member-index (replicate (length l.members) l.bound))
    (take l.member-index l.members)
