use Rattle.std.proofs.Common.{◌≡◌, take}
use Rattle.enc_base.specs.Tables.{place}
use Rattle.tf_collapse.specs.Domain.{collapse_each}
use Rattle.tf_collapse.specs.PulledBack.{sizes_in}
use Rattle.tf_collapse.proofs.collapse.Collapse.entry.Given as goal

abbrev pub invariant-loop-i : goal.invariant-loop-i
invariant-loop-i l =
    l.at
    ≡ place (take l.i (sizes_in l.self l.members))
    (take l.i (collapse_each (sizes_in l.self l.members) l.values))
