use Rattle.std.proofs.Common.{◌≡◌, take}
use Rattle.enc_base.specs.Tables.{tuple_count}
use Rattle.enc_base.specs.Counts.{in_64_bits}
use Rattle.structure_tables.specs.ParameterGroups.{sizes_inside, is_kept}
use Rattle.structure_tables.proofs.CountedGroups.{only}
use Rattle.structure_tables.proofs.group_counts.entries_of_members.Given as goal

abbrev pub invariant-loop-i : goal.invariant-loop-i
invariant-loop-i g l =
    l.tuples
    ≡ in_64_bits (tuple_count (sizes_inside (g.S.TypedSource.structure l.source)
    (is_kept l.groups.uses) (take l.i l.symbol.arguments) l.groups.parameters (only l.group)
    l.members))
