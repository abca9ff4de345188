use Rattle.std.proofs.Common.{◌≡◌}
use Rattle.enc_base.specs.Tables.{tuple_count}
use Rattle.std.proofs.Common.{◌*◌}
use Rattle.enc_base.specs.Counts.{in_64_bits}
use Rattle.tf_core.specs.Structures.{member_count}
use Rattle.structure_tables.specs.ParameterSets.{bounds_of}
use Rattle.structure_tables.specs.ParameterGroups.{count_inside, is_kept, is_unused}
use Rattle.structure_tables.proofs.CountedGroups.{done}
use Rattle.structure_tables.proofs.group_counts.entries_of_groups.Given as goal

abbrev pub invariant-loop-group : goal.invariant-loop-group
invariant-loop-group g l =
    l.entries
    ≡ in_64_bits (tuple_count (bounds_of (member_count (g.S.TypedSource.structure l.source))
    (is_unused l.groups.uses) l.symbol.parameters)
    * count_inside (g.S.TypedSource.structure l.source) (is_kept l.groups.uses) l.symbol
    l.groups.parameters (done l.symbol.parameters l.group))
