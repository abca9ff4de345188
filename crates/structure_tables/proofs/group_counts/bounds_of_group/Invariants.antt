use Rattle.std.proofs.Common.{◌≡◌}
use Rattle.structure_tables.specs.ParameterSets.{bounds_of}
use Rattle.structure_tables.specs.ParameterGroups.{is_kept, kept_inside}
use Rattle.structure_tables.proofs.CountedGroups.{only}
use Rattle.structure_tables.proofs.group_counts.bounds_of_group.Given as goal

abbrev pub invariant-loop-i : goal.invariant-loop-i
invariant-loop-i l =
    l.bounds
    ≡ bounds_of l.members
    (kept_inside (is_kept l.groups.uses) l.groups.parameters (only l.group)) l.i
