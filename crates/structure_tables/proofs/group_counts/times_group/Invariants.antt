use Rattle.std.proofs.Common.{◌≡◌, ◌-◌}
use Rattle.enc_base.specs.Tables.{EachBelow, tuple_count, place, begins}
use Rattle.enc_base.specs.Counts.{in_64_bits}
use Rattle.tf_core.specs.Structures.{member_count}
use Rattle.structure_tables.specs.ParameterSets.{bounds_of}
use Rattle.structure_tables.specs.ParameterGroups.{sizes_inside, is_kept, kept_inside}
use Rattle.structure_tables.proofs.CountedGroups.{only}
use Rattle.structure_tables.proofs.group_counts.times_group.Given as goal

abbrev pub invariant-loop-members : goal.invariant-loop-members
invariant-loop-members g l = record {
  below : EachBelow
      (bounds_of (member_count (g.S.TypedSource.structure l.source))
      (kept_inside (is_kept l.groups.uses) l.groups.parameters (only l.group)) l.symbol.parameters)
      l.members.items;
  so_far : l.entries
      ≡ in_64_bits (begins
      (bounds_of (member_count (g.S.TypedSource.structure l.source))
      (kept_inside (is_kept l.groups.uses) l.groups.parameters (only l.group)) l.symbol.parameters)
      (λ members. tuple_count (sizes_inside (g.S.TypedSource.structure l.source)
      (is_kept l.groups.uses) l.symbol.arguments l.groups.parameters (only l.group) members))
      l.members.items);
}

abbrev pub decreases-loop-members : goal.decreases-loop-members
decreases-loop-members g l =
    tuple_count
    (bounds_of (member_count (g.S.TypedSource.structure l.source))
    (kept_inside (is_kept l.groups.uses) l.groups.parameters (only l.group)) l.symbol.parameters)
    - place
    (bounds_of (member_count (g.S.TypedSource.structure l.source))
    (kept_inside (is_kept l.groups.uses) l.groups.parameters (only l.group)) l.symbol.parameters)
    l.members.items
