use Rattle.std.proofs.Common.{◌≡◌}
use Rattle.structure_tables.specs.ParameterSets.{bounds_of}
use Rattle.structure_tables.specs.ParameterGroups.{is_unused}
use Rattle.structure_tables.proofs.group_counts.bounds_of_unused.Given as goal

abbrev pub invariant-loop-count : goal.invariant-loop-count
invariant-loop-count l = l.bounds ≡ bounds_of l.members (is_unused l.uses) l.count-index
