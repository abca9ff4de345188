use Rattle.std.proofs.Common.{◌≡◌, map, take}
use Rattle.structure_tables.specs.ParameterGroups.{group_of_type}
use Rattle.structure_tables.proofs.groups.groups_of_types.Given as goal

abbrev pub invariant-loop-ty : goal.invariant-loop-ty
invariant-loop-ty l = l.found ≡ map (group_of_type l.groups) (take l.ty-index l.types)
