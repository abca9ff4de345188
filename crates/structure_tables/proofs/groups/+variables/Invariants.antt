use Rattle.std.proofs.Common.{◌≡◌, ◌++◌, take}
use Rattle.std.specs.List.{flat_map}
use Rattle.structure_tables.specs.ParameterGroups.{variables}
use Rattle.structure_tables.proofs.groups.+variables.Given as goal

abbrev pub invariant-push_variables_of_types-loop-ty :
    goal.invariant-push_variables_of_types-loop-ty
invariant-push_variables_of_types-loop-ty l =
    l.found ≡ l.initial.found ++ flat_map variables (take l.ty-index l.types)
