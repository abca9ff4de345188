use Rattle.std.proofs.Common.{map, take}
use Rattle.structure_tables.specs.CountedWays.{AreWays}
use Rattle.structure_tables.specs.ParameterGroups.{is_kept}
use Rattle.structure_tables.specs.TypeWays.{type_ways}
use Rattle.structure_tables.proofs.type_ways.+ways_of.Given as goal

abbrev pub invariant-ways_of_types-loop-ty : goal.invariant-ways_of_types-loop-ty
invariant-ways_of_types-loop-ty g l =
    AreWays l.count l.parts
    (map (type_ways (g.S.TypedSource.structure l.source) (is_kept l.uses) l.members)
    (take l.ty-index l.types))
