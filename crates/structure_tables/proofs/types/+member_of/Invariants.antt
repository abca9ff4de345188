use Rattle.std.proofs.Common.{◌≡◌, map, take}
use Rattle.tf_core.specs.Structures.{member_of}
use Rattle.structure_tables.proofs.types.+member_of.Given as goal

abbrev pub invariant-members_of_types-loop-ty : goal.invariant-members_of_types-loop-ty
invariant-members_of_types-loop-ty g l =
    l.found ≡ map (member_of (g.S.TypedSource.structure l.source) l.members) (take l.ty-index l.types)
