use Rattle.std.proofs.Common.{◌≡◌, map, take}
use Rattle.tf_core.specs.Structures.{size_of, member_of}
use Rattle.structure_tables.proofs.blocks.sizes_of_arguments.Given as goal

abbrev pub invariant-loop-ty : goal.invariant-loop-ty
invariant-loop-ty g l =
    l.bounds
    ≡ map (λ ty. size_of (g.S.TypedSource.structure l.source)
    (member_of (g.S.TypedSource.structure l.source) l.members ty))
    (take l.ty-index l.symbol.arguments)
