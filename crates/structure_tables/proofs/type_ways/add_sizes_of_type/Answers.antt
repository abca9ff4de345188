use Rattle.std.proofs.Common.{◌∙◌}
use Rattle.structure_tables.specs.ParameterGroups.{is_kept}
use Rattle.structure_tables.proofs.TypeWays.{sizes_counted}
use Rattle.structure_tables.proofs.type_ways.add_sizes_of_type.Goals as goal

pub returns : goal.returns
returns g c =
    c.add_sizes_of-entries.ensures
    ∙ sizes_counted (g.S.TypedSource.structure c.args.source.now) (is_kept c.args.uses.now)
    c.args.members.now c.args.ty.now c.in_ok-ways.ways c.args.sizes.now c.requires.sized.same
    c.in_ok-ways.ensures
