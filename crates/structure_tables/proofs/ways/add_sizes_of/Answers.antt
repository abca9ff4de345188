use Rattle.std.proofs.Common.{◌<◌, ◌^◌, arith, slice_index}
use Rattle.structure_tables.proofs.CountedWays.{one_size}
use Rattle.structure_tables.proofs.ways.add_sizes_of.Goals as goal

pub returns-in-One : goal.returns-in-One
returns-in-One c =
    let small : slice_index c.args.sizes.now c.in-One.member < 2 ^ 32 =
    omega (arith, c.type_inv.sizes c.in-One.member) in
    one_size c.args.ways.now c.in-One.member c.args.sizes.now c.in-One.is c.requires small
