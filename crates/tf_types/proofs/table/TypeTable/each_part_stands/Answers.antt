use Rattle.std.proofs.Common.{subst}
use Rattle.tf_types.specs.Numbers.{HoldsParts}
use Rattle.tf_types.proofs.Found.{AreNumbered-HoldsParts}
use Rattle.tf_types.proofs.table.TypeTable.each_part_stands.Goals as goal

pub returns : goal.returns
returns c =
    subst HoldsParts c.self.view_is
    (AreNumbered-HoldsParts c.self.inside.nodes.keys _ c.self.invariant.numbered)
