use Rattle.std.proofs.Common.{subst}
use Rattle.tf_types.specs.Numbers.{IsOneToOne}
use Rattle.tf_types.proofs.table.TypeTable.each_type_stands_once.Goals as goal

pub returns : goal.returns
returns c = subst IsOneToOne c.self.view_is c.self.invariant.numbered.one_to_one
