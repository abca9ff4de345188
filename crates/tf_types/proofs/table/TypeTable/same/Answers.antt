use Rattle.tf_types.proofs.Nodes.{same_numbers-same_types}
use Rattle.tf_types.proofs.table.TypeTable.same.Goals as goal

pub returns : goal.returns
returns c =
    same_numbers-same_types c.args.self.now c.each_type_stands_once.ensures c.args.a c.args.b
    c.requires.left c.requires.right c.eq.result c.eq.ensures
