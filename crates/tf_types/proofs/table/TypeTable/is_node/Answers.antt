use Rattle.tf_types.proofs.Matches.{node-is}
use Rattle.tf_types.proofs.table.TypeTable.is_node.Goals as goal

pub returns : goal.returns
returns c =
    node-is c.args.self.now c.each_type_stands_once.ensures c.args.id c.node.result c.args.node
    c.requires.number c.node.ensures.formed c.requires.formed c.node.ensures.gives
    c.eq.result c.eq.ensures
