use Rattle.std.proofs.Common.{sym, subst}
use Rattle.tf_types.specs.Nodes.{given}
use Rattle.tf_types.specs.Instances.{IsGround}
use Rattle.tf_types.proofs.Ground.{IsGround-constructor, IsGround-given}
use Rattle.tf_types.proofs.table.TypeTable.gives_ground.Goals as goal

pub returns-in-Constructor : goal.returns-in-Constructor
returns-in-Constructor c holds =
    subst (λ node. IsGround (given c.args.self.now node)) (sym c.in-Constructor.is)
    (IsGround-constructor c.in-Constructor.field-0)

pub returns-then-is_ground : goal.returns-then-is_ground
returns-then-is_ground c holds =
    IsGround-given c.args.self.now c.args.node c.in-Applied.function c.in-Applied.argument
    c.in-Applied.is c.requires (c.is_ground.ensures c.if-is_ground.true)
    (c.is_ground-then-is_ground.ensures holds)
