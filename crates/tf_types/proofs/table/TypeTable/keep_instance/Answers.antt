use Rattle.std.proofs.Common.{sym, subst}
use Rattle.tf_types.specs.Nodes.{types_of}
use Rattle.tf_types.specs.Instances.{IsInstance, AreInstances}
use Rattle.tf_types.proofs.EqualKeys.{eq_asked, same_asked}
use Rattle.tf_types.proofs.Instances.{AreInstances-insert_entry}
use Rattle.tf_types.proofs.table.TypeTable.keep_instance.Goals as goal

pub invariant_of-self-2 : goal.invariant_of-self-2
invariant_of-self-2 c = record {
  numbered = c.self.invariant.numbered;
  instances = subst (AreInstances (types_of c.self.inside.nodes.keys))
      (sym c.in_ok-insert.ensures.entries)
      (AreInstances-insert_entry eq_asked same_asked (types_of c.self.inside.nodes.keys)
      c.args.asked c.args.made c.self.inside.instances.entries c.self.invariant.instances
      (subst (λ types. IsInstance types c.args.asked c.args.made) (sym c.self.view_is) c.requires));
  ground = c.self.invariant.ground;
}
