use Rattle.std.proofs.Common.{subst, ◌∙◌}
use Rattle.tf_types.specs.Instances.{AreInstances}
use Rattle.tf_types.proofs.Added.{IfSome-IsInstance}
use Rattle.tf_types.proofs.table.TypeTable.kept_instance.Goals as goal

pub returns : goal.returns
returns c =
    IfSome-IsInstance c.args.self.now c.args.asked c.self.inside.instances.entries
    (subst (λ types. AreInstances types c.self.inside.instances.entries) c.self.view_is
    c.self.invariant.instances)
    c.copied.result (c.copied.ensures ∙ c.get.ensures.value)
