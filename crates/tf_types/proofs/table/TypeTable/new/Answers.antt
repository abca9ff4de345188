use Rattle.std.proofs.Common.{sym, ap, subst, ◌∙◌}
use Rattle.tf_types.specs.Nodes.{types_of, AreNumbered}
use Rattle.tf_types.specs.Instances.{AreInstances, AreGround}
use Rattle.tf_types.proofs.Ground.{AreGround-nothing}
use Rattle.tf_types.proofs.Nodes.{AreNumbered-nothing, types_of-nothing}
use Rattle.tf_types.proofs.table.TypeTable.new.Goals as goal

pub invariant_of-result : goal.invariant_of-result
invariant_of-result c = record {
  numbered = subst (λ nodes. AreNumbered nodes (types_of nodes)) (sym c.new.ensures.empty)
      AreNumbered-nothing;
  instances = subst (AreInstances (types_of c.new.result.keys)) (sym c.new-2.ensures.empty) tt;
  ground = subst (AreGround (types_of c.new.result.keys)) (sym c.new-3.ensures.items)
      (AreGround-nothing (types_of c.new.result.keys));
}

pub returns-clause-empty : goal.returns-clause-empty
returns-clause-empty c = ap types_of c.new.ensures.empty ∙ types_of-nothing

pub returns-clause-one_to_one : goal.returns-clause-one_to_one
returns-clause-one_to_one c =
    let numbered : AreNumbered c.new.result.keys (types_of c.new.result.keys) =
    subst (λ nodes. AreNumbered nodes (types_of nodes)) (sym c.new.ensures.empty)
    AreNumbered-nothing in
    numbered.one_to_one
