use Rattle.std.proofs.Common.{sym, subst, ◌∙◌}
use Rattle.std.specs.Prelude.{◌≡◌, slice_get, Some}
use Rattle.tf_types.specs.Nodes.{IsFormed, given}
use Rattle.tf_types.specs.Numbers.{IsAbsent}
use Rattle.tf_types.proofs.Found.{node_found, node_absent}
use Rattle.tf_types.proofs.table.TypeTable.find_node.Goals as goal

pub returns-in-Some : goal.returns-in-Some
returns-in-Some c = record {
  exact = subst
      (λ types. slice_get types c.in-Some.index ≡ Some (given types c.args.node)) c.self.view_is
      (node_found c.self.inside.nodes.keys _ c.args.node c.self.invariant.numbered
      (subst (λ types. IsFormed types c.args.node) (sym c.self.view_is) c.requires)
      c.in-Some.index (sym c.in-Some.is ∙ c.get_index_of.ensures.index));
}

pub returns-in-None : goal.returns-in-None
returns-in-None c = record {
  exact = subst (λ types. IsAbsent types (given types c.args.node)) c.self.view_is
      (node_absent c.self.inside.nodes.keys _ c.args.node c.self.invariant.numbered
      (subst (λ types. IsFormed types c.args.node) (sym c.self.view_is) c.requires)
      (sym c.in-None.ensures.found));
}
