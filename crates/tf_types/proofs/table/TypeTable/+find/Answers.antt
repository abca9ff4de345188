use Rattle.std.proofs.Common.{◌+◌, subst, arith}
use Rattle.tf_types.specs.Numbers.{Denotes, IsAbsent}
use Rattle.tf_types.proofs.Found.{IsAbsent-begun, IsAbsent-argument, IsFormed-begun, applied-begun}
use Rattle.tf_types.proofs.table.TypeTable.+find.Goals as goal

pub find_applied-returns-in_default : goal.find_applied-returns-in_default
find_applied-returns-in_default t c = record {
  exact = IsAbsent-begun c.args.self.now c.each_part_stands.ensures c.args.constructor
      c.args.types.now 0 (omega arith) c.in_default.ensures.exact;
}

pub find_applied-returns-in_default-find : goal.find_applied-returns-in_default-find
find_applied-returns-in_default-find t c = record {
  exact = IsAbsent-argument c.args.self.now c.each_part_stands.ensures c.args.constructor
      c.args.types.now c.loop-ty.ty-index c.ty-item.result c.loop-ty-test.true c.ty-item.is
      c.in_default-find.ensures.exact;
}

pub find_applied-find_node-requires-in-loop-ty : goal.find_applied-find_node-requires-in-loop-ty
find_applied-find_node-requires-in-loop-ty t c =
    IsFormed-begun c.args.self.now c.each_part_stands.ensures c.args.constructor
    c.args.types.now c.loop-ty.ty-index c.loop-ty.id c.in-Some-find.argument c.ty-item.result
    c.loop-ty.invariant c.in-Some-find.ensures.exact

pub find_applied-returns-in_default-find_node : goal.find_applied-returns-in_default-find_node
find_applied-returns-in_default-find_node t c = record {
  exact = IsAbsent-begun c.args.self.now c.each_part_stands.ensures c.args.constructor
      c.args.types.now (c.loop-ty.ty-index + 1) (omega (arith, c.loop-ty-test.true))
      (subst (IsAbsent c.args.self.now)
      (applied-begun c.args.self.now c.each_part_stands.ensures c.args.constructor
      c.args.types.now c.loop-ty.ty-index c.loop-ty.id c.in-Some-find.argument c.ty-item.result
      c.loop-ty.invariant c.in-Some-find.ensures.exact c.loop-ty-test.true c.ty-item.is)
      c.in_default-find_node.ensures.exact);
}

pub find_applied-loop-ty-preserved : goal.find_applied-loop-ty-preserved
find_applied-loop-ty-preserved t c =
    subst (Denotes c.args.self.now c.in-Some-find_node.more)
    (applied-begun c.args.self.now c.each_part_stands.ensures c.args.constructor
    c.args.types.now c.loop-ty.ty-index c.loop-ty.id c.in-Some-find.argument c.ty-item.result
    c.loop-ty.invariant c.in-Some-find.ensures.exact c.loop-ty-test.true c.ty-item.is)
    c.in-Some-find_node.ensures.exact
