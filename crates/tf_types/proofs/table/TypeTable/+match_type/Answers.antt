use Rattle.tf_types.proofs.Matches.{Narrows-nothing_left, Narrows-not_applied, Narrows-other_argument, IsLeft-less}
use Rattle.tf_types.proofs.table.TypeTable.+match_type.Goals as goal

pub match_applied-returns-then-not-match_type-clause-exact :
    goal.match_applied-returns-then-not-match_type-clause-exact
match_applied-returns-then-not-match_type-clause-exact t c =
    Narrows-other_argument c.args.self.now c.args.constructor c.args.patterns.now c.args.id
    c.args.bound.now c.loop-left.left c.loop-left.at c.loop-left.bound c.loop-left.invariant
    c.loop-left-test.true c.index-patterns-left.result c.index-patterns-left.is
    c.in-Applied.function c.in-Applied.argument c.node.result c.in-Applied.is
    c.node.ensures.gives c.node.ensures.formed c.match_type.new.bound c.match_type.result
    c.if-not-match_type.true c.match_type.ensures.exact

pub match_applied-loop-left-preserved : goal.match_applied-loop-left-preserved
match_applied-loop-left-preserved t c =
    IsLeft-less c.args.self.now c.args.constructor c.args.patterns.now c.args.id
    c.args.bound.now c.loop-left.left c.loop-left.at c.loop-left.bound c.loop-left.invariant
    c.loop-left-test.true c.index-patterns-left.result c.index-patterns-left.is
    c.in-Applied.function c.in-Applied.argument c.node.result c.in-Applied.is
    c.node.ensures.gives c.node.ensures.formed c.match_type.new.bound c.match_type.result
    c.if-not-match_type.false c.match_type.ensures.numbers c.match_type.ensures.exact

pub match_applied-returns-in_default : goal.match_applied-returns-in_default
match_applied-returns-in_default t c = record {
  exact = Narrows-not_applied c.args.self.now c.args.constructor c.args.patterns.now c.args.id
      c.args.bound.now c.loop-left.left c.loop-left.at c.loop-left.bound c.loop-left.invariant
      c.loop-left-test.true c.node.result c.node.ensures.gives c.in_default.not-Applied;
  numbers = c.loop-left.invariant.bound;
}

pub match_applied-returns-clause-exact : goal.match_applied-returns-clause-exact
match_applied-returns-clause-exact t c =
    Narrows-nothing_left c.args.self.now c.args.constructor c.args.patterns.now c.args.id
    c.args.bound.now c.loop-left.left c.loop-left.at c.loop-left.bound c.loop-left.invariant
    c.loop-left-test.false c.is_node.result c.is_node.ensures
