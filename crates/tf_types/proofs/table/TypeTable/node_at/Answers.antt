use Rattle.std.proofs.Common.{sym, subst}
use Rattle.tf_types.proofs.Parts.{IsPassed, IsPassed-nothing, IsPassed-more, denoted-variable, denoted-apply, NamesBelow-apply}
use Rattle.tf_types.proofs.table.TypeTable.node_at.Goals as goal

pub loop-i-init : goal.loop-i-init
loop-i-init c =
    subst (IsPassed c.args.self.now c.args.id c.args.id) (sym c.new-arguments.ensures.items)
    (IsPassed-nothing c.args.self.now c.args.id c.requires)

pub node-requires : goal.node-requires
node-requires c = c.loop-i.invariant.number

pub returns-in-Variable-clause-denoted : goal.returns-in-Variable-clause-denoted
returns-in-Variable-clause-denoted c =
    denoted-variable c.args.self.now c.args.id c.loop-i.at c.loop-i.arguments.items
    c.loop-i.invariant c.node.result c.node.ensures.gives c.node.ensures.formed c.in-Variable.i
    c.in-Variable.is

pub returns-in-Constructor-clause-denoted : goal.returns-in-Constructor-clause-denoted
returns-in-Constructor-clause-denoted c =
    denoted-apply c.args.self.now c.args.id c.loop-i.at c.loop-i.arguments.items
    c.loop-i.invariant c.node.result c.node.ensures.gives c.node.ensures.formed
    c.in-Constructor.c c.reversed.result c.in-Constructor.is c.reversed.ensures

pub returns-in-Constructor-clause-below : goal.returns-in-Constructor-clause-below
returns-in-Constructor-clause-below c =
    NamesBelow-apply c.args.self.now c.args.id c.loop-i.at c.loop-i.arguments.items
    c.loop-i.invariant c.node.result c.node.ensures.gives c.node.ensures.formed
    c.in-Constructor.c c.reversed.result c.reversed.ensures

pub loop-i-preserved : goal.loop-i-preserved
loop-i-preserved c =
    subst (IsPassed c.args.self.now c.args.id c.in-Applied.function)
    (sym c.in_ok-push-in-Applied.ensures.items)
    (IsPassed-more c.args.self.now c.args.id c.loop-i.at c.loop-i.arguments.items
    c.loop-i.invariant c.node.result c.node.ensures.gives c.node.ensures.formed
    c.in-Applied.function c.in-Applied.argument c.in-Applied.is)
