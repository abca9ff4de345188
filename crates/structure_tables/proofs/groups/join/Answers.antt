use Rattle.std.proofs.Common.{refl, sym, subst, arith, get_or, ◌+◌}
use Rattle.structure_tables.proofs.Grouping.{IsJoining, joining_more, joining_all}
use Rattle.structure_tables.proofs.groups.join.Goals as goal

pub loop-variable-preserved : goal.loop-variable-preserved
loop-variable-preserved c =
    subst
    (λ groups. IsJoining c.args.groups.now c.args.variables.now groups c.group_of-group.result
    (c.loop-variable.variable-index + 1)) (sym c.replace.ensures)
    (joining_more c.args.groups.now c.args.variables.now c.loop-variable.groups
    c.group_of-group.result c.loop-variable.variable-index
    (get_or c.args.variables.now c.loop-variable.variable-index 0)
    c.loop-variable-test.true refl c.requires.parameters c.loop-variable.invariant)

pub returns : goal.returns
returns c =
    joining_all c.args.groups.now c.args.variables.now c.loop-variable.groups
    c.group_of-group.result c.loop-variable.variable-index (omega (arith, c.loop-variable-test.false))
    c.loop-variable.invariant
