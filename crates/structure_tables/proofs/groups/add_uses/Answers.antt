use Rattle.std.proofs.Common.{refl, get_or, sym, subst, take, ◌+◌, ◌<◌}
use Rattle.std.proofs.Math.ListN.{set}
use Rattle.structure_tables.proofs.ParameterUses.{AreSoFar, uses_none, uses_more}
use Rattle.structure_tables.proofs.groups.add_uses.Goals as goal

pub loop-variable-init : goal.loop-variable-init
loop-variable-init c = uses_none c.args.uses.now c.requires.few

pub loop-variable-preserved : goal.loop-variable-preserved
loop-variable-preserved c =
    let place = get_or c.args.variables.now c.loop-variable.variable-index 0 in
    subst
    (λ uses. AreSoFar c.args.uses.now (take (c.loop-variable.variable-index + 1) c.args.variables.now)
    (set c.loop-variable.uses place uses))
    (sym c.once_more.ensures)
    (uses_more c.args.uses.now c.loop-variable.uses c.args.variables.now
    c.loop-variable.variable-index place c.loop-variable-test.true refl
    (subst (λ n. place < n) (sym c.loop-variable.auto.uses)
    (c.requires.parameters c.loop-variable.variable-index 0 c.loop-variable-test.true))
    c.loop-variable.invariant)
