use Rattle.std.proofs.Common.{ap, sym, ◌∙◌, ◌+◌}
use Rattle.tf_core.specs.declared.ty.Ty.TheVariants as type
use Rattle.tf_nnf.proofs.FreshTypes.{instantiate-fresh, instantiate-kept}
use Rattle.tf_nnf.proofs.instance.variable.Goals as goal

pub returns-then-i-fresh : goal.returns-then-i-fresh
returns-then-i-fresh c =
    ap (type.Apply (c.args.fresh.first + c.args.i)) c.new.ensures
    ∙ sym (instantiate-fresh c.args.fresh.first c.args.fresh.count c.args.i c.if-i-fresh.true)

pub returns-else-i-fresh : goal.returns-else-i-fresh
returns-else-i-fresh c =
    sym (instantiate-kept c.args.fresh.first c.args.fresh.count c.args.i c.if-i-fresh.false)
