use Rattle.std.proofs.Common.{sym, ap, subst}
use Rattle.tf_naked.specs.Calls.Sets.{Adds}
use Rattle.tf_naked.specs.Calls.NakedTypes.{type_at_side}
use Rattle.tf_naked.proofs.free.mark_side.Goals as goal

pub returns-in_ok-insert-in-Some : goal.returns-in_ok-insert-in-Some
returns-in_ok-insert-in-Some c =
    subst (Adds c.args.set.now c.insert.new.self)
    (sym (ap (λ side. type_at_side side c.args.ty.now) c.in-Some.is))
    c.in_ok-insert-in-Some.ensures.added
