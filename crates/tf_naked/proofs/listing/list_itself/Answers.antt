use Rattle.std.proofs.Common.{[], ◌∷◌, ◌++◌, sym, ap, subst, ◌∙◌}
use Rattle.tf_naked.specs.Calls.Sets.{IsSetOf}
use Rattle.tf_naked.proofs.Sets.{AreMarked-same}
use Rattle.tf_naked.proofs.OnceListed.{among-again, not_false}
use Rattle.tf_naked.proofs.listing.list_itself.Goals as goal

pub returns-in_ok-push-clause-set : goal.returns-in_ok-push-clause-set
returns-in_ok-push-clause-set c =
    subst (IsSetOf c.insert.new.self)
    (sym (c.in_ok-push.ensures.ok
    ∙ ap (λ x. c.args.listing.now.sorts ++ x ∷ []) c.in_ok-copy.ensures))
    (c.in_ok-insert.ensures.added c.args.listing.now.sorts c.requires.set)

pub returns-else-branch-clause-set : goal.returns-else-branch-clause-set
returns-else-branch-clause-set c =
    AreMarked-same c.insert.new.self.table c.insert.new.self.marks.items
    (c.args.listing.now.sorts ++ c.args.ty.now ∷ []) c.args.listing.now.sorts
    (among-again c.args.listing.now.sorts c.args.ty.now
    (not_false _
    (sym (c.in_ok-insert.ensures.fresh c.args.listing.now.sorts c.requires.set)
    ∙ c.if-branch.false)))
    (c.in_ok-insert.ensures.added c.args.listing.now.sorts c.requires.set)
