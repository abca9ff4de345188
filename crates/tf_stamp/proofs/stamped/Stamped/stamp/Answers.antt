use Rattle.std.proofs.Common.{subst, arith}
use Rattle.tf_stamp.specs.Kept.{IsKept}
use Rattle.tf_stamp.proofs.Kept.{kept_stamp}
use Rattle.tf_stamp.proofs.stamped.Stamped.stamp.Goals as goal

pub overflow_add-result : goal.overflow_add-result
overflow_add-result c =
    let kept = subst (λ sizes. IsKept sizes c.self.inside.starts c.self.inside.members)
    c.self.view_is c.self.invariant in
    rw c.as_slice.ensures
    (omega (
      arith,
      kept_stamp c.args.self.now c.self.inside.starts c.self.inside.members c.args.member
          c.args.element kept c.requires.member c.requires.element,
      kept.within,
    ))

pub returns-clause-within : goal.returns-clause-within
returns-clause-within c =
    let kept = subst (λ sizes. IsKept sizes c.self.inside.starts c.self.inside.members)
    c.self.view_is c.self.invariant in
    rw c.as_slice.ensures
    (kept_stamp c.args.self.now c.self.inside.starts c.self.inside.members c.args.member
    c.args.element kept c.requires.member c.requires.element)
