use Rattle.std.proofs.Common.{◌<◌, length, sym, subst}
use Rattle.tf_stamp.specs.Kept.{IsKept}
use Rattle.tf_stamp.proofs.Merged.{member_in-within}
use Rattle.tf_stamp.proofs.stamped.Stamped.member_of.Goals as goal

pub returns-clause-within : goal.returns-clause-within
returns-clause-within c =
    let kept = subst (λ sizes. IsKept sizes c.self.inside.starts c.self.inside.members)
    c.self.view_is c.self.invariant in
    rw c.as_slice.ensures
    (subst (λ n. n < length c.args.self.now) (sym (kept.member c.args.v c.requires.number))
    (member_in-within c.args.self.now c.args.v c.requires.number))
