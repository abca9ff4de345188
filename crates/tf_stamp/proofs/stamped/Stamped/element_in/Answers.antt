use Rattle.std.proofs.Common.{subst}
use Rattle.tf_stamp.specs.Kept.{IsKept}
use Rattle.tf_stamp.proofs.Kept.{kept_element}
use Rattle.tf_stamp.proofs.stamped.Stamped.element_in.Goals as goal

pub overflow_sub-result : goal.overflow_sub-result
overflow_sub-result c =
    let kept = subst (λ sizes. IsKept sizes c.self.inside.starts c.self.inside.members)
    c.self.view_is c.self.invariant in
    let past = rw c.as_slice-starts.ensures at c.if-v-starts.false in
    let read = rw c.as_slice.ensures at c.if-as_slice-v.false in
    let element = kept_element c.args.self.now c.self.inside.starts c.self.inside.members c.args.v
    c.args.member kept c.requires.number past read in
    rw c.as_slice-starts.ensures element.within

pub returns : goal.returns
returns c =
    let kept = subst (λ sizes. IsKept sizes c.self.inside.starts c.self.inside.members)
    c.self.view_is c.self.invariant in
    let past = rw c.as_slice-starts.ensures at c.if-v-starts.false in
    let read = rw c.as_slice.ensures at c.if-as_slice-v.false in
    let element = kept_element c.args.self.now c.self.inside.starts c.self.inside.members c.args.v
    c.args.member kept c.requires.number past read in
    record { exact = rw c.as_slice-starts.ensures element.is }
