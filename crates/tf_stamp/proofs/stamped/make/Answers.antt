use Rattle.std.proofs.Common.{◌≡◌, length, ap, subst, sym, arith}
use Rattle.tf_stamp.specs.Kept.{IsKept}
use Rattle.tf_stamp.proofs.Filling.{IsFilled, filled_first, filled_more, filled_sizes, filled_kept, pairs_before-most}
use Rattle.tf_stamp.proofs.stamped.make.Goals as goal

pub loop-member-init : goal.loop-member-init
loop-member-init c =
    rw (c.new-starts.ensures, c.in_ok-members.ensures) (filled_first c.args.sizes.now)

pub overflow_cast-as_slice : goal.overflow_cast-as_slice
overflow_cast-as_slice c =
    omega (
      arith,
      ap length c.as_slice.ensures,
      c.loop-member.invariant.count,
      pairs_before-most c.args.sizes.now c.loop-member.member,
      c.requires.few,
    )

pub loop-member-preserved : goal.loop-member-preserved
loop-member-preserved c =
    rw (c.in_ok-push.ensures.ok, c.in_ok-push_times.ensures, c.as_slice.ensures)
    (filled_more c.args.sizes.now c.loop-member.starts c.loop-member.members c.loop-member.member
    c.loop-member-test.true c.loop-member.invariant)

pub invariant_of-result : goal.invariant_of-result
invariant_of-result c =
    let whole : c.loop-member.member ≡ length c.args.sizes.now =
    omega (arith, c.loop-member-test.false, c.loop-member.auto.member-end) in
    let filled = subst (IsFilled c.args.sizes.now c.loop-member.starts c.loop-member.members) whole
    c.loop-member.invariant in
    subst (λ sizes. IsKept sizes c.loop-member.starts c.loop-member.members)
    (sym (filled_sizes c.args.sizes.now c.loop-member.starts c.loop-member.members filled))
    (filled_kept c.args.sizes.now c.loop-member.starts c.loop-member.members filled c.requires.few)

pub returns : goal.returns
returns c =
    let whole : c.loop-member.member ≡ length c.args.sizes.now =
    omega (arith, c.loop-member-test.false, c.loop-member.auto.member-end) in
    filled_sizes c.args.sizes.now c.loop-member.starts c.loop-member.members
    (subst (IsFilled c.args.sizes.now c.loop-member.starts c.loop-member.members) whole
    c.loop-member.invariant)
