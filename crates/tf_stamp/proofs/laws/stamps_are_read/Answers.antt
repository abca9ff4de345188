use Rattle.std.proofs.Common.{arith}
use Rattle.tf_stamp.proofs.Merged.{member_in-stamp, element_in-stamp, member_in-member, member_in-within, stamp-parts}
use Rattle.tf_stamp.proofs.laws.stamps_are_read.Goals as goal

pub returns : goal.returns
returns _ = record {
  member = member_in-stamp;
  element = element_in-stamp;
  itself = member_in-member;
  member_within = λ sizes v past below. member_in-within sizes v below;
  element_within = λ sizes v past below. let parts = stamp-parts sizes v past below in parts.below;
  stamped = λ sizes v past below.
      let parts = stamp-parts sizes v past below in omega (arith, parts.is, past);
}
