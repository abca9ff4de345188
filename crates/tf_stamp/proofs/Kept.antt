-- What is read off a merged domain that is kept.
use Rattle.std.specs.Prelude.{ℕ, ◌+◌, ◌-◌, ◌<◌, ◌≤◌, ◌≡◌, List, length, get_or, slice_index}
use Rattle.std.proofs.Common.{sym, ◌∙◌, subst, arith}
use Rattle.tf_stamp.specs.Merged.{merged_size, stamp, member_in, element_in}
use Rattle.tf_stamp.specs.Kept.{IsKept}
use Rattle.tf_stamp.proofs.Merged.{IsPair, stamp_within, stamp-parts}

-- a stamp's element is its distance from where its member's stamps begin
pub record IsElement (sizes starts : List ℕ) (v m : ℕ) : Type 0 where
  pub within : get_or starts m 0 ≤ v
  pub is : v - get_or starts m 0 ≡ element_in sizes v m

pub kept_element : (sizes starts members : List ℕ) (v m : ℕ) → IsKept sizes starts members →
    v < merged_size sizes → length starts ≤ v → get_or members v 0 ≡ m → IsElement sizes starts v m
kept_element sizes starts members v m kept below past read =
    let is : member_in sizes v ≡ m = sym (kept.member v below) ∙ read in
    let parts : IsPair sizes (v - length sizes) m (element_in sizes v m) =
    subst (λ n. IsPair sizes (v - length sizes) n (element_in sizes v n)) is
    (stamp-parts sizes v (omega (arith, past, kept.start_count)) below) in
    let start : get_or starts m 0 ≡ stamp sizes m 0 = kept.start m parts.within in
    record {
      within = omega (arith, start, parts.is, past, kept.start_count);
      is = omega (arith, start, parts.is, past, kept.start_count);
    }

-- the number that is made of a member and an element is in the domain
pub kept_stamp : (sizes starts members : List ℕ) (m e : ℕ) → IsKept sizes starts members →
    m < length sizes → e < slice_index sizes m → get_or starts m 0 + e < merged_size sizes
kept_stamp sizes starts members m e kept within below =
    omega (arith, kept.start m within, stamp_within sizes m e within below)
