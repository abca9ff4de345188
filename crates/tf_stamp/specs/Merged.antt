-- The merged domain of a typed structure: the numbers of its members, and behind them a number for
-- each pair of a member and an element of it, the stamp. The pairs stand in the order of members.
use Rattle.std.specs.Prelude.{ℕ, zero, suc, ◌+◌, ◌-◌, ◌<◌, ◌≤◌, ◌≡◌, Bool, true, false, List, [], ◌∷◌, length, cond, eqb, ltb, slice_index}

-- the number of pairs of the members before a member
abbrev pub pairs_before : List ℕ → ℕ → ℕ
pairs_before [] m = 0
pairs_before (size ∷ sizes) zero = 0
pairs_before (size ∷ sizes) (suc m) = size + pairs_before sizes m

-- the member and the element of the v-th pair

abbrev pub pair_member : List ℕ → ℕ → ℕ
pair_member [] v = 0
pair_member (size ∷ sizes) v = cond (ltb v size) 0 (pair_member sizes (v - size) + 1)

abbrev pub pair_element : List ℕ → ℕ → ℕ
pair_element [] v = 0
pair_element (size ∷ sizes) v = cond (ltb v size) v (pair_element sizes (v - size))

-- how many pairs there are
abbrev pub pair_count : List ℕ → ℕ
pair_count [] = 0
pair_count (size ∷ sizes) = size + pair_count sizes

-- how many numbers the merged domain has
abbrev pub merged_size : List ℕ → ℕ
merged_size sizes = length sizes + pair_count sizes

-- the number of an element of a member
abbrev pub stamp : List ℕ → ℕ → ℕ → ℕ
stamp sizes m e = length sizes + (pairs_before sizes m + e)

-- whether a number is a stamp, and none of a member itself
abbrev pub is_stamp : List ℕ → ℕ → Bool
is_stamp sizes v = cond (ltb v (length sizes)) false true

-- the member that a number is, or whose element it stands for
abbrev pub member_in : List ℕ → ℕ → ℕ
member_in sizes v = cond (ltb v (length sizes)) v (pair_member sizes (v - length sizes))

-- The element of a member that a number is read as: the stamp's own, and 0 of any other number.
abbrev pub element_in : List ℕ → ℕ → ℕ → ℕ
element_in sizes v m =
    cond (ltb v (length sizes)) 0
    (cond (eqb (pair_member sizes (v - length sizes)) m) (pair_element sizes (v - length sizes)) 0)

-- A stamp is read as the member and the element that it was made of, and a member as itself. Each
-- number behind the members is the stamp of the member and the element that it is read as.
pub record StampsAreRead : Type 0 where
  pub member : (sizes : List ℕ) (m e : ℕ) → m < length sizes → e < slice_index sizes m →
      member_in sizes (stamp sizes m e) ≡ m
  pub element : (sizes : List ℕ) (m e : ℕ) → m < length sizes → e < slice_index sizes m →
      element_in sizes (stamp sizes m e) m ≡ e
  pub itself : (sizes : List ℕ) (m : ℕ) → m < length sizes → member_in sizes m ≡ m
  pub member_within : (sizes : List ℕ) (v : ℕ) → length sizes ≤ v → v < merged_size sizes →
      member_in sizes v < length sizes
  pub element_within : (sizes : List ℕ) (v : ℕ) → length sizes ≤ v → v < merged_size sizes →
      element_in sizes v (member_in sizes v) < slice_index sizes (member_in sizes v)
  pub stamped : (sizes : List ℕ) (v : ℕ) → length sizes ≤ v → v < merged_size sizes →
      stamp sizes (member_in sizes v) (element_in sizes v (member_in sizes v)) ≡ v
