-- The merged domain: what its numbers are read as.
use Rattle.std.specs.Prelude.{ℕ, zero, suc, ◌+◌, ◌-◌, ◌<◌, ◌≤◌, ◌≡◌, List, [], ◌∷◌, length, cond, eqb, ltb, slice_index}
use Rattle.std.proofs.Common.{sym, ap, ◌∙◌, subst, arith, ⊎_elim}
use Rattle.std.proofs.lemmas.Bool.{cond-true, cond-false, cases_lt, eq-eqb, lt-ltb, le-ltb}
use Rattle.tf_stamp.specs.Merged.{pairs_before, pair_member, pair_element, pair_count, merged_size, stamp, member_in, element_in}

pair_member-stamp : (sizes : List ℕ) (m e : ℕ) → m < length sizes → e < slice_index sizes m →
    pair_member sizes (pairs_before sizes m + e) ≡ m
pair_member-stamp [] m e within below = absurd (omega arith)
pair_member-stamp (size ∷ sizes) zero e within below =
    cond-true (ltb (0 + e) size) 0 _ (lt-ltb (0 + e) size (omega arith))
pair_member-stamp (size ∷ sizes) (suc m) e within below =
    let place : ℕ = pairs_before sizes m + e in
    let a : size + pairs_before sizes m + e - size ≡ pairs_before sizes m + e = omega arith in
    cond-false (ltb (size + pairs_before sizes m + e) size) 0 _
    (le-ltb (size + pairs_before sizes m + e) size (omega arith))
    ∙ ap (λ x. pair_member sizes x + 1) a
    ∙ ap (λ x. x + 1) (pair_member-stamp sizes m e (omega arith) below) ∙ omega arith

pair_element-stamp : (sizes : List ℕ) (m e : ℕ) → m < length sizes → e < slice_index sizes m →
    pair_element sizes (pairs_before sizes m + e) ≡ e
pair_element-stamp [] m e within below = absurd (omega arith)
pair_element-stamp (size ∷ sizes) zero e within below =
    cond-true (ltb (0 + e) size) (0 + e) _ (lt-ltb (0 + e) size (omega arith)) ∙ omega arith
pair_element-stamp (size ∷ sizes) (suc m) e within below =
    let a : size + pairs_before sizes m + e - size ≡ pairs_before sizes m + e = omega arith in
    cond-false (ltb (size + pairs_before sizes m + e) size) (size + pairs_before sizes m + e) _
    (le-ltb (size + pairs_before sizes m + e) size (omega arith))
    ∙ ap (pair_element sizes) a ∙ pair_element-stamp sizes m e (omega arith) below

pub stamp_within : (sizes : List ℕ) (m e : ℕ) → m < length sizes → e < slice_index sizes m →
    pairs_before sizes m + e < pair_count sizes
stamp_within [] m e within below = absurd (omega arith)
stamp_within (size ∷ sizes) zero e within below = omega arith
stamp_within (size ∷ sizes) (suc m) e within below =
    omega (arith, stamp_within sizes m e (omega arith) below)

-- each pair is the stamp of its parts, which are in range
pub record IsPair (sizes : List ℕ) (v m e : ℕ) : Type 0 where
  pub within : m < length sizes
  pub below : e < slice_index sizes m
  pub is : pairs_before sizes m + e ≡ v

pair_parts : (sizes : List ℕ) (v : ℕ) → v < pair_count sizes →
    IsPair sizes v (pair_member sizes v) (pair_element sizes v)
pair_parts [] v below = absurd (omega arith)
pair_parts (size ∷ sizes) v below =
    ⊎_elim
    (λ lt. let t = lt-ltb v size lt in
    let m : 0 ≡ pair_member (size ∷ sizes) v =
    sym (cond-true (ltb v size) 0 (pair_member sizes (v - size) + 1) t) in
    let e : v ≡ pair_element (size ∷ sizes) v =
    sym (cond-true (ltb v size) v (pair_element sizes (v - size)) t) in
    subst (λ y. IsPair (size ∷ sizes) v (pair_member (size ∷ sizes) v) y) e
    (subst (λ x. IsPair (size ∷ sizes) v x v) m
    (record { within = omega arith; below = lt; is = omega arith })))
    (λ ge. let t = le-ltb v size ge in
    let r = pair_parts sizes (v - size) (omega arith) in
    let m : suc (pair_member sizes (v - size)) ≡ pair_member (size ∷ sizes) v =
    omega arith ∙ sym (cond-false (ltb v size) 0 (pair_member sizes (v - size) + 1) t) in
    let e : pair_element sizes (v - size) ≡ pair_element (size ∷ sizes) v =
    sym (cond-false (ltb v size) v (pair_element sizes (v - size)) t) in
    subst (λ y. IsPair (size ∷ sizes) v (pair_member (size ∷ sizes) v) y) e
    (subst (λ x. IsPair (size ∷ sizes) v x (pair_element sizes (v - size))) m
    (record { within = omega (arith, r.within); below = r.below; is = omega (arith, r.is) })))
    (cases_lt v size)

pub member_in-stamp : (sizes : List ℕ) (m e : ℕ) → m < length sizes → e < slice_index sizes m →
    member_in sizes (stamp sizes m e) ≡ m
member_in-stamp sizes m e within below =
    let a : stamp sizes m e - length sizes ≡ pairs_before sizes m + e = omega arith in
    cond-false (ltb (stamp sizes m e) (length sizes)) (stamp sizes m e) _
    (le-ltb (stamp sizes m e) (length sizes) (omega arith))
    ∙ ap (pair_member sizes) a ∙ pair_member-stamp sizes m e within below

pub element_in-stamp : (sizes : List ℕ) (m e : ℕ) → m < length sizes → e < slice_index sizes m →
    element_in sizes (stamp sizes m e) m ≡ e
element_in-stamp sizes m e within below =
    let a : stamp sizes m e - length sizes ≡ pairs_before sizes m + e = omega arith in
    cond-false (ltb (stamp sizes m e) (length sizes)) 0 _
    (le-ltb (stamp sizes m e) (length sizes) (omega arith))
    ∙ cond-true (eqb (pair_member sizes (stamp sizes m e - length sizes)) m) _ 0
    (eq-eqb _ m (ap (pair_member sizes) a ∙ pair_member-stamp sizes m e within below))
    ∙ ap (pair_element sizes) a ∙ pair_element-stamp sizes m e within below

pub stamp-parts : (sizes : List ℕ) (v : ℕ) → length sizes ≤ v → v < merged_size sizes →
    IsPair sizes (v - length sizes) (member_in sizes v) (element_in sizes v (member_in sizes v))
stamp-parts sizes v past below =
    let t = le-ltb v (length sizes) past in
    let m : pair_member sizes (v - length sizes) ≡ member_in sizes v =
    sym (cond-false (ltb v (length sizes)) v (pair_member sizes (v - length sizes)) t) in
    let e : pair_element sizes (v - length sizes) ≡ element_in sizes v (member_in sizes v) =
    sym (cond-false (ltb v (length sizes)) 0
    (cond (eqb (pair_member sizes (v - length sizes)) (member_in sizes v))
    (pair_element sizes (v - length sizes)) 0) t
    ∙ cond-true (eqb (pair_member sizes (v - length sizes)) (member_in sizes v)) _ 0
    (eq-eqb _ (member_in sizes v) m)) in
    subst (λ y. IsPair sizes (v - length sizes) (member_in sizes v) y) e
    (subst (λ x. IsPair sizes (v - length sizes) x (pair_element sizes (v - length sizes))) m
    (pair_parts sizes (v - length sizes) (omega arith)))

-- a member is read as itself
pub member_in-member : (sizes : List ℕ) (m : ℕ) → m < length sizes → member_in sizes m ≡ m
member_in-member sizes m within = cond-true (ltb m (length sizes)) m _
    (lt-ltb m (length sizes) within)

-- every number of the domain is read as a member
pub member_in-within : (sizes : List ℕ) (v : ℕ) → v < merged_size sizes →
    member_in sizes v < length sizes
member_in-within sizes v below =
    ⊎_elim (λ l. subst (λ x. x < length sizes) (sym (member_in-member sizes v l)) l)
    (λ l. let parts = stamp-parts sizes v l below in parts.within) (cases_lt v (length sizes))
