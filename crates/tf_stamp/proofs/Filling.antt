-- The merged domain is filled member by member.
use Rattle.std.specs.Prelude.{ℕ, zero, suc, ◌+◌, ◌-◌, ◌<◌, ◌≤◌, ◌≡◌, List, [], ◌∷◌, ◌++◌, length, replicate, get_or, slice_index}
use Rattle.std.specs.List.{range_with_len}
use Rattle.std.proofs.Common.{refl, sym, ap, ◌∙◌, subst, arith, ⊎_elim}
use Rattle.std.proofs.lemmas.Bool.{cases_lt}
use Rattle.std.proofs.lemmas.List.{length-append, length-replicate, get_or_append_left, get_or-append_right, get_or-replicate}
use Rattle.std.proofs.lemmas.List.FromFn.{length-range_with_len, get_or-range_with_len}
use Rattle.enc_base.specs.Counts.{most_entries}
use Rattle.tf_stamp.specs.Merged.{pairs_before, pair_count, merged_size, stamp, member_in}
use Rattle.tf_stamp.specs.Kept.{sizes_between, IsKept}
use Rattle.tf_stamp.proofs.Merged.{member_in-stamp, member_in-member}

pub pairs_before-zero : (sizes : List ℕ) → pairs_before sizes 0 ≡ 0
pairs_before-zero [] = refl
pairs_before-zero (size ∷ sizes) = refl

pub pairs_before-next : (sizes : List ℕ) (m : ℕ) → m < length sizes →
    pairs_before sizes (suc m) ≡ pairs_before sizes m + slice_index sizes m
pairs_before-next [] m within = absurd (omega arith)
pairs_before-next (size ∷ sizes) zero within = omega (arith, pairs_before-zero sizes)
pairs_before-next (size ∷ sizes) (suc m) within =
    omega (arith, pairs_before-next sizes m (omega arith))

pub pairs_before-most : (sizes : List ℕ) (m : ℕ) → pairs_before sizes m ≤ pair_count sizes
pairs_before-most [] m = omega arith
pairs_before-most (size ∷ sizes) zero = omega arith
pairs_before-most (size ∷ sizes) (suc m) = omega (arith, pairs_before-most sizes m)

pub pairs_before-length : (sizes : List ℕ) → pairs_before sizes (length sizes) ≡ pair_count sizes
pairs_before-length [] = refl
pairs_before-length (size ∷ sizes) = ap (λ n. size + n) (pairs_before-length sizes)

-- a range with one number more
pub range_with_len-next : (start count : ℕ) →
    range_with_len start (suc count) ≡ range_with_len start count ++ (start + count) ∷ []
range_with_len-next start zero =
    let at : start ≡ start + 0 = omega arith in
    ap (λ n. n ∷ []) at
range_with_len-next start (suc count) =
    let at : start + 1 + count ≡ start + suc count = omega arith in
    ap (λ xs. start ∷ xs)
    (range_with_len-next (start + 1) count
    ∙ ap (λ n. range_with_len (start + 1) count ++ n ∷ []) at)

-- sizes are read off the places where their parts begin
sizes_between-same : (sizes starts : List ℕ) (base end : ℕ) →
    length starts ≡ length sizes → end ≡ base + pair_count sizes →
    ((m : ℕ) → m < length sizes → get_or starts m 0 ≡ base + pairs_before sizes m) →
    sizes_between starts end ≡ sizes
sizes_between-same [] [] base end long is start = refl
sizes_between-same [] (first ∷ starts) base end long is start = absurd (omega (arith, long))
sizes_between-same (size ∷ sizes) [] base end long is start = absurd (omega (arith, long))
sizes_between-same (size ∷ []) (first ∷ []) base end long is start =
    ap (λ x. x ∷ []) (omega (arith, start 0, is))
sizes_between-same (size ∷ []) (first ∷ second ∷ starts) base end long is start =
    absurd (omega (arith, long))
sizes_between-same (size ∷ next ∷ sizes) (first ∷ []) base end long is start =
    absurd (omega (arith, long))
sizes_between-same (size ∷ next ∷ sizes) (first ∷ second ∷ starts) base end long is start =
    let here : second - first ≡ size = omega (arith, start 0, start 1) in
    ap (λ x. x ∷ sizes_between (second ∷ starts) end) here
    ∙ ap (λ xs. size ∷ xs)
    (sizes_between-same (next ∷ sizes) (second ∷ starts) (base + size) end (omega (arith, long))
    (omega (arith, is))
    (λ m within. omega (arith, start (suc m) (omega arith))))

-- the members so far stand in what is kept so far
pub record IsFilled (sizes starts members : List ℕ) (upto : ℕ) : Type 0 where
  pub start_count : length starts ≡ upto
  pub start : (m : ℕ) → m < upto → get_or starts m 0 ≡ stamp sizes m 0
  pub count : length members ≡ stamp sizes upto 0
  pub member : (v : ℕ) → v < length members → get_or members v 0 ≡ member_in sizes v

pub filled_first : (sizes : List ℕ) → IsFilled sizes [] (range_with_len 0 (length sizes)) 0
filled_first sizes = record {
  start_count = refl;
  start = λ m within. absurd (omega arith);
  count = omega (arith, length-range_with_len 0 (length sizes), pairs_before-zero sizes);
  member = λ v within.
      let long = length-range_with_len 0 (length sizes) in
      let below : v < length sizes = omega (arith, within, long) in
      omega (
        arith,
        get_or-range_with_len 0 (length sizes) v 0 below,
        member_in-member sizes v below,
      );
}

start_more : (sizes starts : List ℕ) (upto next : ℕ) → length starts ≡ upto →
    ((m : ℕ) → m < upto → get_or starts m 0 ≡ stamp sizes m 0) → next ≡ stamp sizes upto 0 →
    (m : ℕ) → m < suc upto → get_or (starts ++ next ∷ []) m 0 ≡ stamp sizes m 0
start_more sizes starts upto next long start is m within =
    ⊎_elim
    (λ lt. get_or_append_left starts (next ∷ []) 0 m (omega (arith, long, lt)) ∙ start m lt)
    (λ ge. let at : m ≡ upto = omega arith in
    let none : upto - upto ≡ 0 = omega arith in
    subst (λ n. get_or (starts ++ next ∷ []) n 0 ≡ stamp sizes n 0) (sym at)
    (get_or-append_right starts (next ∷ []) upto upto 0 long (omega arith)
    ∙ ap (λ n. get_or (next ∷ []) n 0) none ∙ is))
    (cases_lt m upto)

member_more : (sizes members : List ℕ) (upto : ℕ) → upto < length sizes →
    length members ≡ stamp sizes upto 0 →
    ((v : ℕ) → v < length members → get_or members v 0 ≡ member_in sizes v) →
    (v : ℕ) → v < length members + slice_index sizes upto →
    get_or (members ++ replicate (slice_index sizes upto) upto) v 0 ≡ member_in sizes v
member_more sizes members upto more count member v within =
    let size : ℕ = slice_index sizes upto in
    ⊎_elim
    (λ lt. get_or_append_left members (replicate size upto) 0 v lt ∙ member v lt)
    (λ ge. let e : ℕ = v - length members in
    let below : e < slice_index sizes upto = omega arith in
    let at : stamp sizes upto e ≡ v = omega (arith, count) in
    get_or-append_right members (replicate size upto) (length members) v 0 refl ge
    ∙ get_or-replicate size e upto 0 below
    ∙ sym (ap (member_in sizes) (sym at) ∙ member_in-stamp sizes upto e more below))
    (cases_lt v (length members))

pub filled_more : (sizes starts members : List ℕ) (upto : ℕ) → upto < length sizes →
    IsFilled sizes starts members upto →
    IsFilled sizes (starts ++ length members ∷ [])
    (members ++ replicate (slice_index sizes upto) upto) (upto + 1)
filled_more sizes starts members upto more filled =
    let size : ℕ = slice_index sizes upto in
    let longer : length (members ++ replicate size upto) ≡ length members + size =
    length-append members (replicate size upto)
    ∙ ap (λ n. length members + n) (length-replicate size upto) in
    let next : suc upto ≡ upto + 1 = omega arith in
    subst (IsFilled sizes (starts ++ length members ∷ []) (members ++ replicate size upto)) next
    (record {
      start_count = omega (arith, length-append starts (length members ∷ []), filled.start_count);
      start = start_more sizes starts upto (length members) filled.start_count filled.start
          filled.count;
      count = omega (arith, longer, filled.count, pairs_before-next sizes upto more);
      member = λ v within. member_more sizes members upto more filled.count filled.member v
          (omega (arith, within, longer));
    })

pub filled_sizes : (sizes starts members : List ℕ) → IsFilled sizes starts members (length sizes) →
    sizes_between starts (length members) ≡ sizes
filled_sizes sizes starts members filled =
    sizes_between-same sizes starts (length sizes) (length members) filled.start_count
    (omega (arith, filled.count, pairs_before-length sizes))
    (λ m within. omega (arith, filled.start m within))

pub filled_kept : (sizes starts members : List ℕ) → IsFilled sizes starts members (length sizes) →
    merged_size sizes ≤ most_entries → IsKept sizes starts members
filled_kept sizes starts members filled few =
    let long : length members ≡ merged_size sizes =
    omega (arith, filled.count, pairs_before-length sizes) in
    record {
      start = filled.start;
      member = λ v within. filled.member v (omega (arith, within, long));
      start_count = filled.start_count;
      count = long;
      within = few;
    }
