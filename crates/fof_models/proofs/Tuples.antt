-- Tuples of numbers below a bound at the end of a list: one part more, one fewer, and their order.
use Rattle.std.specs.Prelude.{ℕ, zero, suc, ◌≡◌, ◌<◌, ◌≤◌, ◌+◌, ◌*◌, ◌-◌, List, [], ◌∷◌, ◌++◌, length, replicate, take, drop}
use Rattle.std.proofs.Common.{refl, sym, ap, ◌∙◌, subst, arith}
use Rattle.std.proofs.Math.Seq.{drop-append_seam, take-append_seam}
use Rattle.std.proofs.lemmas.List.{append_assoc, append-nil, length-append, length-take-le, drop-take, take-take}
use Rattle.std.proofs.lemmas.Slice.{take-put_mid, take-put_mid_below}
use borrow.Rule.Slice.PartMut.{put_mid, mid_of, same_len_mid}
use Rattle.enc_base.specs.Tables.{EachBelow, tuple_count, place}
use Rattle.enc_base.specs.Tuples.{IsNext, IsLast}
use Rattle.enc_base.proofs.Lends.{refill-written}
use Rattle.enc_base.proofs.Tables.{place_within, EachBelow-length, EachBelow-more, place-more}
use Rattle.fof_models.specs.Room.{Room}
use Rattle.fof_models.specs.Evaluation.{IsTuple}

-- a tuple of no numbers, of one more, and of more zeros

pub IsTuple-none : (bound : ℕ) (front : List ℕ) → IsTuple bound 0 front front 0
IsTuple-none bound front = record {
  tuple = [];
  items_are = sym (append-nil front);
  below = tt;
  number_is = refl;
}

pub IsTuple-more : (bound count value number : ℕ) (front items : List ℕ) → value < bound →
    IsTuple bound count front items number →
    IsTuple bound (suc count) front (items ++ value ∷ []) (number * bound + value)
IsTuple-more bound count value number front items within is = record {
  tuple = is.tuple ++ value ∷ [];
  items_are = ap (λ xs. xs ++ value ∷ []) is.items_are ∙ append_assoc front is.tuple (value ∷ []);
  below = EachBelow-more bound value count is.tuple is.below within;
  number_is =
      place-more bound value count is.tuple (EachBelow-length count bound is.tuple is.below)
      ∙ ap (λ n. n * bound + value) is.number_is;
}

regroup : (a b c : ℕ) → a * b * c ≡ a * (b * c)
regroup a b c = omega arith

zeros_next : (count : ℕ) (items : List ℕ) →
    (items ++ 0 ∷ []) ++ replicate count 0 ≡ items ++ replicate (suc count) 0
zeros_next count items = append_assoc items (0 ∷ []) (replicate count 0)

pub IsTuple-zeros : (bound count more number : ℕ) (front items : List ℕ) → 0 < bound →
    IsTuple bound count front items number →
    IsTuple bound (count + more) front (items ++ replicate more 0)
    (number * tuple_count (replicate more bound))
IsTuple-zeros bound count zero number front items some is =
    let same : count ≡ count + 0 = omega arith in
    let one : number ≡ number * 1 = omega arith in
    subst (λ n. IsTuple bound n front (items ++ []) (number * 1)) same
    (subst (λ xs. IsTuple bound count front xs (number * 1)) (sym (append-nil items))
    (subst (IsTuple bound count front items) one is))
IsTuple-zeros bound count (suc more) number front items some is =
    let next : suc count + more ≡ count + suc more = omega arith in
    let plain : number * bound + 0 ≡ number * bound = omega arith in
    let product : number * bound * tuple_count (replicate more bound)
    ≡ number * tuple_count (replicate (suc more) bound) =
    regroup number bound (tuple_count (replicate more bound)) in
    subst (λ n. IsTuple bound n front (items ++ replicate (suc more) 0)
    (number * tuple_count (replicate (suc more) bound))) next
    (subst (λ xs. IsTuple bound (suc count + more) front xs
    (number * tuple_count (replicate (suc more) bound))) (zeros_next more items)
    (subst (IsTuple bound (suc count + more) front ((items ++ 0 ∷ []) ++ replicate more 0)) product
    (IsTuple-zeros bound (suc count) more (number * bound) front (items ++ 0 ∷ []) some
    (subst (IsTuple bound (suc count) front (items ++ 0 ∷ [])) plain
    (IsTuple-more bound count 0 number front items some is)))))

-- what is said of items that end in a tuple

pub tuple_length : (bound count number : ℕ) (front items : List ℕ) →
    IsTuple bound count front items number → length items ≡ length front + count
tuple_length bound count number front items is =
    omega (
      arith,
      ap length is.items_are,
      length-append front is.tuple,
      EachBelow-length count bound is.tuple is.below,
    )

pub number_within : (bound count number : ℕ) (front items : List ℕ) →
    IsTuple bound count front items number → number < tuple_count (replicate count bound)
number_within bound count number front items is =
    subst (λ n. n < tuple_count (replicate count bound)) is.number_is
    (place_within (replicate count bound) is.tuple is.below)

-- the number of the tuple that stands behind the front
pub number_behind : (bound count number : ℕ) (front items : List ℕ) →
    IsTuple bound count front items number →
    place (replicate count bound) (drop (length front) items) ≡ number
number_behind bound count number front items is =
    ap (λ xs. place (replicate count bound) (drop (length front) xs)) is.items_are
    ∙ ap (place (replicate count bound)) (drop-append_seam front is.tuple)
    ∙ is.number_is

-- and the tuple is one of numbers below the bound
pub tuple_below : (bound count number : ℕ) (front items : List ℕ) →
    IsTuple bound count front items number →
    EachBelow (replicate count bound) (drop (length items - count) items)
tuple_below bound count number front items is =
    let behind : length items - count ≡ length front =
    omega (arith, tuple_length bound count number front items is) in
    subst (EachBelow (replicate count bound))
    (sym
    (ap (λ n. drop n items) behind
    ∙ ap (drop (length front)) is.items_are
    ∙ drop-append_seam front is.tuple))
    is.below

-- without the tuple, the front is left
pub front_left : (bound count number : ℕ) (front items : List ℕ) →
    IsTuple bound count front items number → take (length items - count) items ≡ front
front_left bound count number front items is =
    let short : length items - count ≡ length front =
    omega (arith, tuple_length bound count number front items is) in
    ap (λ n. take n items) short ∙ ap (take (length front)) is.items_are
    ∙ take-append_seam front is.tuple

pub Room-same : (a b : Room) → a.items ≡ b.items → a.room ≡ b.room → a ≡ b
Room-same a b items room =
    ap (λ (xs : List ℕ). record a { items = xs }) items
    ∙ ap (λ (n : ℕ). record b { room = n }) room

-- a tuple at the end of items, as code replaces it in the slots that hold them
module _ (bound count number used room : ℕ) (front slots lent written : List ℕ)
    (is : IsTuple bound count front (take used slots) number) (fits : used ≤ room)
    (long : room ≡ length slots) (same : lent ≡ slots)
  where
    abbrev part : List ℕ
    part = mid_of (used - count) (used - (used - count)) lent

    held : length front + count ≡ used
    held =
        sym (tuple_length bound count number front (take used slots) is)
        ∙ length-take-le used slots (omega (arith, long))

    part_is : part ≡ is.tuple
    part_is =
        let begins : used - count ≡ length front = omega (arith, held) in
        let parts : used - (used - count) ≡ count = omega (arith, held) in
        ap (λ xs. take (used - (used - count)) (drop (used - count) xs)) same
        ∙ ap (λ n. take n (drop (used - count) slots)) parts
        ∙ ap (λ n. take count (drop n slots)) begins
        ∙ sym (drop-take (length front) count slots)
        ∙ ap (λ n. drop (length front) (take n slots)) held
        ∙ ap (drop (length front)) is.items_are
        ∙ drop-append_seam front is.tuple

    bounds_are : replicate (length part) bound ≡ replicate count bound
    bounds_are =
        ap (λ n. replicate n bound)
        (ap length part_is ∙ sym (EachBelow-length count bound is.tuple is.below))

    pub tuple_last : IsLast (replicate (length part) bound) part →
        number + 1 ≡ tuple_count (replicate count bound)
    tuple_last last =
        let last_of : IsLast (replicate count bound) is.tuple =
        subst (IsLast (replicate count bound)) part_is
        (subst (λ bounds. IsLast bounds part) bounds_are last) in
        ap (λ n. n + 1) (sym is.number_is) ∙ last_of

    module _ (full : length written ≡ length part) where
      abbrev after : List ℕ
      after = put_mid (used - count) (used - (used - count)) lent written

      replaced : take room (after ++ drop (length after) slots) ≡ after
      replaced =
          refill-written room after slots
          (same_len_mid (used - count) (used - (used - count)) lent written full ∙ ap length same
          ∙ sym long)

      front_is : take (used - count) lent ≡ front
      front_is =
          let begins : used - count ≡ length (take used slots) - count =
          omega (arith, held, tuple_length bound count number front (take used slots) is) in
          ap (take (used - count)) same
          ∙ sym (take-take (used - count) used slots (omega arith))
          ∙ ap (λ n. take n (take used slots)) begins
          ∙ front_left bound count number front (take used slots) is

      pub tuple_removed : take (used - count) (take room (after ++ drop (length after) slots)) ≡ front
      tuple_removed =
          ap (take (used - count)) replaced
          ∙ take-put_mid_below (used - count) (used - (used - count)) lent written (used - count)
          (omega arith) (omega (arith, ap length same, long, fits))
          ∙ front_is

      pub tuple_next : IsNext (replicate (length part) bound) part written →
          IsTuple bound count front (take used (take room (after ++ drop (length after) slots)))
          (number + 1)
      tuple_next next =
          let parts : used ≡ used - count + length written =
          omega (arith, held, full, ap length part_is, EachBelow-length count bound is.tuple is.below) in
          let after_next : IsNext (replicate count bound) is.tuple written =
          subst (λ xs. IsNext (replicate count bound) xs written) part_is
          (subst (λ bounds. IsNext bounds part written) bounds_are next) in
          record {
            tuple = written;
            items_are =
                ap (take used) replaced
                ∙ take-put_mid (used - count) (used - (used - count)) lent written used parts
                (omega (arith, ap length same, long, fits))
                ∙ ap (λ xs. xs ++ written) front_is;
            below = after_next.below;
            number_is = after_next.place_is ∙ ap (λ n. n + 1) is.number_is;
          }
