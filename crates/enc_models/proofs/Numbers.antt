-- The members and elements that numbers of a merged domain are read as, and the places of their
-- tuples.
use Rattle.std.specs.Prelude.{ℕ, zero, suc, ◌≡◌, ◌<◌, ◌≤◌, ◌+◌, ◌*◌, List, [], ◌∷◌, map, length, replicate, take, get_or, slice_index}
use Rattle.std.proofs.Common.{refl, sym, ap, subst, ◌∙◌, arith}
use Rattle.std.proofs.lemmas.List.{get_or-replicate, length-replicate, length-map, get_or_default}
use Rattle.enc_base.specs.Tables.{EachBelow, tuple_count, place}
use Rattle.tf_core.specs.Structures.{Typed}
use Rattle.enc_base.specs.Tuples.{IsPlaced}
use Rattle.enc_base.proofs.Placing.{EachBelow-at, EachBelow-same_length, place-step, place-fits, place-whole, get_or-mapped}
use Rattle.tf_stamp.specs.Merged.{merged_size, member_in, element_in}
use Rattle.tf_stamp.proofs.Merged.{member_in-within}
use Rattle.enc_laws.specs.MergedStructure.{elements_read}
use Rattle.enc_laws.proofs.Closed as closed
use Rattle.enc_laws.proofs.Stamped.{IsElement, element_of}
use Rattle.enc_models.specs.Calls.Sources.{numbers_at}

-- a structure with members of these sizes
abbrev domain_of : List ℕ → Typed
domain_of sizes = record {
  sizes = sizes;
  constructor_at = λ c members. 0;
  symbol_at = λ f members elements. 0;
}

module _ (sizes : List ℕ) where
  pub members_below : (count : ℕ) (values : List ℕ) →
      EachBelow (replicate count (merged_size sizes)) values →
      EachBelow (replicate count (length sizes)) (map (member_in sizes) values)
  members_below zero [] below = tt
  members_below zero (v ∷ values) below = absurd below
  members_below (suc count) [] below = absurd below
  members_below (suc count) (v ∷ values) below =
      (member_in-within sizes v below.0, members_below count values below.1)

  -- one number among others
  pub number_below : (count i : ℕ) (values : List ℕ) →
      EachBelow (replicate count (merged_size sizes)) values → i < count →
      get_or values i 0 < merged_size sizes
  number_below count i values below within =
      let inside : i < length (replicate count (merged_size sizes)) =
      omega (arith, within, length-replicate count (merged_size sizes)) in
      omega (
        arith,
        EachBelow-at (replicate count (merged_size sizes)) values i below inside,
        get_or-replicate count i (merged_size sizes) 0 within,
      )

  -- the place of the tuple of the members of numbers, found from the left
  module _ (values : List ℕ)
      (below : EachBelow (replicate (length values) (merged_size sizes)) values)
    where
      abbrev members : List ℕ
      members = map (member_in sizes) values

      abbrev bounds : List ℕ
      bounds = replicate (length values) (length sizes)

      each_member : EachBelow bounds members
      each_member = members_below (length values) values below

      module _ (i at v : ℕ) (within : i < length values)
          (same : v ≡ member_in sizes (get_or values i 0)) (so_far : at ≡ place (take i bounds) (take i members))
        where
          inside : i < length bounds
          inside = omega (arith, within, length-replicate (length values) (length sizes))

          member_at : v ≡ get_or members i 0
          member_at =
              same
              ∙ sym (get_or-mapped (member_in sizes) values i (get_or values i 0) within
              (get_or_default values i 0 (get_or values i 0) within))

          pub members-step : at * length sizes + v ≡ place (take (i + 1) bounds)
              (take (i + 1) members)
          members-step =
              place-step bounds members i (length sizes) v at each_member inside
              (sym (get_or-replicate (length values) i (length sizes) 0 within))
              member_at so_far

          pub members-fit : at * length sizes + v < tuple_count bounds
          members-fit =
              place-fits bounds members i (length sizes) v at each_member inside
              (sym (get_or-replicate (length values) i (length sizes) 0 within))
              member_at so_far

      pub members_placed : (i at : ℕ) → length values ≤ i →
          at ≡ place (take i bounds) (take i members) → IsPlaced bounds members at
      members_placed i at whole so_far = record {
        place_is = so_far
            ∙ place-whole bounds members i each_member
            (omega (arith, whole, length-replicate (length values) (length sizes)));
        below = each_member;
      }

  -- a number is read as an element of each member
  pub element_small : (v m : ℕ) → v < merged_size sizes → m < length sizes →
      0 < slice_index sizes m → element_in sizes v m < slice_index sizes m
  element_small v m below within inhabited =
      let element : IsElement (domain_of sizes) v m (element_in sizes v m) =
      element_of (domain_of sizes) v m below within inhabited in
      element.small

  elements_read-at : (members values : List ℕ) (i : ℕ) → i < length members → i < length values →
      get_or (elements_read sizes members values) i 0
      ≡ element_in sizes (get_or values i 0) (get_or members i 0)
  elements_read-at [] values i within inside = absurd (omega (arith, within))
  elements_read-at (m ∷ members) [] i within inside = absurd (omega (arith, inside))
  elements_read-at (m ∷ members) (v ∷ values) zero within inside = refl
  elements_read-at (m ∷ members) (v ∷ values) (suc i) within inside =
      elements_read-at members values i (omega (arith, within)) (omega (arith, inside))

-- the elements that numbers are read as are elements of their members
elements_below : (sizes : List ℕ) → ((m : ℕ) → m < length sizes → 0 < slice_index sizes m) →
    (ms values : List ℕ) → EachBelow (replicate (length ms) (length sizes)) ms →
    EachBelow (replicate (length ms) (merged_size sizes)) values →
    EachBelow (map (slice_index sizes) ms) (elements_read sizes ms values)
elements_below sizes inhabited [] values within below = tt
elements_below sizes inhabited (m ∷ ms) [] within below = absurd below
elements_below sizes inhabited (m ∷ ms) (v ∷ values) within below = (
  element_small sizes v m below.0 within.0 (inhabited m within.0),
  elements_below sizes inhabited ms values within.1 below.1,
)

-- the place of the tuple of the elements of members that numbers are read as, found from the left
module _ (sizes members values : List ℕ)
    (inhabited : (m : ℕ) → m < length sizes → 0 < slice_index sizes m)
    (within : EachBelow (replicate (length members) (length sizes)) members)
    (below : EachBelow (replicate (length members) (merged_size sizes)) values)
  where
    abbrev bounds_of : List ℕ
    bounds_of = map (slice_index sizes) members

    abbrev elements_of : List ℕ
    elements_of = elements_read sizes members values

    pub as_many_values : length values ≡ length members
    as_many_values =
        sym (EachBelow-same_length (replicate (length members) (merged_size sizes)) values below)
        ∙ length-replicate (length members) (merged_size sizes)

    each_element : EachBelow bounds_of elements_of
    each_element = elements_below sizes inhabited members values within below

    pub argument_member : (i : ℕ) → i < length members → get_or members i 0 < length sizes
    argument_member i inside =
        let there : i < length (replicate (length members) (length sizes)) =
        omega (arith, inside, length-replicate (length members) (length sizes)) in
        omega (
          arith,
          EachBelow-at (replicate (length members) (length sizes)) members i within there,
          get_or-replicate (length members) i (length sizes) 0 inside,
        )

    module _ (i at element : ℕ) (inside : i < length members)
        (element_is : element ≡ element_in sizes (get_or values i 0) (get_or members i 0))
        (so_far : at ≡ place (take i bounds_of) (take i elements_of))
      where
        inside_bounds : i < length bounds_of
        inside_bounds = rw (length-map _ _) inside

        size_at : slice_index sizes (get_or members i 0) ≡ get_or bounds_of i 0
        size_at = sym (get_or-mapped (slice_index sizes) members i (get_or members i 0) inside
            (get_or_default members i 0 (get_or members i 0) inside))

        element_at : element ≡ get_or elements_of i 0
        element_at =
            element_is
            ∙ sym (elements_read-at sizes members values i inside
            (omega (arith, inside, as_many_values)))

        pub elements-step : at * slice_index sizes (get_or members i 0) + element
            ≡ place (take (i + 1) bounds_of) (take (i + 1) elements_of)
        elements-step =
            place-step bounds_of elements_of i (slice_index sizes (get_or members i 0)) element at
            each_element inside_bounds size_at element_at so_far

        pub elements-fit : at * slice_index sizes (get_or members i 0) + element
            < tuple_count bounds_of
        elements-fit =
            place-fits bounds_of elements_of i (slice_index sizes (get_or members i 0)) element at
            each_element inside_bounds size_at element_at so_far

    pub elements_placed : (i at : ℕ) → length members ≤ i →
        at ≡ place (take i bounds_of) (take i elements_of) → IsPlaced bounds_of elements_of at
    elements_placed i at whole so_far = record {
      place_is = so_far
          ∙ place-whole bounds_of elements_of i each_element (rw (length-map _ _) whole);
      below = each_element;
    }

-- numbers at places are below a bound that all are below
pub numbers_at-below : (bound : ℕ) (values places : List ℕ) →
    EachBelow (replicate (length values) bound) values →
    EachBelow (replicate (length places) (length values)) places →
    EachBelow (replicate (length places) bound) (numbers_at values places)
numbers_at-below bound values [] below within = tt
numbers_at-below bound values (at ∷ places) below within = (
  closed.EachBelow-at bound (length values) values below at within.0,
  numbers_at-below bound values places below within.1,
)

-- the place of the tuple of the members of numbers at places, found from the left
module _ (sizes values places : List ℕ)
    (below : EachBelow (replicate (length values) (merged_size sizes)) values)
    (within : EachBelow (replicate (length places) (length values)) places)
  where
    abbrev told : List ℕ
    told = numbers_at values places

    told_long : length told ≡ length places
    told_long = length-map places (slice_index values)

    told_below : EachBelow (replicate (length told) (merged_size sizes)) told
    told_below =
        subst (λ n. EachBelow (replicate n (merged_size sizes)) told) (sym told_long)
        (numbers_at-below (merged_size sizes) values places below within)

    pub place_within : (i : ℕ) → i < length places → get_or places i 0 < length values
    place_within i inside =
        closed.EachBelow-at (length values) (length places) places within i inside

    pub told_number : (i : ℕ) → i < length places →
        get_or values (get_or places i 0) 0 < merged_size sizes
    told_number i inside =
        number_below sizes (length values) (get_or places i 0) values below (place_within i inside)

    module _ (i at v : ℕ) (inside : i < length places)
        (is : v ≡ member_in sizes (get_or values (get_or places i 0) 0))
        (so_far : at ≡ place (take i (replicate (length places) (length sizes)))
        (take i (map (member_in sizes) told)))
      where
        inside_told : i < length told
        inside_told = omega (arith, inside, told_long)

        told_is : v ≡ member_in sizes (get_or told i 0)
        told_is =
            is
            ∙ ap (member_in sizes)
            (sym (get_or-mapped (slice_index values) places i (get_or places i 0) inside
            (get_or_default places i 0 (get_or places i 0) inside)))

        so_far_told : at ≡ place (take i (replicate (length told) (length sizes)))
            (take i (map (member_in sizes) told))
        so_far_told =
            subst
            (λ n. at
            ≡ place (take i (replicate n (length sizes))) (take i (map (member_in sizes) told)))
            (sym told_long) so_far

        pub told-step : at * length sizes + v
            ≡ place (take (i + 1) (replicate (length places) (length sizes)))
            (take (i + 1) (map (member_in sizes) told))
        told-step =
            subst
            (λ n. at * length sizes + v
            ≡ place (take (i + 1) (replicate n (length sizes)))
            (take (i + 1) (map (member_in sizes) told)))
            told_long (members-step sizes told told_below i at v inside_told told_is so_far_told)

        pub told-fit : at * length sizes + v < tuple_count (replicate (length places) (length sizes))
        told-fit =
            subst (λ n. at * length sizes + v < tuple_count (replicate n (length sizes))) told_long
            (members-fit sizes told told_below i at v inside_told told_is so_far_told)

    pub told_placed : (i at : ℕ) → length places ≤ i →
        at ≡ place (take i (replicate (length places) (length sizes)))
        (take i (map (member_in sizes) told)) →
        IsPlaced (replicate (length places) (length sizes)) (map (member_in sizes) told) at
    told_placed i at whole so_far =
        subst (λ n. IsPlaced (replicate n (length sizes)) (map (member_in sizes) told) at) told_long
        (members_placed sizes told told_below i at (omega (arith, whole, told_long))
        (subst
        (λ n. at
        ≡ place (take i (replicate n (length sizes))) (take i (map (member_in sizes) told)))
        (sym told_long) so_far))
