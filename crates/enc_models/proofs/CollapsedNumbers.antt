-- The members and elements that numbers of a collapsed domain are read as, and the places of their
-- tuples.
use Rattle.std.specs.Prelude.{ℕ, zero, suc, ◌≡◌, ◌<◌, ◌≤◌, ◌+◌, ◌*◌, List, [], ◌∷◌, map, length, min, max, replicate, take, get_or, slice_index}
use Rattle.std.proofs.Common.{refl, sym, ap, subst, ◌∙◌, arith}
use Rattle.std.proofs.lemmas.List.{get_or-replicate, length-replicate, length-map, get_or_default}
use Rattle.enc_base.specs.Tables.{EachBelow, tuple_count, place}
use Rattle.enc_base.specs.Tuples.{IsPlaced}
use Rattle.enc_base.proofs.Placing.{EachBelow-at, place-step, place-fits, place-whole, get_or-mapped}
use Rattle.tf_core.specs.Structures.{Typed, member_count, size_of}
use Rattle.enc_laws.specs.CollapsedStructure.{collapse, members_collapsed, elements_collapsed}
use Rattle.enc_laws.proofs.Collapsed.{collapse-below}
use Rattle.tf_collapse.specs.Domain.{CollapsedDomain}
use Rattle.tf_collapse.proofs.Domain.{member_within}
use Rattle.tf_collapse.proofs.PulledBack.{slice_index-min}
use Rattle.enc_models.specs.Calls.Collapsing.{domain_of}

module _ (s : Typed) (some : 0 < member_count s) where
  pub members_below : (values : List ℕ) →
      EachBelow (replicate (length values) (member_count s)) (members_collapsed s values)
  members_below [] = tt
  members_below (v ∷ values) = (collapse-below (member_count s) v some, members_below values)

  -- the place of the tuple of the members of numbers, found from the left
  module _ (values : List ℕ) where
    abbrev members : List ℕ
    members = members_collapsed s values

    abbrev bounds : List ℕ
    bounds = replicate (length values) (member_count s)

    module _ (i at v : ℕ) (within : i < length values)
        (same : v ≡ collapse (member_count s) (get_or values i 0))
        (so_far : at ≡ place (take i bounds) (take i members))
      where
        inside : i < length bounds
        inside = omega (arith, within, length-replicate (length values) (member_count s))

        member_at : v ≡ get_or members i 0
        member_at =
            same
            ∙ sym (get_or-mapped (collapse (member_count s)) values i (get_or values i 0) within
            (get_or_default values i 0 (get_or values i 0) within))

        pub members-step : at * member_count s + v ≡ place (take (i + 1) bounds)
            (take (i + 1) members)
        members-step =
            place-step bounds members i (member_count s) v at (members_below values) inside
            (sym (get_or-replicate (length values) i (member_count s) 0 within))
            member_at so_far

        pub members-fit : at * member_count s + v < tuple_count bounds
        members-fit =
            place-fits bounds members i (member_count s) v at (members_below values) inside
            (sym (get_or-replicate (length values) i (member_count s) 0 within))
            member_at so_far

    pub members_placed : (i at : ℕ) → length values ≤ i →
        at ≡ place (take i bounds) (take i members) → IsPlaced bounds members at
    members_placed i at whole so_far = record {
      place_is = so_far
          ∙ place-whole bounds members i (members_below values)
          (omega (arith, whole, length-replicate (length values) (member_count s)));
      below = members_below values;
    }

-- the elements that numbers are read as

elements_collapsed-at : (s : Typed) (count : ℕ) (members values : List ℕ) (i : ℕ) →
    i < length members → i < length values →
    get_or (elements_collapsed s count members values) i 0
    ≡ collapse (min (size_of s (get_or members i 0)) count) (get_or values i 0)
elements_collapsed-at s count [] values i within inside = absurd (omega (arith, within))
elements_collapsed-at s count (m ∷ members) [] i within inside = absurd (omega (arith, inside))
elements_collapsed-at s count (m ∷ members) (v ∷ values) zero within inside = refl
elements_collapsed-at s count (m ∷ members) (v ∷ values) (suc i) within inside =
    elements_collapsed-at s count members values i (omega (arith, within)) (omega (arith, inside))

elements_below : (s : Typed) (count : ℕ) → 0 < count →
    ((m : ℕ) → m < member_count s → 0 < size_of s m) → (members values : List ℕ) →
    EachBelow (replicate (length members) (member_count s)) members →
    length values ≡ length members →
    EachBelow (map (size_of s) members) (elements_collapsed s count members values)
elements_below s count some inhabited [] values within long = tt
elements_below s count some inhabited (m ∷ members) [] within long = absurd (omega (arith, long))
elements_below s count some inhabited (m ∷ members) (v ∷ values) within long =
    let has = inhabited m within.0 in (
      omega (
        arith,
        collapse-below (min (size_of s m) count) v (omega (arith, some, has)),
      ),
      elements_below s count some inhabited members values within.1 (omega (arith, long)),
    )

-- the place of the tuple of the elements of members that numbers are read as, found from the left
module _ (s : Typed) (count : ℕ) (some : 0 < count)
    (inhabited : (m : ℕ) → m < member_count s → 0 < size_of s m) (members values : List ℕ)
    (within : EachBelow (replicate (length members) (member_count s)) members)
    (long : length values ≡ length members) (d : CollapsedDomain)
    (is : d ≡ domain_of count s.sizes)
  where
    abbrev bounds_of : List ℕ
    bounds_of = map (size_of s) members

    abbrev elements_of : List ℕ
    elements_of = elements_collapsed s count members values

    each_element : EachBelow bounds_of elements_of
    each_element = elements_below s count some inhabited members values within long

    pub member_inside : (i : ℕ) → i < length members → get_or members i 0 < length d.sizes
    member_inside i inside =
        let sizes = ap (λ (domain : CollapsedDomain). length domain.sizes) is in
        let same : length (map (λ own. min own count) s.sizes) ≡ length s.sizes = length-map _ _ in
        omega (arith, member_within (member_count s) i members within inside, sizes, same)

    module _ (i at element : ℕ) (inside : i < length members)
        (read : element ≡ collapse (slice_index d.sizes (get_or members i 0)) (get_or values i 0))
        (so_far : at ≡ place (take i bounds_of) (take i elements_of))
      where
        inside_bounds : i < length bounds_of
        inside_bounds = rw (length-map _ _) inside

        size_at : size_of s (get_or members i 0) ≡ get_or bounds_of i 0
        size_at = sym (get_or-mapped (size_of s) members i (get_or members i 0) inside
            (get_or_default members i 0 (get_or members i 0) inside))

        element_at : element ≡ get_or elements_of i 0
        element_at =
            read
            ∙ ap (λ (domain : CollapsedDomain).
            collapse (slice_index domain.sizes (get_or members i 0)) (get_or values i 0)) is
            ∙ ap (λ size. collapse size (get_or values i 0))
            (slice_index-min s.sizes count (get_or members i 0))
            ∙ sym (elements_collapsed-at s count members values i inside (omega (arith, inside, long)))

        pub elements-step : at * size_of s (get_or members i 0) + element
            ≡ place (take (i + 1) bounds_of) (take (i + 1) elements_of)
        elements-step =
            place-step bounds_of elements_of i (size_of s (get_or members i 0)) element at
            each_element inside_bounds size_at element_at so_far

        pub elements-fit : at * size_of s (get_or members i 0) + element < tuple_count bounds_of
        elements-fit =
            place-fits bounds_of elements_of i (size_of s (get_or members i 0)) element at
            each_element inside_bounds size_at element_at so_far

    pub elements_placed : (i at : ℕ) → length members ≤ i →
        at ≡ place (take i bounds_of) (take i elements_of) → IsPlaced bounds_of elements_of at
    elements_placed i at whole so_far = record {
      place_is = so_far
          ∙ place-whole bounds_of elements_of i each_element (rw (length-map _ _) whole);
      below = each_element;
    }
