-- The elements that numbers of a collapsed domain are read as, and the place of their tuple.
use Rattle.std.specs.Prelude.{ℕ, zero, suc, ◌≡◌, ◌<◌, ◌≤◌, ◌+◌, ◌*◌, List, [], ◌∷◌, map, length, replicate, take, get_or, slice_index}
use Rattle.std.proofs.Common.{refl, sym, ap, ◌∙◌, arith}
use Rattle.std.proofs.lemmas.List.{get_or-replicate, length-replicate, length-map, get_or_default}
use Rattle.enc_base.specs.Tables.{EachBelow, tuple_count, place}
use Rattle.enc_base.specs.Tuples.{IsPlaced}
use Rattle.enc_base.proofs.TupleOrder.{zeros_below}
use Rattle.enc_base.proofs.Placing.{EachBelow-at, place-step, place-fits, place-whole, get_or-mapped}
use Rattle.enc_laws.specs.CollapsedStructure.{collapse}
use Rattle.enc_laws.proofs.Collapsed.{collapse-below}
use Rattle.tf_collapse.specs.Domain.{CollapsedDomain, IsDomain, collapse_each}
use Rattle.tf_collapse.specs.PulledBack.{sizes_in}

-- the member of one place
pub member_within : (count i : ℕ) (members : List ℕ) →
    EachBelow (replicate (length members) count) members → i < length members →
    get_or members i 0 < count
member_within count i members within inside =
    let there : i < length (replicate (length members) count) =
    omega (arith, inside, length-replicate (length members) count) in
    omega (
      arith,
      EachBelow-at (replicate (length members) count) members i within there,
      get_or-replicate (length members) i count 0 inside,
    )

collapse_each-at : (sizes values : List ℕ) (i : ℕ) → i < length sizes → i < length values →
    get_or (collapse_each sizes values) i 0 ≡ collapse (get_or sizes i 0) (get_or values i 0)
collapse_each-at [] values i within inside = absurd (omega (arith, within))
collapse_each-at (size ∷ sizes) [] i within inside = absurd (omega (arith, inside))
collapse_each-at (size ∷ sizes) (v ∷ values) zero within inside = refl
collapse_each-at (size ∷ sizes) (v ∷ values) (suc i) within inside =
    collapse_each-at sizes values i (omega (arith, within)) (omega (arith, inside))

-- numbers are read as elements of their members
collapse_each-below : (d : CollapsedDomain) → IsDomain d → (members values : List ℕ) →
    EachBelow (replicate (length members) (length d.sizes)) members →
    length values ≡ length members →
    EachBelow (sizes_in d members) (collapse_each (sizes_in d members) values)
collapse_each-below d has [] [] within long = tt
collapse_each-below d has [] (v ∷ values) within long = absurd (omega (arith, long))
collapse_each-below d has (m ∷ members) [] within long = absurd (omega (arith, long))
collapse_each-below d has (m ∷ members) (v ∷ values) within long = (
  collapse-below (slice_index d.sizes m) v (has.inhabited m within.0),
  collapse_each-below d has members values within.1 (omega (arith, long)),
)

-- the place of their tuple, found from the left
module _ (d : CollapsedDomain) (has : IsDomain d) (members values : List ℕ)
    (within : EachBelow (replicate (length members) (length d.sizes)) members)
    (long : length values ≡ length members)
  where
    abbrev bounds : List ℕ
    bounds = sizes_in d members

    abbrev elements : List ℕ
    elements = collapse_each bounds values

    each_element : EachBelow bounds elements
    each_element = collapse_each-below d has members values within long

    module _ (i at element : ℕ) (inside : i < length members)
        (is : element ≡ collapse (slice_index d.sizes (get_or members i 0)) (get_or values i 0))
        (so_far : at ≡ place (take i bounds) (take i elements))
      where
        inside_bounds : i < length bounds
        inside_bounds = rw (length-map _ _) inside

        size_at : slice_index d.sizes (get_or members i 0) ≡ get_or bounds i 0
        size_at = sym (get_or-mapped (slice_index d.sizes) members i (get_or members i 0) inside
            (get_or_default members i 0 (get_or members i 0) inside))

        element_at : element ≡ get_or elements i 0
        element_at =
            is
            ∙ ap (λ size. collapse size (get_or values i 0)) size_at
            ∙ sym (collapse_each-at bounds values i inside_bounds (omega (arith, inside, long)))

        pub elements-step : at * slice_index d.sizes (get_or members i 0) + element
            ≡ place (take (i + 1) bounds) (take (i + 1) elements)
        elements-step =
            place-step bounds elements i (slice_index d.sizes (get_or members i 0)) element at
            each_element inside_bounds size_at element_at so_far

        pub elements-fit : at * slice_index d.sizes (get_or members i 0) + element
            < tuple_count bounds
        elements-fit =
            place-fits bounds elements i (slice_index d.sizes (get_or members i 0)) element at
            each_element inside_bounds size_at element_at so_far

    pub elements_placed : (i at : ℕ) → length members ≤ i →
        at ≡ place (take i bounds) (take i elements) → IsPlaced bounds elements at
    elements_placed i at whole so_far = record {
      place_is = so_far
          ∙ place-whole bounds elements i each_element (rw (length-map _ _) whole);
      below = each_element;
    }

-- there is a tuple of numbers, one for each member
pub some_tuple : (d : CollapsedDomain) → IsDomain d → (members : List ℕ) →
    EachBelow (replicate (length members) (length d.sizes)) members →
    EachBelow (replicate (length members) d.big) (replicate (length members) 0)
some_tuple d has [] within = tt
some_tuple d has (m ∷ members) within =
    zeros_below (suc (length members)) d.big
    (omega (arith, has.inhabited m within.0, has.within m within.0))
