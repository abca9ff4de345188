-- Ways as they are counted.
use Rattle.std.specs.Prelude.{ℕ, zero, suc, ◌≡◌, ◌<◌, ◌+◌, ◌*◌, ◌^◌, Bool, true, false, List, [], ◌∷◌, ◌++◌, map, cond, eqb, get_or, length, replicate, slice_index, take}
use Rattle.std.specs.List.{All}
use Rattle.std.proofs.Common.{refl, sym, ap, subst, ◌∙◌, arith}
use Rattle.std.proofs.lemmas.Bool.{false≢true}
use Rattle.std.proofs.lemmas.List.Elements.{All-head, All-tail, All-nil, All-cons}
use Rattle.enc_base.specs.Tables.{EachBelow, sum_below, total, begins}
use Rattle.enc_base.proofs.Tables.{sum_below-same}
use Rattle.structure_tables.specs.declared.ways.Ways.{Ways}
use Rattle.structure_tables.specs.declared.ways.Ways.TheVariants.{One, Many}
use Rattle.structure_tables.specs.TypeWays.{one_at, ways_together}
use Rattle.structure_tables.specs.CountedWays.{AreWaysTo, CountWays, ways_to, is_one, choices_of, choice_at, count_at, choices_at, counts_at, ways_by, AreWays}
use Rattle.structure_tables.proofs.Tabling.{zeros_at}
use Rattle.structure_tables.proofs.ProductSums.{total-each, total-factor}
use Rattle.structure_tables.proofs.CountedAlike.{AreAlike, alike_itself, alike_products, sum_below-alike}
use Rattle.structure_tables.proofs.FoldedTuples.{sum_below-one}
use Rattle.structure_tables.proofs.CountedBlocks.{count_first, counted_last, counted_next}
use Rattle.std.proofs.lemmas.List.{length-map}
use Rattle.enc_base.specs.Counts.{in_64_bits}
use Rattle.enc_base.specs.Tuples.{IsNext, IsLast}

-- choices, a part more

pub choice_within : (members : ℕ) (parts : List Ways) (numbers : List ℕ) (i : ℕ) (part : Ways) →
    EachBelow (map (choices_of members) parts) numbers → i < length parts →
    part ≡ get_or parts i part →
    (i < length numbers) × (slice_index numbers i < choices_of members part)
choice_within members [] numbers i part below within is = absurd (omega (arith, within))
choice_within members (first ∷ parts) [] i part below within is = absurd below
choice_within members (first ∷ parts) (number ∷ numbers) zero part below within is =
    (omega arith, subst (λ p. number < choices_of members p) (sym is) below.0)
choice_within members (first ∷ parts) (number ∷ numbers) (suc i) part below within is =
    let rest = choice_within members parts numbers i part below.1 (omega (arith, within)) is in
    (omega (arith, rest.0), rest.1)

pub choices_at-more : (members : ℕ) (parts : List Ways) (numbers : List ℕ) (i : ℕ) (part : Ways) →
    EachBelow (map (choices_of members) parts) numbers → i < length parts →
    part ≡ get_or parts i part →
    choices_at (take (suc i) parts) numbers
    ≡ choices_at (take i parts) numbers ++ choice_at part (slice_index numbers i) ∷ []
choices_at-more members [] numbers i part below within is = absurd (omega (arith, within))
choices_at-more members (first ∷ parts) [] i part below within is = absurd below
choices_at-more members (first ∷ parts) (number ∷ numbers) zero part below within is =
    ap (λ p. choice_at p number ∷ []) (sym is)
choices_at-more members (first ∷ parts) (number ∷ numbers) (suc i) part below within is =
    ap (λ ns. choice_at first number ∷ ns)
    (choices_at-more members parts numbers i part below.1 (omega (arith, within)) is)

pub counts_at-more : (members : ℕ) (parts : List Ways) (numbers : List ℕ) (i : ℕ) (part : Ways) →
    EachBelow (map (choices_of members) parts) numbers → i < length parts →
    part ≡ get_or parts i part →
    counts_at (take (suc i) parts) numbers
    ≡ counts_at (take i parts) numbers * count_at part (slice_index numbers i)
counts_at-more members [] numbers i part below within is = absurd (omega (arith, within))
counts_at-more members (first ∷ parts) [] i part below within is = absurd below
counts_at-more members (first ∷ parts) (number ∷ numbers) zero part below within is =
    ap (λ p. count_at p number * 1) (sym is) ∙ turned (count_at part number)
  where
    turned : (n : ℕ) → n * 1 ≡ 1 * n
    turned n = omega arith
counts_at-more members (first ∷ parts) (number ∷ numbers) (suc i) part below within is =
    ap (λ n. count_at first number * n)
    (counts_at-more members parts numbers i part below.1 (omega (arith, within)) is)
    ∙ apart (count_at first number) (counts_at (take i parts) numbers)
    (count_at part (slice_index numbers i))
  where
    apart : (a b c : ℕ) → a * (b * c) ≡ a * b * c
    apart a b c = grind arith

pub counted_choice : (tuples before count : ℕ) → tuples ≡ in_64_bits before →
    in_64_bits (tuples * count) ≡ in_64_bits (before * count)
counted_choice tuples before count so_far =
    alike_products tuples before count count (ap in_64_bits so_far ∙ alike_itself before) refl

-- the members that choices are
pub choices_below : (members : ℕ) (parts : List Ways) (numbers : List ℕ) →
    All (AreWaysTo members) parts → EachBelow (map (choices_of members) parts) numbers →
    EachBelow (replicate (length parts) members) (choices_at parts numbers)
choices_below members [] numbers fit below = tt
choices_below members (part ∷ parts) [] fit below = absurd below
choices_below members (part ∷ parts) (number ∷ numbers) fit below = (
  inside part (All-head (AreWaysTo members) part parts fit) below.0,
  choices_below members parts numbers (All-tail (AreWaysTo members) part parts fit) below.1,
)
  where
    inside : (ways : Ways) → AreWaysTo members ways → number < choices_of members ways →
        choice_at ways number < members
    inside (One member) fits within = fits
    inside (Many counts) fits within = within

-- the first choices
pub first_choices : (members : ℕ) (parts : List Ways) → 0 < members →
    EachBelow (map (choices_of members) parts) (replicate (length parts) 0)
first_choices members [] some = tt
first_choices members (part ∷ parts) some = (
  one_at_least part,
  first_choices members parts some,
)
  where
    one_at_least : (ways : Ways) → 0 < choices_of members ways
    one_at_least (One member) = omega arith
    one_at_least (Many counts) = some

-- parts that are one member each
pub ones_alone : (members : ℕ) (parts : List Ways) (h : List ℕ → ℕ) →
    All (λ part. is_one part ≡ true) parts →
    total (map (choices_of members) parts) (λ numbers. counts_at parts numbers * h (choices_at parts numbers))
    ≡ h (choices_at parts (replicate (length parts) 0))
ones_alone members [] h ones = once (h [])
  where
    once : (n : ℕ) → 1 * n ≡ n
    once n = omega arith
ones_alone members (One member ∷ parts) h ones =
    let rest : List ℕ = map (choices_of members) parts in
    ap (λ n. 0 + n)
    (total-each rest (λ numbers. 1 * counts_at parts numbers * h (member ∷ choices_at parts numbers))
    (λ numbers. counts_at parts numbers * h (member ∷ choices_at parts numbers))
    (λ numbers _. once (counts_at parts numbers) (h (member ∷ choices_at parts numbers))))
    ∙ nothing (total rest (λ numbers. counts_at parts numbers * h (member ∷ choices_at parts numbers)))
    ∙ ones_alone members parts (λ values. h (member ∷ values))
    (All-tail (λ part. is_one part ≡ true) (One member) parts ones)
  where
    once : (n m : ℕ) → 1 * n * m ≡ n * m
    once n m = grind arith

    nothing : (n : ℕ) → 0 + n ≡ n
    nothing n = omega arith
ones_alone members (Many counts ∷ parts) h ones =
    absurd (false≢true (All-head (λ part. is_one part ≡ true) (Many counts) parts ones))

-- ways by parts, and what the parts are

pub alike_way : (members : ℕ) (part : Ways) (are : ℕ → ℕ) → CountWays members part are → (member : ℕ) →
    member < members → AreAlike (ways_to part member) (are member)
alike_way members part are ways member within =
    ap in_64_bits (ways.counted member within) ∙ alike_itself (are member)

pub parts_alike : (members : ℕ) (parts : List Ways) (ares : List (ℕ → ℕ)) →
    AreWays members parts ares → (h : List ℕ → ℕ) →
    AreAlike
    (total (map (choices_of members) parts)
    (λ numbers. counts_at parts numbers * h (choices_at parts numbers)))
    (total (replicate (length ares) members) (λ values. ways_together ares values * h values))
parts_alike members [] [] ways h = refl
parts_alike members [] (are ∷ ares) ways h = absurd ways
parts_alike members (part ∷ parts) [] ways h = absurd ways
parts_alike members (part ∷ parts) (are ∷ ares) ways h =
    let bounds : List ℕ = map (choices_of members) parts in
    let rest : List ℕ = replicate (length ares) members in
    let counted : ℕ → ℕ = λ member.
    total bounds (λ numbers. counts_at parts numbers * h (member ∷ choices_at parts numbers)) in
    let exact : ℕ → ℕ = λ member. total rest (λ values. ways_together ares values * h (member ∷ values)) in
    ap in_64_bits
    (sum_below-same (choices_of members part)
    (λ number. total bounds (λ numbers.
    count_at part number * counts_at parts numbers * h (choice_at part number ∷ choices_at parts numbers)))
    (λ number. count_at part number * counted (choice_at part number))
    (λ number _. total-each bounds
    (λ numbers. count_at part number * counts_at parts numbers
    * h (choice_at part number ∷ choices_at parts numbers))
    (λ numbers. count_at part number
    * (counts_at parts numbers * h (choice_at part number ∷ choices_at parts numbers)))
    (λ numbers _. apart (count_at part number) (counts_at parts numbers)
    (h (choice_at part number ∷ choices_at parts numbers)))
    ∙ total-factor bounds (count_at part number)
    (λ numbers. counts_at parts numbers * h (choice_at part number ∷ choices_at parts numbers))))
    ∙ either part ways.0 counted exact
    (λ member. parts_alike members parts ares ways.1 (λ values. h (member ∷ values)))
    ∙ ap in_64_bits
    (sum_below-same members (λ member. are member * exact member)
    (λ member. total rest (λ values. are member * ways_together ares values * h (member ∷ values)))
    (λ member _. sym (total-factor rest (are member)
    (λ values. ways_together ares values * h (member ∷ values)))
    ∙ total-each rest (λ values. are member * (ways_together ares values * h (member ∷ values)))
    (λ values. are member * ways_together ares values * h (member ∷ values))
    (λ values _. sym (apart (are member) (ways_together ares values) (h (member ∷ values))))))
  where
    apart : (a b c : ℕ) → a * b * c ≡ a * (b * c)
    apart a b c = grind arith

    either : (ways : Ways) → CountWays members ways are → (counted exact : ℕ → ℕ) →
        ((member : ℕ) → AreAlike (counted member) (exact member)) →
        AreAlike (sum_below (choices_of members ways)
        (λ number. count_at ways number * counted (choice_at ways number)))
        (sum_below members (λ member. are member * exact member))
    either (One member) is counted exact alike =
        ap in_64_bits (alone (counted member))
        ∙ alike member
        ∙ ap in_64_bits (sym (sum_below-one members member exact is.fit))
        ∙ sum_below-alike members (λ other. one_at member other * exact other)
        (λ other. are other * exact other)
        (λ other within. alike_products (one_at member other) (are other) (exact other) (exact other)
        (alike_way members (One member) are is other within) refl)
      where
        alone : (n : ℕ) → 0 + 1 * n ≡ n
        alone n = omega arith
    either (Many counts) is counted exact alike =
        sum_below-alike members (λ number. slice_index counts number * counted number)
        (λ member. are member * exact member)
        (λ member within. alike_products (slice_index counts member) (are member) (counted member)
        (exact member) (alike_way members (Many counts) are is member within) (alike member))

-- one member
pub counts_one : (members member : ℕ) (are : ℕ → ℕ) → member < members →
    ((other : ℕ) → are other ≡ one_at member other) → CountWays members (One member) are
counts_one members member are within same = record {
  fit = within;
  counted = λ other _. small (eqb member other) ∙ ap in_64_bits (sym (same other));
}
  where
    small : (b : Bool) → cond b 1 0 ≡ in_64_bits (cond b 1 0)
    small true = refl
    small false = refl

-- ways whose numbers are counted alike
pub counts_alike : (members : ℕ) (ways : Ways) (first second : ℕ → ℕ) →
    CountWays members ways first →
    ((member : ℕ) → member < members → AreAlike (first member) (second member)) →
    CountWays members ways second
counts_alike members ways first second counts alike = record {
  fit = counts.fit;
  counted = λ member within. counts.counted member within ∙ alike member within;
}

pub one_size : (ways : Ways) (member : ℕ) (sizes : List ℕ) → ways ≡ One member →
    AreWaysTo (length sizes) ways → slice_index sizes member < 2 ^ 32 →
    slice_index sizes member
    ≡ in_64_bits (sum_below (length sizes) (λ other. ways_to ways other * slice_index sizes other))
one_size ways member sizes is fit small =
    omega (
      arith,
      small,
      sum_below-one (length sizes) member (slice_index sizes) (subst (AreWaysTo (length sizes)) is fit),
      ap (λ w. sum_below (length sizes) (λ other. ways_to w other * slice_index sizes other)) is,
    )

-- counting, tuple by tuple

module _ (members : ℕ) (parts : List Ways) (counts numbers : List ℕ) where
  pub nothing_counted : (lengths : List ℕ → ℕ) → counts ≡ replicate members 0 →
      numbers ≡ replicate (length parts) 0 → (member : ℕ) →
      slice_index counts member
      ≡ in_64_bits (begins (map (choices_of members) parts) lengths numbers)
  nothing_counted lengths are first member =
      let bounds : List ℕ = map (choices_of members) parts in
      ap (λ cs. slice_index cs member) are
      ∙ zeros_at members member
      ∙ count_first bounds lengths
      ∙ ap (λ n. in_64_bits (begins bounds lengths (replicate n 0)))
      (length-map parts (choices_of members))
      ∙ ap (λ ns. in_64_bits (begins bounds lengths ns)) (sym first)

  module _ (f : List ℕ → ℕ) (below : EachBelow (map (choices_of members) parts) numbers)
      (more found : ℕ) (added : List ℕ)
      (so_far : (member : ℕ) → slice_index counts member
      ≡ in_64_bits (begins (map (choices_of members) parts)
      (λ choices. counts_at parts choices * one_at (f (choices_at parts choices)) member) numbers))
      (is : more ≡ in_64_bits (counts_at parts numbers))
      (gives : found ≡ f (choices_at parts numbers))
      (are : (member : ℕ) → slice_index added member
      ≡ in_64_bits (slice_index counts member + more * one_at found member))
    where
      abbrev bounds : List ℕ
      bounds = map (choices_of members) parts

      abbrev lengths : ℕ → List ℕ → ℕ
      lengths member choices = counts_at parts choices * one_at (f (choices_at parts choices)) member

      block : (member : ℕ) →
          in_64_bits (more * one_at found member) ≡ in_64_bits (lengths member numbers)
      block member =
          ap (λ n. in_64_bits (more * one_at n member)) gives
          ∙ counted_choice more (counts_at parts numbers) (one_at (f (choices_at parts numbers)) member) is

      added_block : (member : ℕ) → slice_index added member
          ≡ in_64_bits (slice_index counts member + in_64_bits (more * one_at found member))
      added_block member = are member ∙ kept_in (slice_index counts member) (more * one_at found member)
        where
          kept_in : (a b : ℕ) → in_64_bits (a + b) ≡ in_64_bits (a + in_64_bits b)
          kept_in a b = omega arith

      pub all_counted : IsLast bounds numbers → (member : ℕ) →
          slice_index added member ≡ in_64_bits (ways_by f members parts member)
      all_counted last member =
          added_block member
          ∙ counted_last bounds (lengths member) numbers (slice_index counts member)
          (in_64_bits (more * one_at found member)) below (so_far member) (block member) last

      pub next_counted : (after : List ℕ) → IsNext bounds numbers after → (member : ℕ) →
          slice_index added member ≡ in_64_bits (begins bounds (lengths member) after)
      next_counted after next member =
          added_block member
          ∙ counted_next bounds (lengths member) numbers (slice_index counts member)
          (in_64_bits (more * one_at found member)) below (so_far member) (block member) after next

-- a part more
pub AreWays-more : (members : ℕ) (parts : List Ways) (ares : List (ℕ → ℕ)) (part : Ways) (are : ℕ → ℕ) →
    AreWays members parts ares → CountWays members part are →
    AreWays members (parts ++ part ∷ []) (ares ++ are ∷ [])
AreWays-more members [] [] part are ways counts = (counts, tt)
AreWays-more members [] (first ∷ ares) part are ways counts = absurd ways
AreWays-more members (first ∷ parts) [] part are ways counts = absurd ways
AreWays-more members (first ∷ parts) (other ∷ ares) part are ways counts =
    (ways.0, AreWays-more members parts ares part are ways.1 counts)

pub AreWays-fit : (members : ℕ) (parts : List Ways) (ares : List (ℕ → ℕ)) →
    AreWays members parts ares → All (AreWaysTo members) parts
AreWays-fit members [] [] ways = All-nil (AreWaysTo members)
AreWays-fit members [] (first ∷ ares) ways = absurd ways
AreWays-fit members (first ∷ parts) [] ways = absurd ways
AreWays-fit members (first ∷ parts) (other ∷ ares) ways =
    All-cons (AreWaysTo members) first parts ways.0.fit (AreWays-fit members parts ares ways.1)

pub AreWays-length : (members : ℕ) (parts : List Ways) (ares : List (ℕ → ℕ)) →
    AreWays members parts ares → length parts ≡ length ares
AreWays-length members [] [] ways = refl
AreWays-length members [] (first ∷ ares) ways = absurd ways
AreWays-length members (first ∷ parts) [] ways = absurd ways
AreWays-length members (first ∷ parts) (other ∷ ares) ways =
    ap suc (AreWays-length members parts ares ways.1)
