-- What a search for a name finds.
use Rattle.std.proofs.Common.{◌≡◌, ℕ, suc, ◌+◌, ◌<◌, ◌≤◌, Bool, true, false, not, List, [], ◌∷◌, ◌++◌, length, filter, refl, sym, ap, ◌∙◌, subst, arith, Option, Some, None, option_map, if◌then◌else◌, bytes_eq}
use Rattle.std.specs.List.{AllByRecursion}
use Rattle.std.proofs.lemmas.Bool.{false≢true}
use Rattle.tf_check.specs.Signature.{first_of_each}
use Rattle.std.proofs.lemmas.Slice.Eq.{bytes_eq-Decides}
use Rattle.tf_check.specs.Types.{found}

module _ {A : Type 0} (name_of : A → List ℕ) (name : List ℕ) where
  -- one step of the search
  abbrev step : Bool → A → Option (ℕ × A) → Option (ℕ × A)
  step same item rest = if same then Some (0, item) else option_map (λ at. (at.0 + 1, at.1)) rest

  within_step : (same : Bool) (item : A) (rest : Option (ℕ × A)) (size place : ℕ) (x : A) →
      ((p : ℕ) (y : A) → rest ≡ Some (p, y) → p < size) →
      step same item rest ≡ Some (place, x) →
      place < size + 1
  within_step true item rest size place x below is =
      let at : ℕ × A = (0, item) in
      let same : at ≡ (place, x) = cc in
      let zero_is : 0 ≡ place = ap (λ (b : ℕ × A). b.0) same in omega arith
  within_step false item None size place x below is = cc
  within_step false item (Some (p, y)) size place x below is =
      let at : ℕ × A = (p + 1, y) in
      let same : at ≡ (place, x) = cc in
      let next : p + 1 ≡ place = ap (λ (b : ℕ × A). b.0) same in omega (arith, below p y refl)

  -- the place lies within the list
  pub found_within : (items : List A) (place : ℕ) (x : A) → found name_of name items ≡ Some (place, x) →
      place < length items
  found_within [] place x is = cc
  found_within (item ∷ items) place x is =
      let below : place < length items + 1 =
      within_step (bytes_eq name (name_of item)) item (found name_of name items) (length items)
      place x (found_within items) is in
      omega arith

  append_step : (same : Bool) (item : A) (rest whole : Option (ℕ × A)) (at : ℕ × A) →
      ((b : ℕ × A) → rest ≡ Some b → whole ≡ Some b) →
      step same item rest ≡ Some at →
      step same item whole ≡ Some at
  append_step true item rest whole at more is = is
  append_step false item None whole at more is = cc
  append_step false item (Some b) whole at more is =
      ap (option_map (λ c. (c.0 + 1, c.1))) (more b refl) ∙ is

  -- what is found in a front is found in the whole
  pub found-append : (items others : List A) (at : ℕ × A) → found name_of name items ≡ Some at →
      found name_of name (items ++ others) ≡ Some at
  found-append [] others at is = cc
  found-append (item ∷ items) others at is =
      append_step (bytes_eq name (name_of item)) item (found name_of name items)
      (found name_of name (items ++ others)) at (found-append items others) is

-- ---- names

pub same_name : (a b : List ℕ) → bytes_eq a b ≡ true → a ≡ b
same_name a b same = (bytes_eq-Decides a b).0 same

pub name_itself : (a : List ℕ) → bytes_eq a a ≡ true
name_itself a = (bytes_eq-Decides a a).1 refl

pub other_name : (a b c : List ℕ) → bytes_eq a b ≡ false → bytes_eq c b ≡ true → bytes_eq a c ≡ false
other_name a b c differs same = subst (λ n. bytes_eq a n ≡ false) (sym (same_name c b same)) differs

module _ {A : Type 0} (name_of : A → List ℕ) where
  -- the item alone that is found
  abbrev pub item_of : Option (ℕ × A) → Option A
  item_of = option_map (λ at. at.1)

  abbrev pub tested : Bool → A → Option (ℕ × A) → Option (ℕ × A)
  tested same item rest = if same then Some (0, item) else option_map (λ at. (at.0 + 1, at.1)) rest

  pub item_of-tested : (same : Bool) (item : A) (rest : Option (ℕ × A)) →
      item_of (tested same item rest) ≡ (if same then Some item else item_of rest)
  item_of-tested true item rest = refl
  item_of-tested false item None = refl
  item_of-tested false item (Some at) = refl

  -- an item that is found has the name
  pub found_named : (name : List ℕ) (items : List A) (place : ℕ) (x : A) →
      found name_of name items ≡ Some (place, x) → name ≡ name_of x
  found_named name items place x is = by items (ap item_of is)
    where
      by_test : (same : Bool) (item : A) (rest : Option A) → bytes_eq name (name_of item) ≡ same →
          (rest ≡ Some x → name ≡ name_of x) → (if same then Some item else rest) ≡ Some x → name ≡ name_of x
      by_test true item rest equal below here =
          let this : item ≡ x = cc in
          same_name name (name_of item) equal ∙ ap name_of this
      by_test false item rest equal below here = below here

      by : (items : List A) → item_of (found name_of name items) ≡ Some x → name ≡ name_of x
      by [] here = cc
      by (item ∷ items) here =
          by_test (bytes_eq name (name_of item)) item (item_of (found name_of name items)) refl (by items)
          (sym (item_of-tested (bytes_eq name (name_of item)) item (found name_of name items)) ∙ here)

  -- the items of other names
  abbrev pub others : A → List A → List A
  others item = filter (λ later. not (bytes_eq (name_of later) (name_of item)))

  step_others : (name : List ℕ) (item : A) (later : A) (here same : Bool) (rest whole : Option A) →
      bytes_eq name (name_of item) ≡ false → bytes_eq (name_of later) (name_of item) ≡ here →
      bytes_eq name (name_of later) ≡ same → rest ≡ whole →
      (if not here then (if same then Some later else rest) else rest) ≡ (if same then Some later else whole)
  step_others name item later true true rest whole differs is equal more =
      absurd (false≢true (sym (other_name name (name_of item) (name_of later) differs is) ∙ equal))
  step_others name item later true false rest whole differs is equal more = more
  step_others name item later false same rest whole differs is equal more =
      ap (λ r. if same then Some later else r) more

  filter_step : (keep : Bool) (later : A) (items : List A) (name : List ℕ) →
      item_of (found name_of name (if keep then later ∷ items else items))
      ≡ (if keep then (if bytes_eq name (name_of later) then Some later else item_of (found name_of name items))
      else item_of (found name_of name items))
  filter_step true later items name =
      item_of-tested (bytes_eq name (name_of later)) later (found name_of name items)
  filter_step false later items name = refl

  -- a search for another name does not see what is left out
  pub found-others : (name : List ℕ) (item : A) (items : List A) → bytes_eq name (name_of item) ≡ false →
      item_of (found name_of name (others item items)) ≡ item_of (found name_of name items)
  found-others name item [] differs = refl
  found-others name item (later ∷ items) differs =
      filter_step (not (bytes_eq (name_of later) (name_of item))) later (others item items) name
      ∙ step_others name item later (bytes_eq (name_of later) (name_of item)) (bytes_eq name (name_of later))
      (item_of (found name_of name (others item items))) (item_of (found name_of name items)) differs refl refl
      (found-others name item items differs)
      ∙ sym (item_of-tested (bytes_eq name (name_of later)) later (found name_of name items))

  first_step : (name : List ℕ) (item : A) (items : List A) (same : Bool) → bytes_eq name (name_of item) ≡ same →
      item_of (found name_of name (first_of_each name_of items)) ≡ item_of (found name_of name items) →
      (if same then Some item else item_of (found name_of name (others item (first_of_each name_of items))))
      ≡ (if same then Some item else item_of (found name_of name items))
  first_step name item items true is more = refl
  first_step name item items false is more =
      found-others name item (first_of_each name_of items) is ∙ more

  -- the first item of a name is found where each name stands once, too
  pub found-first_of_each : (name : List ℕ) (items : List A) →
      item_of (found name_of name (first_of_each name_of items)) ≡ item_of (found name_of name items)
  found-first_of_each name [] = refl
  found-first_of_each name (item ∷ items) =
      item_of-tested (bytes_eq name (name_of item)) item
      (found name_of name (others item (first_of_each name_of items)))
      ∙ first_step name item items (bytes_eq name (name_of item)) refl (found-first_of_each name items)
      ∙ sym (item_of-tested (bytes_eq name (name_of item)) item (found name_of name items))

  -- ---- how many names there are

  -- no name stands twice
  abbrev pub AreApart : List A → Type 0
  AreApart [] = Unit {0}
  AreApart (item ∷ items) = (found name_of (name_of item) items ≡ None) × AreApart items

  none_step : (same keep : Bool) (name : List ℕ) (later : A) (rest : Option (ℕ × A)) (left : List A) →
      bytes_eq name (name_of later) ≡ same → tested same later rest ≡ None →
      (rest ≡ None → found name_of name left ≡ None) →
      found name_of name (if keep then later ∷ left else left) ≡ None
  none_step true keep name later rest left is none below = cc
  none_step false keep name later None left is none below = by keep
    where
      by : (keep : Bool) → found name_of name (if keep then later ∷ left else left) ≡ None
      by true = ap (λ b. tested b later (found name_of name left)) is ∙ ap (tested false later) (below refl)
      by false = below refl
  none_step false keep name later (Some at) left is none below = cc

  -- what is not found is not found among fewer items
  none_among : (name : List ℕ) (item : A) (items : List A) → found name_of name items ≡ None →
      found name_of name (others item items) ≡ None
  none_among name item [] none = refl
  none_among name item (later ∷ items) none =
      none_step (bytes_eq name (name_of later)) (not (bytes_eq (name_of later) (name_of item))) name later
      (found name_of name items) (others item items) refl none (none_among name item items)

  itself_step : (item later : A) (left : List A) (same : Bool) → bytes_eq (name_of later) (name_of item) ≡ same →
      found name_of (name_of item) left ≡ None →
      found name_of (name_of item) (if not same then later ∷ left else left) ≡ None
  itself_step item later left true is none = none
  itself_step item later left false is none =
      ap (λ b. tested b later (found name_of (name_of item) left)) (swapped (bytes_eq (name_of item) (name_of later)) refl)
      ∙ ap (tested false later) none
    where
      swapped : (b : Bool) → bytes_eq (name_of item) (name_of later) ≡ b → b ≡ false
      swapped true equal =
          let same = same_name (name_of item) (name_of later) equal in
          absurd (false≢true (sym is ∙ ap (λ n. bytes_eq n (name_of item)) (sym same) ∙ name_itself (name_of item)))
      swapped false equal = refl

  -- an item's own name is not found among the items of other names
  none_of_itself : (item : A) (items : List A) → found name_of (name_of item) (others item items) ≡ None
  none_of_itself item [] = refl
  none_of_itself item (later ∷ items) =
      itself_step item later (others item items) (bytes_eq (name_of later) (name_of item)) refl
      (none_of_itself item items)

  apart_step : (keep : Bool) (later : A) (left : List A) → found name_of (name_of later) left ≡ None →
      AreApart left → AreApart (if keep then later ∷ left else left)
  apart_step true later left none apart = (none, apart)
  apart_step false later left none apart = apart

  apart_others : (item : A) (items : List A) → AreApart items → AreApart (others item items)
  apart_others item [] apart = tt
  apart_others item (later ∷ items) apart =
      apart_step (not (bytes_eq (name_of later) (name_of item))) later (others item items)
      (none_among (name_of later) item items apart.0) (apart_others item items apart.1)

  pub apart-first_of_each : (items : List A) → AreApart (first_of_each name_of items)
  apart-first_of_each [] = tt
  apart-first_of_each (item ∷ items) = (
    none_of_itself item (first_of_each name_of items),
    apart_others item (first_of_each name_of items) (apart-first_of_each items),
  )

  module _ (P : A → Type 0) where
    all_step : (keep : Bool) (later : A) (left : List A) → P later → AllByRecursion P left →
        AllByRecursion P (if keep then later ∷ left else left)
    all_step true later left one all = (one, all)
    all_step false later left one all = all

    all_others : (item : A) (items : List A) → AllByRecursion P items → AllByRecursion P (others item items)
    all_others item [] all = tt
    all_others item (later ∷ items) all =
        all_step (not (bytes_eq (name_of later) (name_of item))) later (others item items) all.0
        (all_others item items all.1)

    pub all-first_of_each : (items : List A) → AllByRecursion P items →
        AllByRecursion P (first_of_each name_of items)
    all-first_of_each [] all = tt
    all-first_of_each (item ∷ items) all =
        (all.0, all_others item (first_of_each name_of items) (all-first_of_each items all.1))

    last_step : (same : Bool) (item : A) (items : List A) (y : A) (place : ℕ) →
        bytes_eq (name_of y) (name_of item) ≡ same → found name_of (name_of item) items ≡ None →
        found name_of (name_of y) items ≡ Some (place, y) →
        found name_of (name_of y) (item ∷ items) ≡ Some (place + 1, y)
    last_step true item items y place is none there =
        let same = same_name (name_of y) (name_of item) is in
        let here : found name_of (name_of item) items ≡ Some (place, y) =
        ap (λ n. found name_of n items) (sym same) ∙ there in
        cc
    last_step false item items y place is none there =
        ap (λ b. tested b item (found name_of (name_of y) items)) is
        ∙ ap (tested false item) there

    -- the last of several items of different names
    last_place : (item : A) (items : List A) → AllByRecursion P (item ∷ items) → AreApart (item ∷ items) →
        (y : A) × P y × (found name_of (name_of y) (item ∷ items) ≡ Some (length items, y))
    last_place item [] all apart =
        (item, all.0, ap (λ b. tested b item None) (name_itself (name_of item)))
    last_place item (next ∷ items) all apart =
        let last = last_place next items all.1 apart.1 in
        let size : length items + 1 ≡ suc (length items) = omega arith in (
          last.0,
          last.1,
          last_step (bytes_eq (name_of last.0) (name_of item)) item (next ∷ items) last.0 (length items) refl
              apart.0 last.2
              ∙ ap (λ k. Some (k, last.0)) size,
        )

    -- Where the place of each item is below a bound, there are no more items than that.
    pub places_bound : (items : List A) (bound : ℕ) → AreApart items → AllByRecursion P items →
        ((y : A) (place : ℕ) → P y → found name_of (name_of y) items ≡ Some (place, y) → place < bound) →
        length items ≤ bound
    places_bound [] bound apart all below = omega arith
    places_bound (item ∷ items) bound apart all below =
        let last = last_place item items all apart in
        omega (arith, below last.0 (length items) last.1 last.2)
