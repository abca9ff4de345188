-- Sums over tuples of members, of functions of values with parameters of their own.
use Rattle.std.specs.Prelude.{ℕ, zero, suc, ◌≡◌, ◌<◌, ◌≤◌, ◌+◌, ◌*◌, Bool, true, false, eqb, ltb, List, [], ◌∷◌, ◌++◌, map, cond, length, replicate, slice_index, slice_index_or, flat_map}
use Rattle.std.specs.List.{All, AllByRecursion}
use Rattle.std.proofs.Common.{refl, sym, ap, ◌∙◌, arith, mul_comm, subst, ⊎_elim}
use Rattle.std.proofs.lemmas.Bool.{cases_eq, eq-eqb, ne_eqb, lt-ltb}
use Rattle.std.proofs.lemmas.List.Sums.{sum_by-append, sum_by-cons}
use Rattle.enc_base.specs.Tables.{EachBelow, sum_below, tuple_count, total}
use Rattle.enc_base.proofs.Tables.{sum_below-same}
use Rattle.structure_tables.specs.ParameterSets.{bounds_of, uses_of}
use Rattle.structure_tables.proofs.ChosenTuples.{merged}
use Rattle.structure_tables.specs.TypeWays.{one_at, ways_together}
use Rattle.structure_tables.proofs.ProductSums.{total-swap, total-factor, total-each, sum_below-factor}
use Rattle.structure_tables.proofs.ChosenTuples.{Stands, in_first, in_second, in_neither, total-split, total-outside, total-at, merged-at, merged-first, merged-second}
use Rattle.structure_tables.proofs.TypeVariables.{All-left, All-right}
use Rattle.std.proofs.lemmas.List.Elements.{All-head}

-- one summand alone

sum_below-none : (bound : ℕ) (f : ℕ → ℕ) → ((n : ℕ) → n < bound → f n ≡ 0) → sum_below bound f ≡ 0
sum_below-none zero f each = refl
sum_below-none (suc bound) f each =
    omega (
      arith,
      each bound (omega arith),
      sum_below-none bound f (λ n within. each n (omega (arith, within))),
    )

zero_times : (b : Bool) (n : ℕ) → b ≡ false → cond b 1 0 * n ≡ 0
zero_times b n is = ap (λ c. cond c 1 0 * n) is ∙ omega arith

one_times : (b : Bool) (n : ℕ) → b ≡ true → cond b 1 0 * n ≡ n
one_times b n is = ap (λ c. cond c 1 0 * n) is ∙ omega arith

pub sum_below-one : (bound number : ℕ) (f : ℕ → ℕ) → number < bound →
    sum_below bound (λ n. one_at number n * f n) ≡ f number
sum_below-one zero number f within = absurd (omega (arith, within))
sum_below-one (suc bound) number f within =
    ⊎_elim
    (λ same.
    let last : number ≡ bound = same in
    omega (
      arith,
      sum_below-none bound (λ n. one_at number n * f n)
          (λ n below. zero_times (eqb number n) (f n)
          (ne_eqb number n (λ is. absurd (omega (arith, is, last, below))))),
      one_times (eqb number bound) (f bound) (eq-eqb number bound last),
      ap f last,
    ))
    (λ differs.
    let other : number ≡ bound → ⊥ = differs in
    omega (
      arith,
      sum_below-one bound number f (omega (arith, within, other)),
      zero_times (eqb number bound) (f bound) (ne_eqb number bound other),
    ))
    (cases_eq number bound)

-- parameters that occur

-- each parameter that is not kept occurs once at most
abbrev pub AreOnce : (ℕ → Bool) → List ℕ → Type 0
AreOnce kept variables = (i : ℕ) → kept i ≡ false → uses_of variables i ≤ 1

-- the parameters that occur and are not kept
abbrev pub open_in : (ℕ → Bool) → List ℕ → ℕ → Bool
open_in kept variables i = cond (kept i) false (ltb 0 (uses_of variables i))

uses_of-cons : (first : ℕ) (others : List ℕ) (i : ℕ) →
    uses_of (first ∷ others) i ≡ one_at i first + uses_of others i
uses_of-cons first others i = sum_by-cons (λ x. cond (eqb i x) 1 0) first others

uses_of-append : (xs ys : List ℕ) (i : ℕ) → uses_of (xs ++ ys) i ≡ uses_of xs i + uses_of ys i
uses_of-append xs ys i = sum_by-append (λ x. cond (eqb i x) 1 0) xs ys

pub once_first : (kept : ℕ → Bool) (xs ys : List ℕ) → AreOnce kept (xs ++ ys) → AreOnce kept xs
once_first kept xs ys once i free = omega (arith, once i free, uses_of-append xs ys i)

pub once_second : (kept : ℕ → Bool) (xs ys : List ℕ) → AreOnce kept (xs ++ ys) → AreOnce kept ys
once_second kept xs ys once i free = omega (arith, once i free, uses_of-append xs ys i)

stands_counted : (a b : ℕ) → a + b ≤ 1 → Stands (ltb 0 a) (ltb 0 b) (ltb 0 (a + b))
stands_counted zero zero few = in_neither
stands_counted zero (suc zero) few = in_second
stands_counted zero (suc (suc b)) few = absurd (omega (arith, few))
stands_counted (suc zero) zero few = in_first
stands_counted (suc zero) (suc b) few = absurd (omega (arith, few))
stands_counted (suc (suc a)) b few = absurd (omega (arith, few))

pub stands_open : (kept : ℕ → Bool) (xs ys : List ℕ) → AreOnce kept (xs ++ ys) → (i : ℕ) →
    Stands (open_in kept xs i) (open_in kept ys i) (open_in kept (xs ++ ys) i)
stands_open kept xs ys once i =
    either (kept i) (uses_of xs i) (uses_of ys i) (uses_of (xs ++ ys) i) (uses_of-append xs ys i)
    (once i)
  where
    either : (b : Bool) (n m all : ℕ) → all ≡ n + m → (b ≡ false → all ≤ 1) →
        Stands (cond b false (ltb 0 n)) (cond b false (ltb 0 m)) (cond b false (ltb 0 all))
    either true n m all is few = in_neither
    either false n m all is few =
        subst (λ k. Stands (ltb 0 n) (ltb 0 m) (ltb 0 k)) (sym is)
        (stands_counted n m (omega (arith, is, few refl)))

pub used_at : (variables : List ℕ) (k d : ℕ) → k < length variables →
    1 ≤ uses_of variables (slice_index_or variables k d)
used_at [] k d within = absurd (omega (arith, within))
used_at (first ∷ variables) zero d within =
    let here : one_at first first ≡ 1 = ap (λ b. cond b 1 0) (eq-eqb first first refl) in
    omega (arith, here, uses_of-cons first variables first)
used_at (first ∷ variables) (suc k) d within =
    omega (
      arith,
      used_at variables k d (omega (arith, within)),
      uses_of-cons first variables (slice_index_or variables k d),
    )

pub opened : (b : Bool) (n : ℕ) → b ≡ false → 1 ≤ n → cond b false (ltb 0 n) ≡ true
opened b n free some = ap (λ c. cond c false (ltb 0 n)) free ∙ lt-ltb 0 n (omega (arith, some))

pub closed : (b : Bool) → cond b false false ≡ false
closed true = refl
closed false = refl

picked : (b : Bool) (first second third : ℕ) → (b ≡ false → second ≡ third) →
    cond b first second ≡ cond b first third
picked true first second third same = refl
picked false first second third same = same refl

-- items with variables, values under members for them, and ways to have a value
module _ {T : Type 0} (variables : T → List ℕ) (value : List ℕ → T → ℕ) (ways : T → ℕ → ℕ)
    (members : ℕ) (kept : ℕ → Bool) (parameters : ℕ) (fixed : List ℕ)
    (by_variables : (item : T) (xs ys : List ℕ) →
    All (λ i. slice_index xs i ≡ slice_index ys i) (variables item) → value xs item ≡ value ys item)
  where
    abbrev pub around : List ℕ → List ℕ
    around chosen = merged kept parameters fixed chosen

    abbrev pub AreInside : List ℕ → Type 0
    AreInside vs = All (λ i. i < parameters) vs

    -- the sum of a function of the value, over the parameters that are not kept
    abbrev pub IsFolded : T → Type 0
    IsFolded item =
        AreOnce kept (variables item) → AreInside (variables item) → (h : ℕ → ℕ) →
        total (bounds_of members (open_in kept (variables item)) parameters)
        (λ chosen. h (value (around chosen) item))
        ≡ sum_below members (λ member. ways item member * h member)

    pub agree_around : (xs ys vs : List ℕ) → AreInside vs →
        ((i : ℕ) → i < parameters → open_in kept vs i ≡ true → slice_index xs i ≡ slice_index ys i) →
        All (λ i. slice_index (around xs) i ≡ slice_index (around ys) i) vs
    agree_around xs ys vs inside same k d within =
        let i : ℕ = slice_index_or vs k d in
        merged-at kept parameters fixed xs i (inside k d within)
        ∙ picked (kept i) (slice_index fixed i) (slice_index xs i) (slice_index ys i)
        (λ free. same i (inside k d within) (opened (kept i) (uses_of vs i) free (used_at vs k d within)))
        ∙ sym (merged-at kept parameters fixed ys i (inside k d within))

    pub values_agree : (xs ys : List ℕ) (items : List T) →
        All (λ i. slice_index xs i ≡ slice_index ys i) (flat_map variables items) →
        map (value xs) items ≡ map (value ys) items
    values_agree xs ys [] agree = refl
    values_agree xs ys (item ∷ items) agree =
        ap (λ v. v ∷ map (value xs) items)
        (by_variables item xs ys
        (All-left (λ i. slice_index xs i ≡ slice_index ys i) (variables item)
        (flat_map variables items) agree))
        ∙ ap (λ vs. value ys item ∷ vs)
        (values_agree xs ys items
        (All-right (λ i. slice_index xs i ≡ slice_index ys i) (variables item)
        (flat_map variables items) agree))

    pub all_folded : (items : List T) → AllByRecursion IsFolded items →
        AreOnce kept (flat_map variables items) → AreInside (flat_map variables items) →
        (h : List ℕ → ℕ) →
        total (bounds_of members (open_in kept (flat_map variables items)) parameters)
        (λ chosen. h (map (value (around chosen)) items))
        ≡ total (replicate (length items) members)
        (λ values. ways_together (map ways items) values * h values)
    all_folded [] each once inside h =
        total-outside members (open_in kept []) parameters (h []) (λ i. closed (kept i))
        ∙ one (h [])
      where
        one : (n : ℕ) → n ≡ 1 * n
        one n = omega arith
    all_folded (item ∷ items) each once inside h =
        let firsts : List ℕ = variables item in
        let seconds : List ℕ = flat_map variables items in
        let split = stands_open kept firsts seconds once in
        let first_bounds : List ℕ = bounds_of members (open_in kept firsts) parameters in
        let second_bounds : List ℕ = bounds_of members (open_in kept seconds) parameters in
        let rest : List ℕ = replicate (length items) members in
        let first_inside = All-left (λ i. i < parameters) firsts seconds inside in
        let second_inside = All-right (λ i. i < parameters) firsts seconds inside in
        let behind : ℕ → ℕ = λ member.
        total rest (λ values. ways_together (map ways items) values * h (member ∷ values)) in
        total-split members (open_in kept firsts) (open_in kept seconds)
        (open_in kept (firsts ++ seconds)) split parameters
        (λ chosen. h (value (around chosen) item ∷ map (value (around chosen)) items))
        ∙ total-each first_bounds
        (λ chosen. total second_bounds (λ others.
        h (value (around (merged (open_in kept firsts) parameters chosen others)) item
        ∷ map (value (around (merged (open_in kept firsts) parameters chosen others))) items)))
        (λ chosen. behind (value (around chosen) item))
        (λ chosen _. total-each second_bounds
        (λ others.
        h (value (around (merged (open_in kept firsts) parameters chosen others)) item
        ∷ map (value (around (merged (open_in kept firsts) parameters chosen others))) items))
        (λ others. h (value (around chosen) item ∷ map (value (around others)) items))
        (λ others _. let both : List ℕ = merged (open_in kept firsts) parameters chosen others in
        ap (λ v. h (v ∷ map (value (around both)) items))
        (by_variables item (around both) (around chosen)
        (agree_around both chosen firsts first_inside
        (merged-first members (open_in kept firsts) (open_in kept seconds)
        (open_in kept (firsts ++ seconds)) split parameters chosen others)))
        ∙ ap (λ vs. h (value (around chosen) item ∷ vs))
        (values_agree (around both) (around others) items
        (agree_around both others seconds second_inside
        (merged-second members (open_in kept firsts) (open_in kept seconds)
        (open_in kept (firsts ++ seconds)) split parameters chosen others))))
        ∙ all_folded items each.1 (once_second kept firsts seconds once) second_inside
        (λ values. h (value (around chosen) item ∷ values)))
        ∙ each.0 (once_first kept firsts seconds once) first_inside behind
        ∙ sum_below-same members (λ member. ways item member * behind member)
        (λ member. total rest (λ values.
        ways item member * ways_together (map ways items) values * h (member ∷ values)))
        (λ member _. sym (total-factor rest (ways item member)
        (λ values. ways_together (map ways items) values * h (member ∷ values)))
        ∙ total-each rest
        (λ values. ways item member * (ways_together (map ways items) values * h (member ∷ values)))
        (λ values. ways item member * ways_together (map ways items) values * h (member ∷ values))
        (λ values _. apart (ways item member) (ways_together (map ways items) values) (h (member ∷ values))))
      where
        apart : (a b c : ℕ) → a * (b * c) ≡ a * b * c
        apart a b c = grind arith

    module _ (fixed_below : (i : ℕ) → i < parameters → slice_index fixed i < members) where
      pub variable_folded : (item : T) (i : ℕ) → variables item ≡ i ∷ [] →
          ((xs : List ℕ) → value xs item ≡ slice_index xs i) →
          ((member : ℕ) → ways item member ≡ cond (kept i) (one_at (slice_index fixed i) member) 1) →
          IsFolded item
      variable_folded item i are is counted once inside h =
          let within : i < parameters =
          All-head (λ j. j < parameters) i [] (subst AreInside are inside) in
          let bounds : List ℕ = bounds_of members (open_in kept (variables item)) parameters in
          total-each bounds (λ chosen. h (value (around chosen) item))
          (λ chosen. h (cond (kept i) (slice_index fixed i) (slice_index chosen i)))
          (λ chosen _. ap h (is (around chosen) ∙ merged-at kept parameters fixed chosen i within))
          ∙ ap (λ vs. total (bounds_of members (open_in kept vs) parameters)
          (λ chosen. h (cond (kept i) (slice_index fixed i) (slice_index chosen i)))) are
          ∙ either (kept i) refl
          ∙ sum_below-same members
          (λ member. cond (kept i) (one_at (slice_index fixed i) member) 1 * h member)
          (λ member. ways item member * h member)
          (λ member _. ap (λ n. n * h member) (sym (counted member)))
        where
          alone : (j : ℕ) → (j ≡ i → ⊥) → uses_of (i ∷ []) j ≡ 0
          alone j differs = uses_of-cons i [] j ∙ ap (λ b. cond b 1 0 + 0) (ne_eqb j i differs)

          here : uses_of (i ∷ []) i ≡ 1
          here = uses_of-cons i [] i ∙ ap (λ b. cond b 1 0 + 0) (eq-eqb i i refl)

          outside : (j : ℕ) → (j ≡ i → ⊥) → open_in kept (i ∷ []) j ≡ false
          outside j differs =
              ap (λ n. cond (kept j) false (ltb 0 n)) (alone j differs) ∙ closed (kept j)

          either : (b : Bool) → kept i ≡ b →
              total (bounds_of members (open_in kept (i ∷ [])) parameters)
              (λ chosen. h (cond b (slice_index fixed i) (slice_index chosen i)))
              ≡ sum_below members (λ member. cond b (one_at (slice_index fixed i) member) 1 * h member)
          either true held =
              total-outside members (open_in kept (i ∷ [])) parameters (h (slice_index fixed i))
              (λ j. ⊎_elim
              (λ same. let equal : j ≡ i = same in
              ap (λ b. cond b false (ltb 0 (uses_of (i ∷ []) j))) (ap kept equal ∙ held))
              (λ differs. outside j differs)
              (cases_eq j i))
              ∙ sym (sum_below-one members (slice_index fixed i) h
              (fixed_below i (All-head (λ j. j < parameters) i [] (subst AreInside are inside))))
          either false free =
              total-at members (open_in kept (i ∷ [])) parameters i h
              (All-head (λ j. j < parameters) i [] (subst AreInside are inside))
              (opened (kept i) (uses_of (i ∷ []) i) free (omega (arith, here)))
              outside
              ∙ sum_below-same members h (λ member. 1 * h member) (λ member _. once_more (h member))
            where
              once_more : (n : ℕ) → n ≡ 1 * n
              once_more n = omega arith

    pub application_folded : (item : T) (items : List T) (f : List ℕ → ℕ) →
        variables item ≡ flat_map variables items →
        ((xs : List ℕ) → value xs item ≡ f (map (value xs) items)) →
        ((member : ℕ) → ways item member
        ≡ total (replicate (length items) members)
        (λ values. ways_together (map ways items) values * one_at (f values) member)) →
        ((values : List ℕ) → EachBelow (replicate (length items) members) values →
        f values < members) →
        AllByRecursion IsFolded items → IsFolded item
    application_folded item items f are is counted below each once inside h =
        let bounds : List ℕ = replicate (length items) members in
        let together : List ℕ → ℕ = ways_together (map ways items) in
        total-each (bounds_of members (open_in kept (variables item)) parameters)
        (λ chosen. h (value (around chosen) item))
        (λ chosen. h (f (map (value (around chosen)) items)))
        (λ chosen _. ap h (is (around chosen)))
        ∙ ap (λ vs. total (bounds_of members (open_in kept vs) parameters)
        (λ chosen. h (f (map (value (around chosen)) items)))) are
        ∙ all_folded items each (subst (AreOnce kept) are once) (subst AreInside are inside)
        (λ values. h (f values))
        ∙ total-each bounds (λ values. together values * h (f values))
        (λ values. sum_below members
        (λ member. h member * (together values * one_at (f values) member)))
        (λ values inside_bounds.
        sym (sum_below-one members (f values) (λ member. together values * h member)
        (below values inside_bounds))
        ∙ sum_below-same members (λ member. one_at (f values) member * (together values * h member))
        (λ member. h member * (together values * one_at (f values) member))
        (λ member _. turned (one_at (f values) member) (together values) (h member)))
        ∙ sym (total-swap members bounds
        (λ member values. h member * (together values * one_at (f values) member)))
        ∙ sum_below-same members
        (λ member. total bounds (λ values. h member * (together values * one_at (f values) member)))
        (λ member. ways item member * h member)
        (λ member _.
        total-factor bounds (h member) (λ values. together values * one_at (f values) member)
        ∙ ap (λ n. h member * n) (sym (counted member))
        ∙ mul_comm (h member) (ways item member))
      where
        turned : (a b c : ℕ) → a * (b * c) ≡ c * (b * a)
        turned a b c = grind arith

-- the sum of a product, one factor for each value, is the product of sums
pub total-factors : {T : Type 0} (ways : T → ℕ → ℕ) (members : ℕ) (size : ℕ → ℕ) (items : List T) →
    total (replicate (length items) members)
    (λ values. ways_together (map ways items) values * tuple_count (map size values))
    ≡ tuple_count (map (λ item. sum_below members (λ member. ways item member * size member)) items)
total-factors ways members size [] = refl
total-factors ways members size (item ∷ items) =
    let part : ℕ → ℕ = ways item in
    let together : List ℕ → ℕ = ways_together (map ways items) in
    let rest : List ℕ = replicate (length items) members in
    let product : ℕ =
    tuple_count (map (λ other. sum_below members (λ member. ways other member * size member)) items) in
    sum_below-same members
    (λ member. total rest (λ values.
    part member * together values * (size member * tuple_count (map size values))))
    (λ member. product * (part member * size member))
    (λ member _. total-each rest
    (λ values. part member * together values * (size member * tuple_count (map size values)))
    (λ values. part member * size member * (together values * tuple_count (map size values)))
    (λ values _. paired (part member) (together values) (size member) (tuple_count (map size values)))
    ∙ total-factor rest (part member * size member)
    (λ values. together values * tuple_count (map size values))
    ∙ ap (λ n. part member * size member * n) (total-factors ways members size items)
    ∙ mul_comm (part member * size member) product)
    ∙ sum_below-factor members product (λ member. part member * size member)
    ∙ mul_comm product (sum_below members (λ member. part member * size member))
  where
    paired : (a b c d : ℕ) → a * b * (c * d) ≡ a * c * (b * d)
    paired a b c d = grind arith
