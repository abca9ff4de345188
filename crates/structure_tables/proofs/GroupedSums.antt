-- Sums over the members for kept parameters, group by group.
use Rattle.std.specs.Prelude.{ℕ, ◌≡◌, ◌<◌, ◌*◌, Bool, true, false, List, [], ◌∷◌, map, cond, get_or, slice_index}
use Rattle.std.specs.List.{All}
use Rattle.std.proofs.Common.{refl, ap, ◌∙◌, arith}
use Rattle.std.proofs.lemmas.List.Elements.{All-head, All-tail}
use Rattle.enc_base.specs.Tables.{tuple_count, total}
use Rattle.structure_tables.specs.ParameterSets.{bounds_of}
use Rattle.structure_tables.specs.ParameterGroups.{group_of, AreTogether, kept_inside}
use Rattle.structure_tables.proofs.ProductSums.{total-each}
use Rattle.structure_tables.proofs.ChosenTuples.{Stands, in_neither, by_standing, AgreeInside, IsOf, total-product, total-outside, bounds_of-same}

cond_agrees : (b : Bool) (x y : ℕ) → (b ≡ true → x ≡ y) → cond b x 1 ≡ cond b y 1
cond_agrees true x y same = same refl
cond_agrees false x y same = refl

true_when : (b held : Bool) → b ≡ true → held ≡ true → cond b held false ≡ true
true_when b held is so = ap (λ c. cond c held false) is ∙ so

stands_inside : (b first second both : Bool) → Stands first second both →
    Stands (cond b first false) (cond b second false) (cond b both false)
stands_inside true first second both stands = stands
stands_inside false first second both stands = in_neither

false_inside : (b held : Bool) → held ≡ false → cond b held false ≡ false
false_inside true held is = is
false_inside false held is = refl

always_inside : (b : Bool) → cond b true false ≡ b
always_inside true = refl
always_inside false = refl

-- items with variables, and weights that kept parameters decide
module _ {T : Type 0} (variables : T → List ℕ) (weight : List ℕ → T → ℕ) (members : ℕ)
    (kept : ℕ → Bool) (parameters : ℕ)
    (by_kept : (item : T) (xs ys : List ℕ) →
    All (λ i. kept i ≡ true → slice_index xs i ≡ slice_index ys i) (variables item) →
    weight xs item ≡ weight ys item)
    (groups : List ℕ) (items : List T)
    (below : All (λ item. All (λ i. i < parameters) (variables item)) items)
    (together : All (λ item. AreTogether groups (variables item)) items)
  where
    abbrev group_at : T → ℕ
    group_at item = group_of groups (variables item)

    abbrev weights : (ℕ → Bool) → List T → List ℕ → ℕ
    weights inside some chosen =
        tuple_count (map (λ item. cond (inside (group_at item)) (weight chosen item) 1) some)

    -- the sum over the groups inside a set
    abbrev pub sum_inside : (ℕ → Bool) → ℕ
    sum_inside inside =
        total (bounds_of members (kept_inside kept groups inside) parameters) (weights inside items)

    weights_multiply : (first second both : ℕ → Bool) →
        ((group : ℕ) → Stands (first group) (second group) (both group)) →
        (some : List T) (chosen : List ℕ) →
        weights both some chosen ≡ weights first some chosen * weights second some chosen
    weights_multiply first second both split [] chosen = refl
    weights_multiply first second both split (item ∷ some) chosen =
        let n : ℕ = weight chosen item in
        let firsts : ℕ = weights first some chosen in
        let seconds : ℕ = weights second some chosen in
        ap (λ m. cond (both (group_at item)) n 1 * m)
        (weights_multiply first second both split some chosen)
        ∙ by_standing
        (λ a b c. cond c n 1 * (firsts * seconds) ≡ cond a n 1 * firsts * (cond b n 1 * seconds))
        (in_front n firsts seconds) (behind n firsts seconds) (alone firsts seconds)
        (first (group_at item)) (second (group_at item)) (both (group_at item))
        (split (group_at item))
      where
        in_front : (n a b : ℕ) → n * (a * b) ≡ n * a * (1 * b)
        in_front n a b = grind arith

        behind : (n a b : ℕ) → n * (a * b) ≡ 1 * a * (n * b)
        behind n a b = grind arith

        alone : (a b : ℕ) → 1 * (a * b) ≡ 1 * a * (1 * b)
        alone a b = grind arith

    weights_agree : (inside : ℕ → Bool) (xs ys : List ℕ) →
        AgreeInside (kept_inside kept groups inside) parameters xs ys → (some : List T) →
        All (λ item. All (λ i. i < parameters) (variables item)) some →
        All (λ item. AreTogether groups (variables item)) some →
        weights inside some xs ≡ weights inside some ys
    weights_agree inside xs ys agree [] within grouped = refl
    weights_agree inside xs ys agree (item ∷ some) within grouped =
        let here = All-head (λ it. All (λ i. i < parameters) (variables it)) item some within in
        let as_one = All-head (λ it. AreTogether groups (variables it)) item some grouped in
        ap (λ n. n * weights inside some xs)
        (cond_agrees (inside (group_at item)) (weight xs item) (weight ys item)
        (λ is. by_kept item xs ys
        (λ k d low held. agree (get_or (variables item) k d) (here k d low)
        (true_when (kept (get_or (variables item) k d))
        (inside (slice_index groups (get_or (variables item) k d))) held
        (ap inside (as_one k d low) ∙ is)))))
        ∙ ap (λ n. cond (inside (group_at item)) (weight ys item) 1 * n)
        (weights_agree inside xs ys agree some
        (All-tail (λ it. All (λ i. i < parameters) (variables it)) item some within)
        (All-tail (λ it. AreTogether groups (variables it)) item some grouped))

    by_groups : (inside : ℕ → Bool) →
        IsOf (kept_inside kept groups inside) parameters (weights inside items)
    by_groups inside xs ys agree = weights_agree inside xs ys agree items below together

    pub sums_multiply : (first second both : ℕ → Bool) →
        ((group : ℕ) → Stands (first group) (second group) (both group)) →
        sum_inside both ≡ sum_inside first * sum_inside second
    sums_multiply first second both split =
        total-each (bounds_of members (kept_inside kept groups both) parameters)
        (weights both items) (λ chosen. weights first items chosen * weights second items chosen)
        (λ chosen _. weights_multiply first second both split items chosen)
        ∙ total-product members (kept_inside kept groups first) (kept_inside kept groups second)
        (kept_inside kept groups both)
        (λ i. stands_inside (kept i) (first (slice_index groups i)) (second (slice_index groups i))
        (both (slice_index groups i)) (split (slice_index groups i)))
        parameters (weights first items) (weights second items) (by_groups first) (by_groups second)

    -- the sum over all groups
    pub sum-all : sum_inside (λ _. true)
        ≡ total (bounds_of members kept parameters) (λ chosen. tuple_count (map (weight chosen) items))
    sum-all =
        ap (λ bounds. total bounds (λ chosen. tuple_count (map (weight chosen) items)))
        (bounds_of-same members (kept_inside kept groups (λ _. true)) kept parameters
        (λ i _. always_inside (kept i)))

    -- the sum over no group
    pub sum-none : (inside : ℕ → Bool) → ((i : ℕ) → i < parameters → inside (slice_index groups i) ≡ false) →
        All (λ item. inside (group_at item) ≡ false) items → sum_inside inside ≡ 1
    sum-none inside outside none =
        ap (λ bounds. total bounds (weights inside items))
        (bounds_of-same members (kept_inside kept groups inside) (λ _. false) parameters
        (λ i within. false_inside (kept i) (inside (slice_index groups i)) (outside i within)))
        ∙ total-each (bounds_of members (λ _. false) parameters) (weights inside items) (λ _. 1)
        (λ chosen _. weightless items none chosen)
        ∙ total-outside members (λ _. false) parameters 1 (λ _. refl)
      where
        weightless : (some : List T) → All (λ item. inside (group_at item) ≡ false) some →
            (chosen : List ℕ) → weights inside some chosen ≡ 1
        weightless [] outer chosen = refl
        weightless (item ∷ some) outer chosen =
            ap (λ b. cond b (weight chosen item) 1 * weights inside some chosen)
            (All-head (λ it. inside (group_at it) ≡ false) item some outer)
            ∙ ap (λ n. 1 * n)
            (weightless some (All-tail (λ it. inside (group_at it) ≡ false) item some outer) chosen)
