-- Sums over the tuples of members for the parameters of a set.
use Rattle.std.specs.Prelude.{ℕ, zero, suc, ◌≡◌, ◌<◌, ◌+◌, ◌*◌, Bool, true, false, List, [], ◌∷◌, cond, drop, slice_index, ◌++◌}
use Rattle.std.proofs.Common.{refl, ap, ◌∙◌, arith, mul_comm}
use Rattle.std.proofs.Math.Path.{fun_ext}
use Rattle.std.proofs.lemmas.Bool.{false≢true}
use Rattle.enc_base.specs.Tables.{sum_below, total}
use Rattle.enc_base.proofs.Tables.{sum_below-same}
use Rattle.structure_tables.specs.ParameterSets.{bounds_of}
use Rattle.structure_tables.proofs.ProductSums.{total-swap, total-factor, total-each}

-- a number stands in the first set, in the second, or in neither, and else not in both together
pub data Stands : Bool → Bool → Bool → Type 0 where
  in_first : Stands true false true
  in_second : Stands false true true
  in_neither : Stands false false false

pub by_standing : (P : Bool → Bool → Bool → Type 0) → P true false true → P false true true →
    P false false false → (a b c : Bool) → Stands a b c → P a b c
by_standing P first second neither a b c in_first = first
by_standing P first second neither a b c in_second = second
by_standing P first second neither a b c in_neither = neither

-- the parameters inside a set as the first tuple has them, the others as the second
abbrev pub merged : (ℕ → Bool) → ℕ → List ℕ → List ℕ → List ℕ
merged among zero first second = []
merged among (suc parameters) first second =
    cond (among 0) (slice_index first 0) (slice_index second 0)
    ∷ merged (λ i. among (suc i)) parameters (drop 1 first) (drop 1 second)

-- one bound more
pub bounds_of-more : (members : ℕ) (among : ℕ → Bool) (parameters : ℕ) →
    bounds_of members among (suc parameters)
    ≡ bounds_of members among parameters ++ cond (among parameters) members 1 ∷ []
bounds_of-more members among zero = refl
bounds_of-more members among (suc parameters) =
    ap (λ bounds. cond (among 0) members 1 ∷ bounds)
    (bounds_of-more members (λ i. among (suc i)) parameters)

-- sets with the same parameters
pub bounds_of-same : (members : ℕ) (first second : ℕ → Bool) (parameters : ℕ) →
    ((i : ℕ) → i < parameters → first i ≡ second i) →
    bounds_of members first parameters ≡ bounds_of members second parameters
bounds_of-same members first second zero same = refl
bounds_of-same members first second (suc parameters) same =
    ap (λ b. cond b members 1 ∷ bounds_of members (λ i. first (suc i)) parameters)
    (same 0 (omega arith))
    ∙ ap (λ bounds. cond (second 0) members 1 ∷ bounds)
    (bounds_of-same members (λ i. first (suc i)) (λ i. second (suc i)) parameters
    (λ i within. same (suc i) (omega (arith, within))))

-- what a merged tuple has

drop_at : (values : List ℕ) (i : ℕ) → slice_index (drop 1 values) i ≡ slice_index values (suc i)
drop_at [] i = refl
drop_at (value ∷ values) i = refl

cond_of : (b : Bool) (x y u v : ℕ) → x ≡ u → y ≡ v → cond b x y ≡ cond b u v
cond_of true x y u v first second = first
cond_of false x y u v first second = second

pub merged-at : (among : ℕ → Bool) (parameters : ℕ) (first second : List ℕ) (i : ℕ) → i < parameters →
    slice_index (merged among parameters first second) i
    ≡ cond (among i) (slice_index first i) (slice_index second i)
merged-at among zero first second i within = absurd (omega (arith, within))
merged-at among (suc parameters) first second zero within = refl
merged-at among (suc parameters) first second (suc i) within =
    merged-at (λ j. among (suc j)) parameters (drop 1 first) (drop 1 second) i
    (omega (arith, within))
    ∙ cond_of (among (suc i)) (slice_index (drop 1 first) i) (slice_index (drop 1 second) i)
    (slice_index first (suc i)) (slice_index second (suc i)) (drop_at first i) (drop_at second i)

-- the sum over a set is the sum over its parts, one inside the other
pub total-split : (members : ℕ) (first second both : ℕ → Bool) →
    ((i : ℕ) → Stands (first i) (second i) (both i)) → (parameters : ℕ) (f : List ℕ → ℕ) →
    total (bounds_of members both parameters) f
    ≡ total (bounds_of members first parameters)
    (λ chosen. total (bounds_of members second parameters)
    (λ others. f (merged first parameters chosen others)))
total-split members first second both split zero f = refl
total-split members first second both split (suc parameters) f =
    let firsts : List ℕ = bounds_of members (λ i. first (suc i)) parameters in
    let seconds : List ℕ = bounds_of members (λ i. second (suc i)) parameters in
    let boths : List ℕ = bounds_of members (λ i. both (suc i)) parameters in
    let inner : ℕ → List ℕ → List ℕ → ℕ = λ value chosen others.
    f (value ∷ merged (λ i. first (suc i)) parameters chosen others) in
    let rest = λ (value : ℕ).
    total-split members (λ i. first (suc i)) (λ i. second (suc i)) (λ i. both (suc i))
    (λ i. split (suc i)) parameters (λ values. f (value ∷ values)) in
    by_standing
    (λ a b c.
    sum_below (cond c members 1) (λ value. total boths (λ values. f (value ∷ values)))
    ≡ sum_below (cond a members 1) (λ value. total firsts (λ chosen.
    sum_below (cond b members 1) (λ other. total seconds (λ others.
    inner (cond a value other) chosen others)))))
    (sum_below-same members (λ value. total boths (λ values. f (value ∷ values)))
    (λ value. total firsts (λ chosen. sum_below 1 (λ other. total seconds (inner value chosen))))
    (λ value _. rest value
    ∙ alone firsts (λ chosen. total seconds (inner value chosen))))
    (sum_below-same members (λ value. total boths (λ values. f (value ∷ values)))
    (λ value. total firsts (λ chosen. total seconds (inner value chosen)))
    (λ value _. rest value)
    ∙ total-swap members firsts (λ value chosen. total seconds (inner value chosen))
    ∙ one (total firsts (λ chosen. sum_below members (λ value. total seconds (inner value chosen)))))
    (ap (λ n. 0 + n) (rest 0) ∙ ap (λ n. 0 + n) (alone firsts (λ chosen. total seconds (inner 0 chosen))))
    (first 0) (second 0) (both 0) (split 0)
  where
    one : (n : ℕ) → n ≡ 0 + n
    one n = omega arith

    alone : (bounds : List ℕ) (g : List ℕ → ℕ) →
        total bounds g ≡ total bounds (λ chosen. sum_below 1 (λ _. g chosen))
    alone bounds g = ap (total bounds) (fun_ext (λ chosen. one (g chosen)))

-- functions of the members for the parameters inside a set

abbrev pub AgreeInside : (ℕ → Bool) → ℕ → List ℕ → List ℕ → Type 0
AgreeInside among parameters members others =
    (i : ℕ) → i < parameters → among i ≡ true → slice_index members i ≡ slice_index others i

abbrev pub IsOf : (ℕ → Bool) → ℕ → (List ℕ → ℕ) → Type 0
IsOf among parameters f =
    (members others : List ℕ) → AgreeInside among parameters members others → f members ≡ f others

outside_first : (a b c : Bool) → Stands a b c → b ≡ true → a ≡ false
outside_first =
    by_standing (λ a b c. b ≡ true → a ≡ false) (λ is. absurd (false≢true is)) (λ _. refl) (λ _. refl)

module _ (members : ℕ) (first second both : ℕ → Bool)
    (split : (i : ℕ) → Stands (first i) (second i) (both i)) (parameters : ℕ)
  where
    pub merged-first : (chosen others : List ℕ) →
        AgreeInside first parameters (merged first parameters chosen others) chosen
    merged-first chosen others i within is =
        merged-at first parameters chosen others i within
        ∙ ap (λ b. cond b (slice_index chosen i) (slice_index others i)) is

    pub merged-second : (chosen others : List ℕ) →
        AgreeInside second parameters (merged first parameters chosen others) others
    merged-second chosen others i within is =
        merged-at first parameters chosen others i within
        ∙ ap (λ b. cond b (slice_index chosen i) (slice_index others i))
        (outside_first (first i) (second i) (both i) (split i) is)

    -- the sum of a product of functions of different parameters is the product of their sums
    pub total-product : (f g : List ℕ → ℕ) → IsOf first parameters f → IsOf second parameters g →
        total (bounds_of members both parameters) (λ values. f values * g values)
        ≡ total (bounds_of members first parameters) f * total (bounds_of members second parameters) g
    total-product f g of_first of_second =
        let firsts : List ℕ = bounds_of members first parameters in
        let seconds : List ℕ = bounds_of members second parameters in
        total-split members first second both split parameters (λ values. f values * g values)
        ∙ total-each firsts
        (λ chosen. total seconds (λ others. f (merged first parameters chosen others)
        * g (merged first parameters chosen others)))
        (λ chosen. total seconds g * f chosen)
        (λ chosen _. total-each seconds
        (λ others. f (merged first parameters chosen others) * g (merged first parameters chosen others))
        (λ others. f chosen * g others)
        (λ others _.
        ap (λ n. n * g (merged first parameters chosen others))
        (of_first (merged first parameters chosen others) chosen (merged-first chosen others))
        ∙ ap (λ n. f chosen * n)
        (of_second (merged first parameters chosen others) others (merged-second chosen others)))
        ∙ total-factor seconds (f chosen) g ∙ mul_comm (f chosen) (total seconds g))
        ∙ total-factor firsts (total seconds g) f
        ∙ mul_comm (total seconds g) (total firsts f)

-- the sum over an empty set
pub total-outside : (members : ℕ) (among : ℕ → Bool) (parameters : ℕ) (c : ℕ) →
    ((i : ℕ) → among i ≡ false) → total (bounds_of members among parameters) (λ _. c) ≡ c
total-outside members among zero c none = refl
total-outside members among (suc parameters) c none =
    ap (λ b. sum_below (cond b members 1)
    (λ value. total (bounds_of members (λ i. among (suc i)) parameters) (λ _. c))) (none 0)
    ∙ omega (arith, total-outside members (λ i. among (suc i)) parameters c (λ i. none (suc i)))

-- the sum over the one parameter of a set, of a function of its member
pub total-at : (members : ℕ) (among : ℕ → Bool) (parameters i : ℕ) (f : ℕ → ℕ) → i < parameters →
    among i ≡ true → ((j : ℕ) → (j ≡ i → ⊥) → among j ≡ false) →
    total (bounds_of members among parameters) (λ values. f (slice_index values i))
    ≡ sum_below members f
total-at members among zero i f within inside outside = absurd (omega (arith, within))
total-at members among (suc parameters) zero f within inside outside =
    ap (λ b. sum_below (cond b members 1)
    (λ value. total (bounds_of members (λ j. among (suc j)) parameters) (λ _. f value))) inside
    ∙ sum_below-same members
    (λ value. total (bounds_of members (λ j. among (suc j)) parameters) (λ _. f value)) f
    (λ value _. total-outside members (λ j. among (suc j)) parameters (f value)
    (λ j. outside (suc j) (λ same. absurd (omega (arith, same)))))
total-at members among (suc parameters) (suc i) f within inside outside =
    ap (λ b. sum_below (cond b members 1)
    (λ value. total (bounds_of members (λ j. among (suc j)) parameters)
    (λ values. f (slice_index values i))))
    (outside 0 (λ same. absurd (omega (arith, same))))
    ∙ omega (
      arith,
      total-at members (λ j. among (suc j)) parameters i f (omega (arith, within)) inside
          (λ j differs. outside (suc j) (λ same. differs (omega (arith, same)))),
    )
