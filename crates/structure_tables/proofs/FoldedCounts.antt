-- A sum over tuples of members for all parameters, by those for the kept ones.
use Rattle.std.specs.Prelude.{ℕ, zero, suc, ◌≡◌, ◌<◌, ◌*◌, Bool, true, false, not, ltb, List, ◌∷◌, map, cond, replicate, slice_index, flat_map}
use Rattle.std.specs.List.{All, AllByRecursion}
use Rattle.std.proofs.Common.{refl, sym, ap, ◌∙◌, arith, mul_comm}
use Rattle.std.proofs.lemmas.Simd.{map-map}
use Rattle.enc_base.specs.Tables.{EachBelow, sum_below, tuple_count, total}
use Rattle.structure_tables.specs.ParameterSets.{bounds_of, uses_of}
use Rattle.structure_tables.proofs.ChosenTuples.{merged}
use Rattle.structure_tables.proofs.ProductSums.{total-factor, total-each, total-const}
use Rattle.structure_tables.proofs.ChosenTuples.{Stands, in_first, in_second, in_neither, IsOf, total-split, total-product}
use Rattle.structure_tables.proofs.FoldedTuples.{AreOnce, open_in, IsFolded, all_folded, agree_around, values_agree, total-factors}

-- no set, and all parameters

pub bounds_of-all : (members parameters : ℕ) →
    bounds_of members (λ _. true) parameters ≡ replicate parameters members
bounds_of-all members zero = refl
bounds_of-all members (suc parameters) =
    ap (λ bounds. members ∷ bounds) (bounds_of-all members parameters)

-- the parameters that do not occur
abbrev pub unused_in : (ℕ → Bool) → List ℕ → ℕ → Bool
unused_in kept variables i = cond (kept i) false (not (ltb 0 (uses_of variables i)))

stands_kept : (b : Bool) → Stands b (not b) true
stands_kept true = in_first
stands_kept false = in_second

stands_unused : (b used : Bool) → Stands (cond b false used) (cond b false (not used)) (not b)
stands_unused true used = in_neither
stands_unused false true = in_first
stands_unused false false = in_second

module _ {T : Type 0} (variables : T → List ℕ) (value : List ℕ → T → ℕ)
    (ways : List ℕ → T → ℕ → ℕ) (members : ℕ) (size : ℕ → ℕ) (kept : ℕ → Bool) (parameters : ℕ)
    (by_variables : (item : T) (xs ys : List ℕ) →
    All (λ i. slice_index xs i ≡ slice_index ys i) (variables item) → value xs item ≡ value ys item)
    (items : List T) (once : AreOnce kept (flat_map variables items))
    (inside : All (λ i. i < parameters) (flat_map variables items))
    (folded : (fixed : List ℕ) → EachBelow (bounds_of members kept parameters) fixed →
    AllByRecursion
    (IsFolded variables value (ways fixed) members kept parameters fixed by_variables) items)
  where
    abbrev product_at : List ℕ → ℕ
    product_at chosen = tuple_count (map (λ item. size (value chosen item)) items)

    abbrev sums_at : List ℕ → ℕ
    sums_at fixed =
        tuple_count
        (map (λ item. sum_below members (λ member. ways fixed item member * size member)) items)

    abbrev unused : List ℕ
    unused = bounds_of members (unused_in kept (flat_map variables items)) parameters

    abbrev opens : List ℕ
    opens = bounds_of members (open_in kept (flat_map variables items)) parameters

    by_open : (fixed : List ℕ) →
        IsOf (open_in kept (flat_map variables items)) parameters
        (λ chosen. product_at (merged kept parameters fixed chosen))
    by_open fixed xs ys agree =
        let first : List ℕ = merged kept parameters fixed xs in
        let second : List ℕ = merged kept parameters fixed ys in
        ap tuple_count
        (sym (map-map size (value first) items)
        ∙ ap (map size)
        (values_agree variables value (ways fixed) members kept parameters fixed by_variables
        first second items
        (agree_around variables value (ways fixed) members kept parameters fixed by_variables
        xs ys (flat_map variables items) inside agree))
        ∙ map-map size (value second) items)

    sum_open : (fixed : List ℕ) → EachBelow (bounds_of members kept parameters) fixed →
        total opens (λ chosen. product_at (merged kept parameters fixed chosen)) ≡ sums_at fixed
    sum_open fixed below =
        total-each opens (λ chosen. product_at (merged kept parameters fixed chosen))
        (λ chosen. tuple_count (map size (map (value (merged kept parameters fixed chosen)) items)))
        (λ chosen _. ap tuple_count (sym (map-map size (value (merged kept parameters fixed chosen)) items)))
        ∙ all_folded variables value (ways fixed) members kept parameters fixed by_variables items
        (folded fixed below) once inside (λ values. tuple_count (map size values))
        ∙ total-factors (ways fixed) members size items

    sum_others : (fixed : List ℕ) → EachBelow (bounds_of members kept parameters) fixed →
        total (bounds_of members (λ i. not (kept i)) parameters)
        (λ chosen. product_at (merged kept parameters fixed chosen))
        ≡ tuple_count unused * sums_at fixed
    sum_others fixed below =
        total-each (bounds_of members (λ i. not (kept i)) parameters)
        (λ chosen. product_at (merged kept parameters fixed chosen))
        (λ chosen. product_at (merged kept parameters fixed chosen) * 1)
        (λ chosen _. sym (times_one (product_at (merged kept parameters fixed chosen))))
        ∙ total-product members (open_in kept (flat_map variables items))
        (unused_in kept (flat_map variables items)) (λ i. not (kept i))
        (λ i. stands_unused (kept i) (ltb 0 (uses_of (flat_map variables items) i))) parameters
        (λ chosen. product_at (merged kept parameters fixed chosen)) (λ _. 1)
        (by_open fixed) (λ xs ys _. refl)
        ∙ ap (λ n. n * total unused (λ _. 1)) (sum_open fixed below)
        ∙ ap (λ n. sums_at fixed * n) (total-const unused 1 ∙ times_one (tuple_count unused))
        ∙ mul_comm (sums_at fixed) (tuple_count unused)
      where
        times_one : (n : ℕ) → n * 1 ≡ n
        times_one n = omega arith

    pub total-folded :
        total (replicate parameters members) product_at
        ≡ tuple_count unused * total (bounds_of members kept parameters) sums_at
    total-folded =
        ap (λ bounds. total bounds product_at) (sym (bounds_of-all members parameters))
        ∙ total-split members kept (λ i. not (kept i)) (λ _. true) (λ i. stands_kept (kept i))
        parameters product_at
        ∙ total-each (bounds_of members kept parameters)
        (λ fixed. total (bounds_of members (λ i. not (kept i)) parameters)
        (λ chosen. product_at (merged kept parameters fixed chosen)))
        (λ fixed. tuple_count unused * sums_at fixed)
        sum_others
        ∙ total-factor (bounds_of members kept parameters) (tuple_count unused) sums_at
