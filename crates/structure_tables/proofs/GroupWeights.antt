-- The groups of a symbol, as code counts them.
use Rattle.std.specs.Prelude.{ℕ, zero, suc, ◌≡◌, ◌<◌, ◌+◌, ◌*◌, Bool, true, false, List, [], ◌∷◌, ◌++◌, map, length, replicate, take, cond, eqb, get_or}
use Rattle.std.proofs.Common.{refl, sym, ap, subst, ◌∙◌, arith}
use Rattle.std.proofs.lemmas.Bool.{eq-eqb, ne_eqb}
use Rattle.std.proofs.lemmas.List.{length-map, take-map}
use Rattle.enc_base.specs.Tables.{EachBelow, tuple_count}
use Rattle.enc_base.specs.Counts.{in_64_bits}
use Rattle.enc_base.proofs.Placing.{get_or-mapped}
use Rattle.tf_core.specs.declared.ty.Ty.{Ty}
use Rattle.tf_core.specs.Structures.{Typed, member_count}
use Rattle.structure_tables.specs.ParameterSets.{bounds_of}
use Rattle.structure_tables.specs.TypeWays.{sizes_of_type}
use Rattle.structure_tables.specs.ParameterGroups.{group_of_type, sizes_inside}
use Rattle.structure_tables.proofs.Counting.{factor_more}
use Rattle.structure_tables.proofs.ChosenTuples.{bounds_of-more}
use Rattle.structure_tables.proofs.CountedAlike.{alike_products, alike_itself}
use Rattle.structure_tables.proofs.CountedGroups.{only}

-- a bound more
pub bound_more : (members : ℕ) (among : ℕ → Bool) (i bound : ℕ) (bounds after : List ℕ) →
    bounds ≡ bounds_of members among i → bound ≡ cond (among i) members 1 →
    after ≡ bounds ++ bound ∷ [] → after ≡ bounds_of members among (i + 1)
bound_more members among i bound bounds after so_far is pushed =
    let next : suc i ≡ i + 1 = omega arith in
    pushed
    ∙ ap (λ bs. bs ++ bound ∷ []) so_far
    ∙ ap (λ n. bounds_of members among i ++ n ∷ []) is
    ∙ sym (bounds_of-more members among i)
    ∙ ap (bounds_of members among) next

-- the bounds as code has them
pub bounds_are : (s : Typed) (among : ℕ → Bool) (parameters long : ℕ) (sizes bounds lent : List ℕ) →
    sizes ≡ s.sizes → long ≡ parameters → bounds ≡ bounds_of (length sizes) among long →
    lent ≡ bounds → lent ≡ bounds_of (member_count s) among parameters
bounds_are s among parameters long sizes bounds lent same counted are is =
    is ∙ are ∙ ap (λ ss. bounds_of (length ss) among long) same
    ∙ ap (bounds_of (member_count s) among) counted

pub first_chosen : (members : ℕ) (among : ℕ → Bool) (parameters : ℕ) → 0 < members →
    EachBelow (bounds_of members among parameters)
    (replicate (length (bounds_of members among parameters)) 0)
first_chosen members among zero some = tt
first_chosen members among (suc parameters) some =
    (inside (among 0), first_chosen members (λ i. among (suc i)) parameters some)
  where
    inside : (b : Bool) → 0 < cond b members 1
    inside true = some
    inside false = omega arith

-- members for the parameters of a set are members
pub EachBelow-chosen : (members : ℕ) (among : ℕ → Bool) (parameters : ℕ) (values : List ℕ) →
    0 < members → EachBelow (bounds_of members among parameters) values →
    EachBelow (replicate parameters members) values
EachBelow-chosen members among zero values some below = below
EachBelow-chosen members among (suc parameters) [] some below = absurd below
EachBelow-chosen members among (suc parameters) (value ∷ values) some below =
    (inside (among 0) below.0, EachBelow-chosen members (λ i. among (suc i)) parameters values some below.1)
  where
    inside : (b : Bool) → value < cond b members 1 → value < members
    inside true within = within
    inside false within = omega (arith, within, some)

-- the sizes of an argument type more
module _ (s : Typed) (kept : ℕ → Bool) (arguments : List Ty) (groups found members : List ℕ)
    (group i tuples : ℕ) (ty : Ty) (are : found ≡ map (group_of_type groups) arguments)
    (within : i < length arguments) (is : ty ≡ get_or arguments i ty)
    (so_far : tuples
    ≡ in_64_bits (tuple_count (sizes_inside s kept (take i arguments) groups (only group) members)))
  where
    abbrev weight_at : Ty → ℕ
    weight_at t = cond (eqb (group_of_type groups t) group) (sizes_of_type s kept members t) 1

    found_at : get_or found i 0 ≡ group_of_type groups ty
    found_at =
        ap (λ gs. get_or gs i 0) are ∙ get_or-mapped (group_of_type groups) arguments i ty within is

    factor : (n : ℕ) → n ≡ weight_at ty →
        in_64_bits (tuples * n) ≡ in_64_bits (tuple_count (map weight_at (take (i + 1) arguments)))
    factor n same =
        factor_more (map weight_at arguments) i n tuples
        (subst (λ k. i < k) (sym (length-map arguments weight_at)) within)
        (same ∙ sym (get_or-mapped weight_at arguments i ty within is))
        (so_far ∙ ap (λ ns. in_64_bits (tuple_count ns)) (sym (take-map weight_at i arguments)))
        ∙ ap (λ ns. in_64_bits (tuple_count ns)) (take-map weight_at (i + 1) arguments)

    pub size_counted : (more : ℕ) → get_or found i 0 ≡ group →
        more ≡ in_64_bits (sizes_of_type s kept members ty) →
        in_64_bits (tuples * more)
        ≡ in_64_bits (tuple_count (sizes_inside s kept (take (i + 1) arguments) groups (only group)
        members))
    size_counted more here same =
        alike_products tuples tuples more (sizes_of_type s kept members ty) refl
        (ap in_64_bits same ∙ alike_itself (sizes_of_type s kept members ty))
        ∙ factor (sizes_of_type s kept members ty)
        (ap (λ b. cond b (sizes_of_type s kept members ty) 1)
        (sym (eq-eqb (group_of_type groups ty) group (sym found_at ∙ here))))

    pub size_passed : (get_or found i 0 ≡ group → ⊥) →
        tuples
        ≡ in_64_bits (tuple_count (sizes_inside s kept (take (i + 1) arguments) groups (only group)
        members))
    size_passed differs =
        let one : tuples ≡ in_64_bits (tuples * 1) = omega (arith, so_far) in
        one
        ∙ factor 1
        (ap (λ b. cond b (sizes_of_type s kept members ty) 1)
        (sym (ne_eqb (group_of_type groups ty) group (λ same. differs (found_at ∙ same)))))
