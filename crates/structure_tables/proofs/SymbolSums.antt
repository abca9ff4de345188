-- The entries of a symbol: a sum over members for the kept parameters, group by group.
use Rattle.std.specs.Prelude.{ℕ, zero, suc, ◌≡◌, ◌<◌, ◌≤◌, ◌+◌, ◌-◌, ◌*◌, ◌^◌, Bool, true, false, not, eqb, ltb, min, List, [], ◌∷◌, map, cond, flat_map, get_or, length, replicate, slice_index}
use Rattle.std.specs.List.{All, AllByRecursion}
use Rattle.std.proofs.Common.{refl, sym, ap, subst, ◌∙◌, arith, ⊎_elim}
use Rattle.std.proofs.Math.Path.{fun_ext}
use Rattle.std.proofs.lemmas.Bool.{false≢true, cases_lt, lt-ltb, ne_eqb}
use Rattle.std.proofs.lemmas.List.Elements.{All-head, All-tail}
use Rattle.std.proofs.lemmas.List.Sums.{sum_by-cons}
use Rattle.enc_base.specs.Tables.{EachBelow, sum_below, tuple_count, total}
use Rattle.enc_base.specs.Counts.{in_64_bits}
use Rattle.tf_core.specs.declared.ty.Ty.{Ty}
use Rattle.tf_core.specs.declared.ty.Ty.TheVariants as type
use Rattle.tf_core.specs.declared.signature.Symbol.{Symbol}
use Rattle.tf_core.specs.declared.signature.Signature.{Signature}
use Rattle.tf_core.specs.Typing.{IsType, type_variable, type_apply, AreTypes, no_types, more_types, IsSymbol}
use Rattle.tf_core.specs.Structures.{Typed, member_count, member_of, size_of, IsStructure}
use Rattle.tf_core.proofs.Types.{type_value-variable, type_value-apply}
use Rattle.tf_core.proofs.Induction.{type_induction}
use Rattle.structure_tables.specs.EntryCounts.{symbol_count}
use Rattle.structure_tables.specs.ParameterSets.{bounds_of, uses_of}
use Rattle.structure_tables.specs.TypeWays.{one_at, ways_together, type_ways, sizes_of_type}
use Rattle.structure_tables.specs.ParameterGroups.{variables, group_of, group_of_type, AreParameters, AreGroups, AreUses, is_kept, is_unused, count_inside}
use Rattle.structure_tables.proofs.ChosenTuples.{Stands, bounds_of-same}
use Rattle.structure_tables.proofs.TypeVariables.{variables-variable, variables-apply, value_fixed, all_below, variables_of_types_below, All-left, All-right}
use Rattle.structure_tables.proofs.TypeWays.{type_ways-variable, type_ways-apply}
use Rattle.structure_tables.proofs.FoldedTuples.{AreOnce, IsFolded, variable_folded, application_folded}
use Rattle.structure_tables.proofs.FoldedCounts.{unused_in, total-folded}
use Rattle.structure_tables.proofs.GroupedSums.{sums_multiply, sum-all, sum-none}
use Rattle.structure_tables.proofs.CountedGroups.{done, only, groups_first, groups_more, groups_enough, groups_all}
use Rattle.structure_tables.proofs.SymbolCounts.{symbol_count-grows, tuples_some}

-- types are folded

module _ (g : Signature) (s : Typed) (fits : IsStructure g s) (kept : ℕ → Bool) (parameters : ℕ)
    (fixed : List ℕ)
    (fixed_below : (i : ℕ) → i < parameters → slice_index fixed i < member_count s)
  where
    abbrev IsFoldedType : Ty → Type 0
    IsFoldedType =
        IsFolded variables (member_of s) (type_ways s kept fixed) (member_count s) kept parameters
        fixed (λ ty xs ys agree. value_fixed s.constructor_at xs ys ty agree)

    mutual
      folded_type : (ty : Ty) → IsType g parameters ty → IsFoldedType ty
      folded_type ty (type_variable i within) =
          variable_folded variables (member_of s) (type_ways s kept fixed) (member_count s) kept
          parameters fixed (λ ty xs ys agree. value_fixed s.constructor_at xs ys ty agree)
          fixed_below (type.Var i) i (variables-variable i)
          (λ xs. type_value-variable s.constructor_at xs i)
          (λ member. type_ways-variable s kept fixed i member)
      folded_type ty (type_apply c constructor types at long formed) =
          application_folded variables (member_of s) (type_ways s kept fixed) (member_count s) kept
          parameters fixed (λ ty xs ys agree. value_fixed s.constructor_at xs ys ty agree)
          (type.Apply c types) types (s.constructor_at c) (variables-apply c types)
          (λ xs. type_value-apply s.constructor_at xs c types)
          (λ member. type_ways-apply s kept fixed c types member)
          (λ values below. fits.constructors c constructor values at
          (subst (λ n. EachBelow (replicate n (member_count s)) values) long below))
          (folded_types types formed)

      pub folded_types : (types : List Ty) → AreTypes g parameters types →
          AllByRecursion IsFoldedType types
      folded_types types no_types = tt
      folded_types types (more_types ty others formed rest) =
          (folded_type ty formed, folded_types others rest)

-- the ways of a type, by the members for its kept parameters

cond_kept : (b : Bool) (x y : ℕ) → (b ≡ true → x ≡ y) → cond b x 1 ≡ cond b y 1
cond_kept true x y same = same refl
cond_kept false x y same = refl

module _ (s : Typed) (kept : ℕ → Bool) (xs ys : List ℕ) where
  abbrev AgreeAt : List ℕ → Type 0
  AgreeAt vs = All (λ i. kept i ≡ true → slice_index xs i ≡ slice_index ys i) vs

  abbrev AreDecided : Ty → Type 0
  AreDecided ty = AgreeAt (variables ty) → type_ways s kept xs ty ≡ type_ways s kept ys ty

  types_decided : (types : List Ty) → AllByRecursion AreDecided types →
      AgreeAt (flat_map variables types) →
      map (type_ways s kept xs) types ≡ map (type_ways s kept ys) types
  types_decided [] each agree = refl
  types_decided (ty ∷ types) each agree =
      let agrees : ℕ → Type 0 = λ i. kept i ≡ true → slice_index xs i ≡ slice_index ys i in
      ap (λ w. w ∷ map (type_ways s kept xs) types)
      (each.0 (All-left agrees (variables ty) (flat_map variables types) agree))
      ∙ ap (λ ws. type_ways s kept ys ty ∷ ws)
      (types_decided types each.1 (All-right agrees (variables ty) (flat_map variables types) agree))

  ways_decided : (ty : Ty) → AreDecided ty
  ways_decided =
      type_induction AreDecided
      (λ i agree. fun_ext (λ member.
      type_ways-variable s kept xs i member
      ∙ cond_kept (kept i) (one_at (slice_index xs i) member) (one_at (slice_index ys i) member)
      (λ held. ap (λ n. one_at n member)
      (All-head (λ j. kept j ≡ true → slice_index xs j ≡ slice_index ys j) i []
      (subst AgreeAt (variables-variable i) agree) held))
      ∙ sym (type_ways-variable s kept ys i member)))
      (λ c types each agree. fun_ext (λ member.
      type_ways-apply s kept xs c types member
      ∙ ap (λ ws. total (replicate (length types) (member_count s))
      (λ values. ways_together ws values * one_at (s.constructor_at c values) member))
      (types_decided types each (subst AgreeAt (variables-apply c types) agree))
      ∙ sym (type_ways-apply s kept ys c types member)))

  pub sizes_decided : (ty : Ty) → AgreeAt (variables ty) →
      sizes_of_type s kept xs ty ≡ sizes_of_type s kept ys ty
  sizes_decided ty agree =
      ap (λ ways. sum_below (member_count s) (λ member. ways member * size_of s member))
      (ways_decided ty agree)

-- parameters that are used

unused_outside : (parameters i : ℕ) (vs : List ℕ) → All (λ v. v < parameters) vs → parameters ≤ i →
    uses_of vs i ≡ 0
unused_outside parameters i [] within out = refl
unused_outside parameters i (v ∷ vs) within out =
    let here : v < parameters = All-head (λ n. n < parameters) v vs within in
    let other : one_at i v ≡ 0 =
    ap (λ b. cond b 1 0) (ne_eqb i v (λ same. absurd (omega (arith, same, here, out)))) in
    omega (
      arith,
      sum_by-cons (λ x. cond (eqb i x) 1 0) v vs,
      other,
      unused_outside parameters i vs (All-tail (λ n. n < parameters) v vs within) out,
    )

few_when : (n : ℕ) → ltb 1 n ≡ false → n ≤ 1
few_when n few =
    ⊎_elim
    (λ more. let above : 1 < n = more in absurd (false≢true (sym few ∙ lt-ltb 1 n above)))
    (λ less. let under : n ≤ 1 = less in under)
    (cases_lt 1 n)

unused_when : (n uses : ℕ) → uses ≡ min n 2 →
    cond (ltb 1 uses) false (not (ltb 0 n)) ≡ eqb uses 0
unused_when zero uses is = ap (λ u. cond (ltb 1 u) false true) is ∙ ap (λ u. eqb u 0) (sym is)
unused_when (suc zero) uses is = ap (λ u. cond (ltb 1 u) false false) is ∙ ap (λ u. eqb u 0) (sym is)
unused_when (suc (suc n)) uses is =
    let two : uses ≡ 2 = omega (arith, is) in
    ap (λ u. cond (ltb 1 u) false (not (ltb 0 (suc (suc n))))) two ∙ ap (λ u. eqb u 0) (sym two)

members_below : (members : ℕ) (among : ℕ → Bool) (parameters : ℕ) (fixed : List ℕ) → 0 < members →
    EachBelow (bounds_of members among parameters) fixed → (i : ℕ) → i < parameters →
    slice_index fixed i < members
members_below members among zero fixed some below i within = absurd (omega (arith, within))
members_below members among (suc parameters) [] some below i within = absurd below
members_below members among (suc parameters) (value ∷ fixed) some below zero within =
    bounded (among 0) below.0
  where
    bounded : (b : Bool) → value < cond b members 1 → value < members
    bounded true inside = inside
    bounded false inside = omega (arith, inside, some)
members_below members among (suc parameters) (value ∷ fixed) some below (suc i) within =
    members_below members (λ j. among (suc j)) parameters fixed some below.1 i (omega (arith, within))

-- a symbol, its uses and its groups
module _ (g : Signature) (s : Typed) (fits : IsStructure g s) (symbol : Symbol)
    (typed : IsSymbol g symbol) (uses : List ℕ) (used : AreUses symbol uses)
  where
    abbrev kept : ℕ → Bool
    kept = is_kept uses

    abbrev occurring : List ℕ
    occurring = flat_map variables symbol.arguments

    occurring_inside : All (λ i. i < symbol.parameters) occurring
    occurring_inside = all_below g symbol.parameters symbol.arguments typed.arguments

    once : AreOnce kept occurring
    once i free =
        ⊎_elim
        (λ low. let under : i < symbol.parameters = low in
        omega (arith, few_when (slice_index uses i) free, used.are i under))
        (λ high. let over : symbol.parameters ≤ i = high in
        omega (arith, unused_outside symbol.parameters i occurring occurring_inside over))
        (cases_lt i symbol.parameters)

    abbrev pub free : ℕ
    free = tuple_count (bounds_of (member_count s) (is_unused uses) symbol.parameters)

    unused_are :
        tuple_count (bounds_of (member_count s) (unused_in kept occurring) symbol.parameters) ≡ free
    unused_are =
        ap tuple_count
        (bounds_of-same (member_count s) (unused_in kept occurring) (is_unused uses)
        symbol.parameters
        (λ i within. unused_when (uses_of occurring i) (slice_index uses i) (used.are i within)))

    folded_count : symbol_count s symbol
        ≡ free * total (bounds_of (member_count s) kept symbol.parameters)
        (λ fixed. tuple_count (map (sizes_of_type s kept fixed) symbol.arguments))
    folded_count =
        total-folded variables (member_of s) (λ fixed ty. type_ways s kept fixed ty)
        (member_count s) (size_of s) kept symbol.parameters
        (λ ty xs ys agree. value_fixed s.constructor_at xs ys ty agree)
        symbol.arguments once occurring_inside
        (λ fixed below. folded_types g s fits kept symbol.parameters fixed
        (members_below (member_count s) kept symbol.parameters fixed fits.some below)
        symbol.arguments typed.arguments)
        ∙ ap (λ n. n * total (bounds_of (member_count s) kept symbol.parameters)
        (λ fixed. tuple_count (map (sizes_of_type s kept fixed) symbol.arguments))) unused_are

    module _ (groups found : List ℕ) (grouped : AreGroups symbol groups found) where
      abbrev pub counted : (ℕ → Bool) → ℕ
      counted = count_inside s kept symbol groups

      within : All (λ ty. All (λ i. i < symbol.parameters) (variables ty)) symbol.arguments
      within = variables_of_types_below g symbol.parameters symbol.arguments typed.arguments

      multiply : (first second both : ℕ → Bool) →
          ((group : ℕ) → Stands (first group) (second group) (both group)) →
          counted both ≡ counted first * counted second
      multiply =
          sums_multiply variables (sizes_of_type s kept) (member_count s) kept symbol.parameters
          (λ ty xs ys agree. sizes_decided s kept xs ys ty agree)
          groups symbol.arguments within grouped.together

      group_within : (vs : List ℕ) → AreParameters symbol.parameters vs →
          group_of groups vs ≤ symbol.parameters
      group_within [] ranges = omega (arith, grouped.long)
      group_within (v ∷ vs) ranges =
          let here : v < length groups = omega (arith, grouped.long, ranges 0 0 (omega arith)) in
          omega (arith, grouped.long, grouped.below v 0 here)

      none : (inside : ℕ → Bool) → ((group : ℕ) → group ≤ symbol.parameters → inside group ≡ false) →
          counted inside ≡ 1
      none inside outside =
          sum-none variables (sizes_of_type s kept) (member_count s) kept symbol.parameters
          (λ ty xs ys agree. sizes_decided s kept xs ys ty agree)
          groups symbol.arguments within grouped.together inside
          (λ i low.
          let here : i < length groups = omega (arith, grouped.long, low) in
          let below : slice_index groups i < length groups = grouped.below i 0 here in
          outside (slice_index groups i) (omega (arith, grouped.long, below)))
          (λ k d low. outside (group_of_type groups (get_or symbol.arguments k d))
          (group_within (variables (get_or symbol.arguments k d)) (within k d low)))

      are : symbol_count s symbol ≡ free * counted (λ _. true)
      are =
          folded_count
          ∙ ap (λ n. free * n)
          (sym (sum-all variables (sizes_of_type s kept) (member_count s) kept symbol.parameters
          (λ ty xs ys agree. sizes_decided s kept xs ys ty agree)
          groups symbol.arguments within grouped.together))

      some : 1 ≤ symbol_count s symbol
      some =
          omega (
            arith,
            symbol_count-grows g s fits symbol typed,
            tuples_some (member_count s) symbol.parameters fits.some,
          )

      abbrev pub so_far : ℕ → ℕ
      so_far i = free * counted (done symbol.parameters i)

      pub count_first : (factor entries : ℕ) → factor ≡ in_64_bits free →
          entries ≡ in_64_bits (factor * counted (only symbol.parameters)) →
          entries ≡ in_64_bits (so_far 0)
      count_first =
          groups_first counted multiply symbol.parameters none free (symbol_count s symbol) are some

      module _ (i entries : ℕ) (counts : entries ≡ in_64_bits (so_far i)) where
        pub count_more : (more : ℕ) → i < symbol.parameters →
            more ≡ in_64_bits (entries * counted (only i)) → more ≡ in_64_bits (so_far (i + 1))
        count_more =
            groups_more counted multiply symbol.parameters none free (symbol_count s symbol) are some
            i entries counts

        pub count_enough : entries ≡ 2 ^ 64 - 1 → entries ≡ in_64_bits (symbol_count s symbol)
        count_enough =
            groups_enough counted multiply symbol.parameters none free (symbol_count s symbol) are
            some i entries counts

        pub count_whole : symbol.parameters ≤ i → entries ≡ in_64_bits (symbol_count s symbol)
        count_whole =
            groups_all counted multiply symbol.parameters none free (symbol_count s symbol) are some i
            entries counts
