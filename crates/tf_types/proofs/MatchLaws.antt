-- What a match binds.
use Rattle.std.specs.Prelude.{ℕ, zero, suc, ◌≡◌, ◌<◌, ◌⊎◌, Bool, true, false, IsTrue, List, [], ◌∷◌, map, length, get_or, slice_get, option_map, Option, Some, None}
use Rattle.std.proofs.Common.{refl, sym, ap, ◌∙◌, arith, inl, inr, set, ◌≢◌}
use Rattle.std.proofs.lemmas.Bool.{false≢true}
use Rattle.std.proofs.lemmas.List.{length-map, length-set, get_or-set_other}
use Rattle.std.proofs.lemmas.Option.{slice_get-map, slice_get_within, get_or_from_slice_get, same_Some, none-some}
use Rattle.tf_core.specs.declared.ty.Ty.{Ty}
use Rattle.tf_core.specs.declared.ty.Ty.TheVariants as type
use Rattle.tf_core.specs.Types.{instantiate}
use Rattle.tf_core.specs.Occurrences.{occurs_in_types}
use Rattle.tf_core.proofs.Types.{instantiate-variable}
use Rattle.tf_types.specs.declared.node.TypeId.{TypeId}
use Rattle.tf_types.specs.Numbers.{type_at}
use Rattle.tf_types.specs.Matching.{KeepsTo, Matches, IsMatch, IsBound}
use Rattle.tf_types.specs.Laws.{MatchesBindWhatOccurs}
use Rattle.tf_types.proofs.Numbers.{slice_get-set_same, slice_get-set_other}
use Rattle.tf_types.proofs.Nodes.{variable_parts}
use Rattle.tf_types.proofs.Replaced.{all_instances_same}

-- a variable is bound or free
bound_or_free : (bound : List (Option TypeId)) (i : ℕ) → i < length bound →
    IsBound bound i ⊎ (slice_get bound i ≡ Some None)
bound_or_free [] i within = absurd (omega (arith, within))
bound_or_free (None ∷ bound) zero within = inr refl
bound_or_free (Some id ∷ bound) zero within = inl (id, refl)
bound_or_free (first ∷ bound) (suc i) within = bound_or_free bound i (omega (arith, within))

module _ (types : List Ty) where
  abbrev filling : Option TypeId → Ty
  filling None = type.Var 0
  filling (Some id) = type_at types id

  -- types that keep to what is bound
  abbrev filled : List (Option TypeId) → List Ty
  filled bound = map filling bound

  KeepsTo-filled : (bound : List (Option TypeId)) → KeepsTo types bound (filled bound)
  KeepsTo-filled bound = record {
    count = length-map bound filling;
    same = λ i id at. slice_get-map filling bound i ∙ ap (λ item. option_map filling item) at;
  }

  -- a free variable may stand for any type
  KeepsTo-free : (bound : List (Option TypeId)) (instances : List Ty) (i : ℕ) (ty : Ty) →
      KeepsTo types bound instances → slice_get bound i ≡ Some None →
      KeepsTo types bound (set instances i ty)
  KeepsTo-free bound instances i ty keeps free = record {
    count = length-set instances i ty ∙ keeps.count;
    same = λ j id at. slice_get-set_other instances i j ty (elsewhere j id at) ∙ keeps.same j id at;
  }
    where
      elsewhere : (j : ℕ) (id : TypeId) → slice_get bound j ≡ Some (Some id) → j ≢ i
      elsewhere j id at here =
          none-some id (same_Some None (Some id) (sym free ∙ ap (slice_get bound) (sym here) ∙ at))

  -- what keeps to a bound variable has its type there
  fixed : (bound : List (Option TypeId)) (instances : List Ty) (i : ℕ) (ty : Ty) (id : TypeId) →
      i < length instances → KeepsTo types bound (set instances i ty) →
      slice_get bound i ≡ Some (Some id) → ty ≡ type_at types id
  fixed bound instances i ty id within keeps at =
      same_Some ty (type_at types id)
      (sym (slice_get-set_same instances i ty within) ∙ keeps.same i id at)

  -- no type is both of two variables
  one_of_both : (ty : Ty) → type.Var 0 ≡ ty → type.Var 1 ≡ ty → ⊥
  one_of_both ty first second =
      let same : 0 ≡ 1 = variable_parts 0 1 (first ∙ sym second) in omega (arith, same)

  module _ (bound : List (Option TypeId)) (patterns : List Ty) (ids : List TypeId)
      (extended : List (Option TypeId)) (matched : IsMatch types bound patterns ids (Some extended))
    where
      abbrev base : List Ty
      base = filled extended

      base_matches : Matches types bound patterns ids base
      base_matches = (matched base).0 (KeepsTo-filled extended)

      count : length base ≡ length bound
      count = base_matches.0.count

      extended_count : length extended ≡ length bound
      extended_count = sym (length-map extended filling) ∙ count

      -- any type may stand for a variable that is free in the match
      any_matches : (i : ℕ) (ty : Ty) → slice_get extended i ≡ Some None →
          Matches types bound patterns ids (set base i ty)
      any_matches i ty free =
          (matched (set base i ty)).0
          (KeepsTo-free extended base i ty (KeepsTo-filled extended) free)

      kept_bound : (i : ℕ) (id : TypeId) → slice_get bound i ≡ Some (Some id) →
          (other : TypeId) × (slice_get extended i ≡ Some (Some other))
          × (type_at types other ≡ type_at types id)
      kept_bound i id at =
          let within : i < length bound = slice_get_within bound i (Some id) at in
          elim (bound_or_free extended i (omega (arith, within, extended_count))) [
            | inl there ↦ (
              there.0,
              there.1,
              same_Some (type_at types there.0) (type_at types id)
                  (sym ((KeepsTo-filled extended).same i there.0 there.1)
                  ∙ base_matches.0.same i id at),
            )
            | inr free ↦ absurd (one_of_both (type_at types id)
                (fixed bound base i (type.Var 0) id (omega (arith, within, count))
                (any_matches i (type.Var 0) free).0 at)
                (fixed bound base i (type.Var 1) id (omega (arith, within, count))
                (any_matches i (type.Var 1) free).0 at))
          ]

      -- a variable that was free and occurs nowhere stays free
      module _ (i : ℕ) (within : i < length bound) where
        replaced : (ty : Ty) → instantiate (set base i ty) (type.Var i) ≡ ty
        replaced ty =
            instantiate-variable (set base i ty) i
            ∙ get_or_from_slice_get (set base i ty) i ty (type.Var i)
            (slice_get-set_same base i ty (omega (arith, within, count)))

        unchanged : occurs_in_types i patterns ≡ false → (ty : Ty) →
            map (instantiate (set base i ty)) patterns ≡ map (instantiate base) patterns
        unchanged absent ty =
            (all_instances_same (set base i ty) base patterns).1 (λ j is.
            instantiate-variable (set base i ty) j
            ∙ same_at j (λ here.
            false≢true (sym absent ∙ ap (λ k. occurs_in_types k patterns) (sym here) ∙ is))
            ∙ sym (instantiate-variable base j))
          where
            same_at : (j : ℕ) → j ≢ i →
                get_or (set base i ty) j (type.Var j) ≡ get_or base j (type.Var j)
            same_at j other = get_or-set_other base i j ty (type.Var j) other

        any_again : slice_get bound i ≡ Some None → occurs_in_types i patterns ≡ false → (ty : Ty) →
            KeepsTo types extended (set base i ty)
        any_again free absent ty =
            (matched (set base i ty)).1 (
              KeepsTo-free bound base i ty base_matches.0 free,
              unchanged absent ty ∙ base_matches.1,
            )

        by_occurrence : slice_get bound i ≡ Some None → (id : TypeId) →
            slice_get extended i ≡ Some (Some id) → (occurs : Bool) →
            occurs_in_types i patterns ≡ occurs →
            IsBound bound i ⊎ IsTrue (occurs_in_types i patterns)
        by_occurrence free id at true is = inr is
        by_occurrence free id at false is =
            absurd (one_of_both (type_at types id)
            (fixed extended base i (type.Var 0) id (omega (arith, within, count))
            (any_again free is (type.Var 0)) at)
            (fixed extended base i (type.Var 1) id (omega (arith, within, count))
            (any_again free is (type.Var 1)) at))

        was_bound : IsBound extended i → IsBound bound i ⊎ IsTrue (occurs_in_types i patterns)
        was_bound there =
            elim (bound_or_free bound i within) [
              | inl before ↦ inl before
              | inr free ↦ by_occurrence free there.0 there.1 (occurs_in_types i patterns) refl
            ]

        is_bound : IsBound bound i ⊎ IsTrue (occurs_in_types i patterns) → IsBound extended i
        is_bound (inl before) =
            let later = kept_bound i before.0 before.1 in (later.0, later.1)
        is_bound (inr occurs) =
            elim (bound_or_free extended i (omega (arith, within, extended_count))) [
              | inl there ↦ there
              | inr free ↦ absurd (one_of_both (type.Var 0) refl
                  (sym (replaced (type.Var 1))
                  ∙ (all_instances_same (set base i (type.Var 1)) (set base i (type.Var 0))
                  patterns).0
                  ((any_matches i (type.Var 1) free).1 ∙ sym (any_matches i (type.Var 0) free).1)
                  i occurs
                  ∙ replaced (type.Var 0)))
            ]

pub matches_bind_what_occurs : MatchesBindWhatOccurs
matches_bind_what_occurs = record {
  found = λ types bound patterns ids extended matched. (
    base types bound patterns ids extended matched,
    base_matches types bound patterns ids extended matched,
  );
  kept = kept_bound;
  binds = λ types bound patterns ids extended matched i within. (
    was_bound types bound patterns ids extended matched i within,
    is_bound types bound patterns ids extended matched i within,
  );
}
