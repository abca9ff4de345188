-- Matching of several types, one after another.
use Rattle.std.specs.Prelude.{ℕ, ◌≡◌, ◌<◌, ◌≤◌, ◌+◌, ◌↔◌, Bool, true, false, List, [], ◌∷◌, ◌++◌, map, length, take, get_or, Option, Some, None}
use Rattle.std.proofs.Common.{refl, sym, ap, ◌∙◌}
use Rattle.std.proofs.lemmas.Bool.{false≢true}
use Rattle.std.proofs.lemmas.List.{length-map, take_all, take-map, map_more, same_from_push}
use Rattle.tf_core.specs.declared.ty.Ty.{Ty}
use Rattle.tf_core.specs.Types.{instantiate}
use Rattle.tf_types.specs.declared.node.TypeId.{TypeId}
use Rattle.tf_types.specs.Numbers.{type_at}
use Rattle.tf_types.specs.Matching.{KeepsTo, AreBound, IsMatch, Narrows}

module _ (types patterns : List Ty) (ids : List TypeId) (before : List (Option TypeId)) where
  -- the first of the patterns are matched
  pub record IsSoFar (i : ℕ) (now : List (Option TypeId)) : Type 0 where
    pub bound : AreBound types now
    pub exact : (instances : List Ty) →
        (KeepsTo types before instances
        × (map (instantiate instances) (take i patterns) ≡ map (type_at types) (take i ids)))
        ↔ KeepsTo types now instances

  pub IsSoFar-nothing : AreBound types before → IsSoFar 0 before
  IsSoFar-nothing numbers = record {
    bound = numbers;
    exact = λ instances. (λ both. both.0, λ keeps. (keeps, refl));
  }

  pub IsMatch-all : (i : ℕ) (now : List (Option TypeId)) → IsSoFar i now → length patterns ≤ i →
      length ids ≤ i → IsMatch types before patterns ids (Some now)
  IsMatch-all i now so_far within ids_within instances = (
    λ keeps.
        let both = (so_far.exact instances).1 keeps in
        (both.0, sym all_patterns ∙ both.1 ∙ all_ids),
    λ both. (so_far.exact instances).0 (both.0, all_patterns ∙ both.1 ∙ sym all_ids),
  )
    where
      all_patterns : map (instantiate instances) (take i patterns)
          ≡ map (instantiate instances) patterns
      all_patterns = ap (map (instantiate instances)) (take_all i patterns within)

      all_ids : map (type_at types) (take i ids) ≡ map (type_at types) ids
      all_ids = ap (map (type_at types)) (take_all i ids ids_within)

  pub IsMatch-lengths : (length patterns ≡ length ids → ⊥) → IsMatch types before patterns ids None
  IsMatch-lengths differ instances both =
      differ (sym (length-map patterns (instantiate instances)) ∙ ap length both.1
      ∙ length-map ids (type_at types))

  module _ (i : ℕ) (now later : List (Option TypeId)) (so_far : IsSoFar i now) (pattern : Ty)
      (default : TypeId) (is : pattern ≡ get_or patterns i pattern)
      (within : i < length patterns) (id_within : i < length ids) (found : Bool)
      (matched : Narrows types now
      (λ instances. instantiate instances pattern ≡ type_at types (get_or ids i default))
      found later)
    where
      abbrev id : TypeId
      id = get_or ids i default

      more_patterns : (instances : List Ty) →
          map (instantiate instances) (take (i + 1) patterns)
          ≡ map (instantiate instances) (take i patterns) ++ instantiate instances pattern ∷ []
      more_patterns instances =
          let inst : Ty → Ty = instantiate instances in
          map_more inst patterns i pattern within
          ∙ ap (λ ty. map inst (take i patterns) ++ inst ty ∷ []) (sym is)

      more_ids : map (type_at types) (take (i + 1) ids)
          ≡ map (type_at types) (take i ids) ++ type_at types id ∷ []
      more_ids = map_more (type_at types) ids i default id_within

      parts : (instances : List Ty) →
          map (instantiate instances) (take (i + 1) patterns)
          ≡ map (type_at types) (take (i + 1) ids) →
          (map (instantiate instances) (take i patterns) ≡ map (type_at types) (take i ids))
          × (instantiate instances pattern ≡ type_at types id)
      parts instances same =
          same_from_push (map (instantiate instances) (take i patterns))
          (map (type_at types) (take i ids)) (instantiate instances pattern) (type_at types id)
          (sym (more_patterns instances) ∙ same ∙ more_ids)

      pub IsMatch-no_more : found ≡ false → IsMatch types before patterns ids None
      IsMatch-no_more is_not instances both =
          let pieces = parts instances
          (sym (take-map (instantiate instances) (i + 1) patterns) ∙ ap (take (i + 1)) both.1
          ∙ take-map (type_at types) (i + 1) ids) in
          false≢true (sym is_not
          ∙ ((matched instances).0 ((so_far.exact instances).0 (both.0, pieces.0), pieces.1)).0)

      pub IsSoFar-more : found ≡ true → AreBound types later → IsSoFar (i + 1) later
      IsSoFar-more holds numbers = record {
        bound = numbers;
        exact = λ instances. (
          λ both.
              let pieces = parts instances both.1 in
              ((matched instances).0 ((so_far.exact instances).0 (both.0, pieces.0), pieces.1)).1,
          λ keeps.
              let rest = (matched instances).1 (holds, keeps) in
              let early = (so_far.exact instances).1 rest.0 in (
                early.0,
                more_patterns instances
                    ∙ ap (λ front. front ++ instantiate instances pattern ∷ []) early.1
                    ∙ ap (λ ty. map (type_at types) (take i ids) ++ ty ∷ []) rest.1
                    ∙ sym more_ids,
              ),
        );
      }
