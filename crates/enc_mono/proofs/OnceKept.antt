-- Types that are kept each once.
use Rattle.std.specs.Prelude.{ℕ, ◌≡◌, ◌↔◌, ◌<◌, ◌≤◌, ◌+◌, ◌⊎◌, true, false, List, [], ◌∷◌, ◌++◌, map, length, take, get_or}
use Rattle.std.specs.List.{Contains}
use Rattle.std.proofs.Common.{sym, ap, subst, ◌∙◌, arith, inl, inr}
use Rattle.std.proofs.lemmas.List.{take_more, take_all}
use Rattle.std.proofs.lemmas.List.Elements.{Contains-append_left, Contains-push, Contains-push_cases, Contains-get_or}
use Rattle.std.proofs.lemmas.Option.{same_Some}
use Rattle.tf_core.specs.declared.ty.Ty.{Ty}
use Rattle.tf_core.specs.declared.nnf.Nnf.{Nnf}
use Rattle.tf_types.specs.declared.node.TypeId.{TypeId}
use Rattle.tf_types.specs.Numbers.{Denotes, Extends}
use Rattle.tf_types.proofs.Numbers.{Denotes-extended}
use Rattle.enc_mono.specs.Instances.{symbol_instances}
use Rattle.enc_mono.specs.Calls.Numbered.{as_type, ArePatterns, Lists}
use Rattle.enc_mono.specs.Calls.Searched.{IsPut}
use Rattle.enc_mono.proofs.Totals.{read_from, is_read}

-- the first types were kept each once, and the numbers are theirs
pub record AreOnce (types : List Ty) (k : ℕ) (table : List Ty) (numbers : List TypeId)
    (made : List Ty) : Type 0 where
  pub from : (ty : Ty) → Contains made ty → Contains types ty
  pub whole : (ty : Ty) → Contains (take k types) ty → Contains made ty
  pub noted : (id : TypeId) → Contains numbers id → (ty : Ty) × Contains made ty × Denotes table id ty

module _ (types : List Ty) where
  pub AreOnce-nothing : (table : List Ty) → AreOnce types 0 table [] []
  AreOnce-nothing table = record {
    from = λ ty at. absurd (let inside : at.0 < 0 = at.1 in omega (arith, inside));
    whole = λ ty at. absurd (let inside : at.0 < 0 = at.1 in omega (arith, inside));
    noted = λ id at. absurd (let inside : at.0 < 0 = at.1 in omega (arith, inside));
  }

  module _ (k : ℕ) (table later : List Ty) (numbers more : List TypeId) (made : List Ty)
      (so_far : AreOnce types k table numbers made) (ty : Ty) (within : k < length types)
      (is : ty ≡ get_or types k ty) (grows : Extends table later) (id : TypeId)
      (denotes : Denotes later id ty)
    where
      next_or_before : (other : Ty) → Contains (take (k + 1) types) other →
          Contains (take k types) other ⊎ (ty ≡ other)
      next_or_before other at =
          elim (Contains-push_cases (take k types) (get_or types k ty) other
          (subst (λ list. Contains list other) (take_more types k ty within) at)) [
            | inl before ↦ inl before
            | inr same ↦ inr (is ∙ same)
          ]

      pub AreOnce-new : IsPut numbers more id true →
          AreOnce types (k + 1) later more (made ++ ty ∷ [])
      AreOnce-new put = record {
        from = λ other at.
            elim (Contains-push_cases made ty other at) [
              | inl before ↦ so_far.from other before
              | inr same ↦ subst (Contains types) (sym is ∙ same)
                  (Contains-get_or types k ty within)
            ];
        whole = λ other at.
            elim (next_or_before other at) [
              | inl before ↦ Contains-append_left made (ty ∷ []) other (so_far.whole other before)
              | inr same ↦ subst (Contains (made ++ ty ∷ [])) same (Contains-push made ty)
            ];
        noted = λ other at.
            elim (Contains-push_cases numbers id other
            (subst (λ list. Contains list other) put at)) [
              | inl before ↦
                  let was = so_far.noted other before in (
                    was.0,
                    Contains-append_left made (ty ∷ []) was.0 was.1,
                    Denotes-extended table later grows other was.0 was.2,
                  )
              | inr same ↦ (
                ty,
                Contains-push made ty,
                subst (λ n. Denotes later n ty) same denotes,
              )
            ];
      }

      pub AreOnce-again : IsPut numbers more id false → AreOnce types (k + 1) later more made
      AreOnce-again put =
          let was = so_far.noted id put.1 in
          let there : Contains made ty =
          subst (Contains made)
          (same_Some was.0 ty (sym (Denotes-extended table later grows id was.0 was.2) ∙ denotes))
          was.1 in
          record {
            from = so_far.from;
            whole = λ other at.
                elim (next_or_before other at) [
                  | inl before ↦ so_far.whole other before
                  | inr same ↦ subst (Contains made) same there
                ];
            noted = λ other at.
                let before = so_far.noted other (subst (λ list. Contains list other) put.0 at) in
                (before.0, before.1, Denotes-extended table later grows other before.0 before.2);
          }

  pub AreOnce-all : (k : ℕ) (table : List Ty) (numbers : List TypeId) (made : List Ty) →
      length types ≤ k → AreOnce types k table numbers made → (ty : Ty) →
      Contains types ty ↔ Contains made ty
  AreOnce-all k table numbers made all are ty = (
    λ at. are.whole ty (subst (λ list. Contains list ty) (sym (take_all k types all)) at),
    are.from ty,
  )

-- the patterns of a formula
pub ArePatterns-kept : (body : Nnf) (listed nothing : List Ty) → nothing ≡ [] →
    Lists (symbol_instances body) nothing listed → (made : List Ty) →
    ((ty : Ty) → Contains listed ty ↔ Contains made ty) → ArePatterns body made
ArePatterns-kept body listed nothing none lists made same =
    let all : listed ≡ map as_type (symbol_instances body) =
    lists ∙ ap (λ front. front ++ map as_type (symbol_instances body)) none in
    record {
      each = λ pattern at.
          let from = read_from as_type (symbol_instances body) pattern
          (subst (λ list. Contains list pattern) all ((same pattern).1 at)) in
          (from.0, from.1, sym from.2);
      whole = λ origin at.
          (same (as_type origin)).0
          (subst (λ list. Contains list (as_type origin)) (sym all)
          (is_read as_type (symbol_instances body) origin at));
    }
