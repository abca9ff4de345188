-- What a search has found when nothing is pending, or enough.
use Rattle.std.specs.Prelude.{ℕ, zero, suc, ◌≡◌, ◌≢◌, ◌<◌, ◌≤◌, ◌⊎◌, Bool, false, List, [], ◌∷◌, map, length, drop, get_or, slice_get, Some, None}
use Rattle.std.specs.List.{Contains, AllByRecursion}
use Rattle.std.proofs.Common.{refl, sym, ap, subst, ◌∙◌, arith, inl, inr}
use Rattle.std.specs.Bool.{Decides}
use Rattle.std.specs.List.{IsDistinct}
use Rattle.std.proofs.lemmas.Bool.{false≢true}
use Rattle.std.proofs.lemmas.Map.Keys.{IsDistinct-head, IsDistinct-tail}
use Rattle.std.proofs.lemmas.List.{length-map, length-replicate}
use Rattle.std.proofs.lemmas.List.Elements.{Contains-append_left, Contains-append_right, Contains-append_cases}
use Rattle.std.proofs.lemmas.Option.{same_Some, none-some}
use Rattle.tf_core.specs.declared.ty.Ty.{Ty}
use Rattle.tf_types.specs.declared.node.TypeId.{TypeId}
use Rattle.tf_types.specs.Numbers.{AreNumbers, type_at}
use Rattle.tf_types.specs.Matching.{KeepsTo, AreBound}
use Rattle.enc_mono.specs.Calls.Matched.{AreMatched, AreMatchedUpTo, AreDistinct, denoted}
use Rattle.enc_mono.specs.Calls.Searched.{Partial, bound_to, nothing_bound, IsTotal, Query, IsSupported, IsFinished, found_in, pending_in}
use Rattle.enc_mono.specs.declared.search.Search.{Search}
use Rattle.enc_mono.proofs.Extending.{alone, only}
use Rattle.enc_mono.proofs.Searching.{nothing_at}
use Rattle.enc_mono.proofs.Pursued.{all_of}

-- lists that are equal have equal heads and equal tails

cons-nil : {A : Type 0} {item : A} {items : List A} → (item ∷ items) ≡ [] → ⊥
cons-nil same = let long = ap length same in omega (arith, long)

heads : {A : Type 0} {item other : A} {items others : List A} →
    (item ∷ items) ≡ (other ∷ others) → item ≡ other
heads {A} {item} same = ap (λ list. get_or list 0 item) same

tails : {A : Type 0} {item other : A} {items others : List A} →
    (item ∷ items) ≡ (other ∷ others) → items ≡ others
tails same = ap (drop 1) same

module _ (types : List Ty) where
  pub AreNumbers-bound : (ids : List TypeId) → AreBound types (bound_to ids) → AreNumbers types ids
  AreNumbers-bound [] numbers = tt
  AreNumbers-bound (id ∷ ids) numbers =
      (numbers zero id refl, AreNumbers-bound ids (λ i other at. numbers (suc i) other at))

  -- what keeps to it is what the numbers denote
  pub denoted-keeps : (ids : List TypeId) → KeepsTo types (bound_to ids) (denoted types ids)
  denoted-keeps ids = record {
    count = length-map ids (type_at types) ∙ sym (length-map ids Some);
    same = kept ids;
  }
    where
      kept : (ids : List TypeId) (i : ℕ) (id : TypeId) →
          slice_get (bound_to ids) i ≡ Some (Some id) →
          slice_get (denoted types ids) i ≡ Some (type_at types id)
      kept [] i id at = absurd (none-some (Some id) at)
      kept (first ∷ ids) zero id at =
          ap (λ number. Some (type_at types number))
          (same_Some first id (same_Some (Some first) (Some id) at))
      kept (first ∷ ids) (suc i) id at = kept ids i id at

  pub keeps-denoted : (ids : List TypeId) (substitution : List Ty) →
      length substitution ≡ length (bound_to ids) →
      ((i : ℕ) (id : TypeId) → slice_get (bound_to ids) i ≡ Some (Some id) →
      slice_get substitution i ≡ Some (type_at types id)) →
      substitution ≡ denoted types ids
  keeps-denoted [] [] count same = refl
  keeps-denoted [] (ty ∷ substitution) count same = absurd (omega (arith, count))
  keeps-denoted (id ∷ ids) [] count same = absurd (omega (arith, count))
  keeps-denoted (id ∷ ids) (ty ∷ substitution) count same =
      ap (λ first. first ∷ substitution) (same_Some ty (type_at types id) (same zero id refl))
      ∙ ap (λ rest. type_at types id ∷ rest)
      (keeps-denoted ids substitution (omega (arith, count)) (λ i other at. same (suc i) other at))

-- items that lists are read from

module _ {K A : Type 0} (items : K → A) where
  pub all_items : (P : A → Type 0) (keys : List K) →
      ((item : A) → Contains (map items keys) item → P item) →
      AllByRecursion (λ key. P (items key)) keys
  all_items P [] each = tt
  all_items P (key ∷ keys) each = (
    each (items key)
        (Contains-append_left (items key ∷ []) (map items keys) (items key) (alone (items key))),
    all_items P keys
        (λ other at. each other (Contains-append_right (items key ∷ []) (map items keys) other at)),
  )

  -- an item that is read is read from one of them
  pub read_from : (keys : List K) (item : A) → Contains (map items keys) item →
      (key : K) × Contains keys key × (items key ≡ item)
  read_from [] item at = absurd (let within : at.0 < 0 = at.1 in omega (arith, within))
  read_from (key ∷ keys) item at =
      elim (Contains-append_cases (items key ∷ []) (map items keys) item at) [
        | inl here ↦ (
          key,
          Contains-append_left (key ∷ []) keys key (alone key),
          only (items key) item here,
        )
        | inr there ↦
            let rest = read_from keys item there in
            (rest.0, Contains-append_right (key ∷ []) keys rest.0 rest.1, rest.2)
      ]

  pub is_read : (keys : List K) (key : K) → Contains keys key → Contains (map items keys) (items key)
  is_read [] key at = absurd (let within : at.0 < 0 = at.1 in omega (arith, within))
  is_read (first ∷ keys) key at =
      elim (Contains-append_cases (first ∷ []) keys key at) [
        | inl here ↦ Contains-append_left (items first ∷ []) (map items keys) (items key)
            (subst (λ k. Contains (items first ∷ []) (items k)) (only first key here)
            (alone (items first)))
        | inr there ↦ Contains-append_right (items first ∷ []) (map items keys) (items key)
            (is_read keys key there)
      ]

-- numbers that are read from keys of a set are distinct
module _ {K : Type 0} (items : K → Partial) (eq : K → K → Bool)
    (decides : (a b : K) → Decides (eq a b) (items a ≡ items b))
  where
    differ : (key : K) (ids : List TypeId) → bound_to ids ≡ items key → (keys : List K)
        (made : List (List TypeId)) → map bound_to made ≡ map items keys →
        AllByRecursion (λ other. eq key other ≡ false) keys →
        AllByRecursion (λ other. ids ≢ other) made
    differ key ids is keys [] same all = tt
    differ key ids is [] (other ∷ made) same all = absurd (cons-nil same)
    differ key ids is (k ∷ keys) (other ∷ made) same all = (
      λ equal. false≢true (sym all.0
          ∙ (decides key k).1 (sym is ∙ ap bound_to equal ∙ heads same)),
      differ key ids is keys made (tails same) all.1,
    )

    pub AreDistinct-keys : (keys : List K) (made : List (List TypeId)) →
        map bound_to made ≡ map items keys → IsDistinct eq keys → AreDistinct made
    AreDistinct-keys keys [] same distinct = tt
    AreDistinct-keys [] (ids ∷ made) same distinct = absurd (cons-nil same)
    AreDistinct-keys (key ∷ keys) (ids ∷ made) same distinct = (
      differ key ids (heads same) keys made (tails same) (IsDistinct-head eq key keys distinct),
      AreDistinct-keys keys made (tails same) (IsDistinct-tail eq key keys distinct),
    )

-- what a search has found when it has ended
module _ (q : Query) (most : ℕ) (search : Search) (finished : IsFinished q most search)
    (made : List (List TypeId)) (same : map bound_to made ≡ found_in search)
  where
    found_one : (ids : List TypeId) → Contains made ids →
        IsSupported q (bound_to ids) × IsTotal (bound_to ids)
    found_one ids at =
        finished.search_is.found_are (bound_to ids)
        (subst (λ list. Contains list (bound_to ids)) same (is_read bound_to made ids at))

    matched_one : (ids : List TypeId) → Contains made ids →
        AreMatched q.types q.index q.patterns q.variables (denoted q.types ids)
    matched_one ids at =
        let one = found_one ids at in
        record {
          count = length-map ids (type_at q.types) ∙ sym (length-map ids Some) ∙ one.0.count;
          each = λ i within. one.0.matched (denoted q.types ids) (denoted-keeps q.types ids) i
              (one.1 i (let count = one.0.count in omega (arith, within, count)));
        }

    nothing_kept : (substitution : List Ty) → length substitution ≡ q.variables →
        KeepsTo q.types (nothing_bound q.variables) substitution
    nothing_kept substitution count = record {
      count = count ∙ sym (length-replicate q.variables None);
      same = λ i id at. absurd (nothing_at q.variables i id at);
    }

    by_total : (substitution : List Ty) →
        ((total : Partial) × Contains (found_in search) total × KeepsTo q.types total substitution) →
        (ids : List TypeId) × Contains made ids × (substitution ≡ denoted q.types ids)
    by_total substitution found =
        let from = read_from bound_to made found.0
        (subst (λ list. Contains list found.0) (sym same) found.1) in
        let keeps = subst (λ b. KeepsTo q.types b substitution) (sym from.2) found.2 in
        (from.0, from.1, keeps-denoted q.types from.0 substitution keeps.count keeps.same)

    whole_if : (pending_in search ≡ []) ⊎ (most < length (found_in search)) →
        length made ≤ most → (substitution : List Ty) →
        AreMatched q.types q.index q.patterns q.variables substitution →
        (ids : List TypeId) × Contains made ids × (substitution ≡ denoted q.types ids)
    whole_if (inr more) few substitution matched =
        absurd (let long = ap length (sym same) ∙ length-map made bound_to in
        omega (arith, long, more, few))
    whole_if (inl none) few substitution matched =
        elim (finished.search_is.covered (nothing_bound q.variables) finished.search_is.root
        substitution matched (nothing_kept substitution matched.count)) [
          | inl left ↦ absurd
              (let at : Contains [] left.0 = subst (λ list. Contains list left.0) none left.1 in
              let within : at.0 < 0 = at.1 in omega (arith, within))
          | inr total ↦ by_total substitution total
        ]

    pub AreMatchedUpTo-finished : AreDistinct made →
        AreMatchedUpTo q.types q.index q.patterns q.variables most made
    AreMatchedUpTo-finished distinct = record {
      numbers = all_of (AreNumbers q.types) made
          (λ ids at. let one = found_one ids at in AreNumbers-bound q.types ids one.0.numbers);
      each = all_of (λ ids. AreMatched q.types q.index q.patterns q.variables
          (denoted q.types ids)) made matched_one;
      once = distinct;
      whole = whole_if finished.ended;
    }
