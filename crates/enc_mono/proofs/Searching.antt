-- A search misses nothing: at its start, as it goes on, and at its end.
use Rattle.std.specs.Prelude.{ℕ, zero, suc, ◌≡◌, ◌<◌, ◌⊎◌, Bool, false, true, IsTrue, List, [], ◌∷◌, ◌++◌, length, slice_get, Some, None}
use Rattle.std.specs.List.{Contains, AllByRecursion}
use Rattle.std.proofs.Common.{sym, ap, subst, ◌∙◌, arith, inl, inr}
use Rattle.std.proofs.lemmas.List.{append-nil, length-replicate, length-map}
use Rattle.std.proofs.lemmas.List.Elements.{Contains-append_left, Contains-append_right, Contains-append_cases, Contains-push, Contains-push_cases}
use Rattle.std.proofs.lemmas.Option.{slice_get_within, same_Some, none-some}
use Rattle.tf_core.specs.declared.ty.Ty.{Ty}
use Rattle.tf_core.specs.declared.ty.Ty.TheVariants as type
use Rattle.tf_core.specs.Occurrences.{occurs_in_type}
use Rattle.tf_types.specs.declared.node.TypeId.{TypeId}
use Rattle.tf_types.specs.Matching.{KeepsTo, IsBound}
use Rattle.enc_mono.specs.declared.search.Search.{Search}
use Rattle.enc_mono.specs.Calls.Numbered.{numbers_of}
use Rattle.enc_mono.specs.Calls.Matched.{AreMatched}
use Rattle.enc_mono.specs.Calls.Searched.{Partial, nothing_bound, IsTotal, BindsMore, IsPut, met_in, pending_in, found_in, Query, query, IsSupported, IsCovered, IsSearch, IsFinished, IsExtension, IsExtended, AreUnder}
use Rattle.enc_mono.proofs.Extending.{only, alone, extension_count, extension_bound, extension_keeps}

-- nothing is bound in the root

pub nothing_at : (n i : ℕ) (id : TypeId) → slice_get (nothing_bound n) i ≡ Some (Some id) → ⊥
nothing_at zero i id at = none-some (Some id) at
nothing_at (suc n) zero id at = none-some id (same_Some None (Some id) at)
nothing_at (suc n) (suc i) id at = nothing_at n i id at

-- each item of a list has what all have
pub holds : {A : Type 0} (P : A → Type 0) (items : List A) (item : A) → AllByRecursion P items →
    Contains items item → P item
holds P [] item all at = absurd (let within : at.0 < 0 = at.1 in omega (arith, within))
holds P (first ∷ items) item all at =
    elim (Contains-append_cases (first ∷ []) items item at) [
      | inl here ↦ subst P (only first item here) all.0
      | inr there ↦ holds P items item all.1 there
    ]

module _ (q : Query) where
  -- a pending one covers what keeps to it
  itself : (pending found : List Partial) (bound : Partial) (substitution : List Ty) →
      Contains pending bound → KeepsTo q.types bound substitution →
      IsCovered q pending found bound substitution
  itself pending found bound substitution at keeps = inl (bound, at, keeps, λ i is. is)

  nothing_supported : IsSupported q (nothing_bound q.variables)
  nothing_supported = record {
    count = length-replicate q.variables None;
    numbers = λ i id at. absurd (nothing_at q.variables i id at);
    matched = λ substitution keeps i is. absurd (nothing_at q.variables i is.0 is.1);
  }

  pub IsSearch-start : IsSearch q (nothing_bound q.variables ∷ [])
      (nothing_bound q.variables ∷ []) []
  IsSearch-start = record {
    root = alone (nothing_bound q.variables);
    pending_are = λ bound at. subst (IsSupported q) (only (nothing_bound q.variables) bound at)
        nothing_supported;
    found_are = λ bound at. absurd (let within : at.0 < 0 = at.1 in omega (arith, within));
    covered = λ bound at substitution matched keeps.
        itself (nothing_bound q.variables ∷ []) [] bound substitution at keeps;
  }

  -- the one from which the search goes on
  module _ (met pending found : List Partial) (bound : Partial)
      (search : IsSearch q met (pending ++ bound ∷ []) found)
    where
      pub next_supported : IsSupported q bound
      next_supported = search.pending_are bound (Contains-push pending bound)

      -- it is total, and was put to those that are
      module _ (total : IsTotal bound) (later : List Partial) (added : Bool)
          (is_put : IsPut found later bound added)
        where
          there : (added : Bool) → IsPut found later bound added → Contains later bound
          there true put = subst (λ list. Contains list bound) (sym put) (Contains-push found bound)
          there false put = subst (λ list. Contains list bound) (sym put.0) put.1

          kept : (added : Bool) → IsPut found later bound added → (b : Partial) →
              Contains found b → Contains later b
          kept true put b at =
              subst (λ list. Contains list b) (sym put) (Contains-append_left found (bound ∷ []) b at)
          kept false put b at = subst (λ list. Contains list b) (sym put.0) at

          no_other : (added : Bool) → IsPut found later bound added → (b : Partial) →
              Contains later b → Contains found b ⊎ (bound ≡ b)
          no_other true put b at =
              Contains-push_cases found bound b (subst (λ list. Contains list b) put at)
          no_other false put b at = inl (subst (λ list. Contains list b) put.0 at)

          still : (b : Partial) (substitution : List Ty) →
              IsCovered q (pending ++ bound ∷ []) found b substitution →
              IsCovered q pending later b substitution
          still b substitution (inr before) =
              inr (before.0, kept added is_put before.0 before.1, before.2)
          still b substitution (inl before) =
              elim (Contains-push_cases pending bound before.0 before.1) [
                | inl other ↦ inl (before.0, other, before.2, before.3)
                | inr same ↦ inr (
                  bound,
                  there added is_put,
                  subst (λ p. KeepsTo q.types p substitution) (sym same) before.2,
                )
              ]

          pub IsSearch-total : IsSearch q met pending later
          IsSearch-total = record {
            root = search.root;
            pending_are = λ b at.
                search.pending_are b (Contains-append_left pending (bound ∷ []) b at);
            found_are = λ b at.
                elim (no_other added is_put b at) [
                  | inl before ↦ search.found_are b before
                  | inr same ↦ subst (λ p. IsSupported q p × IsTotal p) same
                      (next_supported, total)
                ];
            covered = λ b at substitution matched keeps.
                still b substitution (search.covered b at substitution matched keeps);
          }

      -- all its extensions by a type variable that is free were met
      module _ (i : ℕ) (free : slice_get bound i ≡ Some None)
          (extended : (pattern : Ty) → Contains q.patterns pattern →
          IsTrue (occurs_in_type i pattern) → (f : ℕ) (arguments : List Ty) →
          pattern ≡ type.Apply f arguments → (id : TypeId) → Contains (numbers_of q.index f) id →
          IsExtended q.types met bound pattern id)
        where
          within : i < length bound
          within = slice_get_within bound i None free

          not_bound : IsBound bound i → ⊥
          not_bound is = none-some is.0 (same_Some None (Some is.0) (sym free ∙ is.1))

          module _ (substitution : List Ty)
              (matched : AreMatched q.types q.index q.patterns q.variables substitution)
            where
              -- by an extension that was met
              beyond : (b : Partial) → BindsMore b bound → KeepsTo q.types bound substitution →
                  IsCovered q pending found b substitution
              beyond b binds keeps =
                  let at_i = matched.each i (let count = next_supported.count in
                  omega (arith, within, count)) in
                  let instance = at_i.known in
                  let more = extended at_i.pattern at_i.of_formula at_i.has instance.symbol
                  instance.arguments instance.applied instance.id instance.stands substitution keeps
                  instance.is_instance in
                  elim (search.covered more.0 more.1 substitution matched more.2) [
                    | inr total ↦ inr total
                    | inl next ↦ elim (Contains-push_cases pending bound next.0 next.1) [
                      | inl other ↦ inl (
                        next.0,
                        other,
                        next.2,
                        λ j is. next.3 j (more.3 j (binds j is)),
                      )
                      | inr same ↦ absurd (not_bound
                          (subst (λ p. IsBound p i) (sym same) (next.3 i (more.4 i within
                          at_i.has))))
                    ]
                  ]

              past : (b : Partial) → IsCovered q (pending ++ bound ∷ []) found b substitution →
                  IsCovered q pending found b substitution
              past b (inr total) = inr total
              past b (inl before) =
                  elim (Contains-push_cases pending bound before.0 before.1) [
                    | inl other ↦ inl (before.0, other, before.2, before.3)
                    | inr same ↦ beyond b
                        (subst (λ p. BindsMore b p) (sym same) before.3)
                        (subst (λ p. KeepsTo q.types p substitution) (sym same) before.2)
                  ]

          pub IsSearch-extended : IsSearch q met pending found
          IsSearch-extended = record {
            root = search.root;
            pending_are = λ b at.
                search.pending_are b (Contains-append_left pending (bound ∷ []) b at);
            found_are = search.found_are;
            covered = λ b at substitution matched keeps.
                past substitution matched b (search.covered b at substitution matched keeps);
          }

  -- partial substitutions that are supported were met and are pending
  module _ (met pending found added : List Partial) (bound : Partial)
      (search : IsSearch q met (pending ++ bound ∷ []) found)
      (supported : AllByRecursion (IsSupported q) added)
    where
      abbrev rest_open : List Partial
      rest_open = (pending ++ added) ++ bound ∷ []

      opened : (b : Partial) → Contains (pending ++ bound ∷ []) b → Contains rest_open b
      opened b at =
          elim (Contains-push_cases pending bound b at) [
            | inl before ↦ Contains-append_left (pending ++ added) (bound ∷ []) b
                (Contains-append_left pending added b before)
            | inr same ↦ subst (Contains rest_open) same (Contains-push (pending ++ added) bound)
          ]

      is_open : (b : Partial) → Contains added b → Contains rest_open b
      is_open b at =
          Contains-append_left (pending ++ added) (bound ∷ []) b
          (Contains-append_right pending added b at)

      was_open : (b : Partial) → Contains rest_open b → IsSupported q b
      was_open b at =
          elim (Contains-push_cases (pending ++ added) bound b at) [
            | inl front ↦ elim (Contains-append_cases pending added b front) [
              | inl before ↦ search.pending_are b
                  (Contains-append_left pending (bound ∷ []) b before)
              | inr new ↦ holds (IsSupported q) added b supported new
            ]
            | inr same ↦ subst (IsSupported q) same
                (search.pending_are bound (Contains-push pending bound))
          ]

      still_covered : (b : Partial) (substitution : List Ty) →
          IsCovered q (pending ++ bound ∷ []) found b substitution →
          IsCovered q rest_open found b substitution
      still_covered b substitution (inl before) =
          inl (before.0, opened before.0 before.1, before.2, before.3)
      still_covered b substitution (inr total) = inr total

      pub IsSearch-added : IsSearch q (met ++ added) rest_open found
      IsSearch-added = record {
        root = Contains-append_left met added (nothing_bound q.variables) search.root;
        pending_are = was_open;
        found_are = search.found_are;
        covered = λ b at substitution matched keeps.
            elim (Contains-append_cases met added b at) [
              | inl before ↦ still_covered b substitution
                  (search.covered b before substitution matched keeps)
              | inr new ↦ itself rest_open found b substitution (is_open b new) keeps
            ];
      }

  -- an extension of what is supported is supported
  module _ (bound : Partial) (supported : IsSupported q bound) (pattern : Ty)
      (of_formula : Contains q.patterns pattern) (ids : List TypeId)
      (under : AreUnder q.index pattern ids)
    where
      pub IsSupported-extension : (more : Partial) →
          IsExtension q.types bound pattern ids more → IsSupported q more
      IsSupported-extension more is = record {
        count = extension_count q.types bound pattern is.0 more is.3 ∙ supported.count;
        numbers = is.2;
        matched = λ substitution keeps i bound_there.
            let before = extension_keeps q.types bound pattern is.0 more is.3 substitution keeps in
            elim (extension_bound q.types bound pattern is.0 more is.3 i bound_there) [
              | inl earlier ↦ supported.matched substitution before.0 i earlier
              | inr has ↦
                  let at = under.each is.0 is.1 in
                  record {
                    pattern = pattern;
                    of_formula = of_formula;
                    has = has;
                    known = record {
                      symbol = at.0;
                      arguments = at.1;
                      applied = at.2;
                      id = is.0;
                      stands = at.3;
                      is_instance = before.1;
                    };
                  }
            ];
      }

-- a search as code makes it, and as it takes one from what is pending
module _ (types : List Ty) (index : List (List TypeId)) (patterns : List Ty) (variables : ℕ) where
  abbrev q : Query
  q = query types index patterns variables

  pub IsSearch-new : (search : Search) → met_in search ≡ nothing_bound variables ∷ [] →
      pending_in search ≡ nothing_bound variables ∷ [] → found_in search ≡ [] →
      IsSearch q (met_in search) (pending_in search) (found_in search)
  IsSearch-new search met pending found =
      subst (λ m. IsSearch q m (pending_in search) (found_in search)) (sym met)
      (subst (λ p. IsSearch q (nothing_bound variables ∷ []) p (found_in search)) (sym pending)
      (subst (IsSearch q (nothing_bound variables ∷ []) (nothing_bound variables ∷ []))
      (sym found) (IsSearch-start q)))

  module _ (met pending found rest : List Partial) (bound read : Partial)
      (search : IsSearch q met pending found) (popped : pending ≡ rest ++ bound ∷ [])
      (same : read ≡ bound)
    where
      next_one : IsSearch q met (rest ++ read ∷ []) found
      next_one =
          subst (λ p. IsSearch q met p found)
          (popped ∙ ap (λ last. rest ++ last ∷ []) (sym same)) search

      pub popped_count : length read ≡ variables
      popped_count = (next_supported q met rest found read next_one).count

      pub IsSearch-popped :
          IsSearch (query types index patterns (length read)) met (rest ++ read ∷ []) found
      IsSearch-popped =
          subst (λ n. IsSearch (query types index patterns n) met (rest ++ read ∷ []) found)
          (sym popped_count) next_one

      pub IsSearch-back : (later_met later_pending later_found : List Partial) →
          IsSearch (query types index patterns (length read)) later_met later_pending later_found →
          IsSearch q later_met later_pending later_found
      IsSearch-back later_met later_pending later_found =
          subst (λ n. IsSearch (query types index patterns n) later_met later_pending later_found)
          popped_count

-- the end of a search

pub IsFinished-enough : (q : Query) (most : ℕ) (search : Search) →
    IsSearch q (met_in search) (pending_in search) (found_in search) →
    most < length search.found.keys → IsFinished q most search
IsFinished-enough q most search is more = record {
  search_is = is;
  ended = inr (let long = length-map search.found.keys (λ key. key.items) in
      omega (arith, long, more));
}

pub IsFinished-none : (q : Query) (most : ℕ) (search : Search) (before : List Partial) →
    IsSearch q (met_in search) before (found_in search) → before ≡ pending_in search ++ [] →
    pending_in search ≡ [] → IsFinished q most search
IsFinished-none q most search before is same none = record {
  search_is = subst (λ p. IsSearch q (met_in search) p (found_in search))
      (same ∙ append-nil (pending_in search)) is;
  ended = inl none;
}
