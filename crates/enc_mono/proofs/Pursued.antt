-- A search goes on from a partial substitution by one pattern after another.
use Rattle.std.specs.Prelude.{ℕ, zero, suc, ◌≡◌, ◌<◌, ◌≤◌, ◌+◌, ◌⊎◌, false, IsTrue, List, [], ◌∷◌, ◌++◌, length, take, get_or, slice_get, Some, None}
use Rattle.std.specs.List.{Contains, AllByRecursion}
use Rattle.std.proofs.Common.{sym, ap, subst, ◌∙◌, arith, inl, inr}
use Rattle.std.proofs.lemmas.Bool.{false≢true}
use Rattle.std.proofs.lemmas.List.{append_assoc, append-nil, take_more, take_all, length-append, length-map}
use Rattle.std.proofs.lemmas.List.Elements.{Contains-append_left, Contains-append_right, Contains-push_cases, Contains-get_or}
use Rattle.tf_core.specs.declared.ty.Ty.{Ty}
use Rattle.tf_core.specs.declared.ty.Ty.TheVariants as type
use Rattle.tf_core.specs.Occurrences.{occurs_in_type}
use Rattle.tf_types.specs.declared.node.TypeId.{TypeId}
use Rattle.enc_mono.specs.declared.search.Search.{Search}
use Rattle.tf_types.specs.Numbers.{IsNumber, AreNumbers}
use Rattle.enc_mono.specs.Calls.Numbered.{numbers_of, AreIndexed}
use Rattle.enc_mono.specs.Calls.Searched.{Partial, met_in, pending_in, found_in, IsWithin, steps_left, Query, IsSupported, IsSearch, IsExtension, IsExtended, GoesOn, AreUnder}
use Rattle.enc_mono.proofs.Extending.{alone, extended_later}
use Rattle.enc_mono.proofs.Listed.{all-same}
use Rattle.enc_mono.proofs.Searching.{holds, next_supported, IsSearch-extended, IsSearch-added, IsSupported-extension}

-- the instances under the pattern's symbol were tried
abbrev pub IsTried : Query → List Partial → Partial → Ty → Type 0
IsTried q met bound pattern = (f : ℕ) (arguments : List Ty) → pattern ≡ type.Apply f arguments →
    (id : TypeId) → Contains (numbers_of q.index f) id → IsExtended q.types met bound pattern id

-- of the first patterns, those in which the type variable occurs were tried
pub record IsPursued (q : Query) (bound : Partial) (i k : ℕ) (old now : Search) : Type 0 where
  pub search : IsSearch q (met_in now) (pending_in now ++ bound ∷ []) (found_in now)
  pub within : IsWithin now
  pub added : List Partial
  pub met : met_in now ≡ met_in old ++ added
  pub pending : pending_in now ≡ pending_in old ++ added
  pub tried : (pattern : Ty) → Contains (take k q.patterns) pattern →
      IsTrue (occurs_in_type i pattern) → IsTried q (met_in now) bound pattern

module _ (q : Query) (bound : Partial) (i : ℕ) (old : Search) where
  pub IsPursued-nothing :
      IsSearch q (met_in old) (pending_in old ++ bound ∷ []) (found_in old) → IsWithin old →
      IsPursued q bound i 0 old old
  IsPursued-nothing search within = record {
    search = search;
    within = within;
    added = [];
    met = sym (append-nil (met_in old));
    pending = sym (append-nil (pending_in old));
    tried = λ pattern at. absurd (let inside : at.0 < 0 = at.1 in omega (arith, inside));
  }

  module _ (k : ℕ) (now : Search) (so_far : IsPursued q bound i k old now) (pattern : Ty)
      (inside : k < length q.patterns) (is : pattern ≡ get_or q.patterns k pattern)
    where
      of_formula : Contains q.patterns pattern
      of_formula = subst (Contains q.patterns) (sym is) (Contains-get_or q.patterns k pattern inside)

      by_one_more : (other : Ty) → Contains (take (k + 1) q.patterns) other →
          Contains (take k q.patterns) other ⊎ (pattern ≡ other)
      by_one_more other at =
          elim (Contains-push_cases (take k q.patterns) (get_or q.patterns k pattern) other
          (subst (λ list. Contains list other) (take_more q.patterns k pattern inside) at)) [
            | inl before ↦ inl before
            | inr same ↦ inr (is ∙ same)
          ]

      -- the type variable doesn't occur in the next
      pub IsPursued-absent : occurs_in_type i pattern ≡ false →
          IsPursued q bound i (k + 1) old now
      IsPursued-absent absent = record {
        search = so_far.search;
        within = so_far.within;
        added = so_far.added;
        met = so_far.met;
        pending = so_far.pending;
        tried = λ other at has.
            elim (by_one_more other at) [
              | inl before ↦ so_far.tried other before has
              | inr same ↦ absurd (false≢true (sym absent ∙ ap (occurs_in_type i) same ∙ has))
            ];
      }

      -- it does, and the search went on by the next
      module _ (ids : List TypeId) (under : AreUnder q.index pattern ids) (later : Search)
          (goes_on : GoesOn q.types bound pattern ids now later) (within : IsWithin later)
        where
          supported : AllByRecursion (IsSupported q) goes_on.added
          supported =
              all-same (IsExtension q.types bound pattern ids) (IsSupported q)
              (IsSupported-extension q bound
              (next_supported q (met_in now) (pending_in now) (found_in now) bound so_far.search)
              pattern of_formula ids under) goes_on.added goes_on.each

          search_later : IsSearch q (met_in later) (pending_in later ++ bound ∷ []) (found_in later)
          search_later =
              subst (λ met. IsSearch q met (pending_in later ++ bound ∷ []) (found_in later))
              (sym goes_on.met)
              (subst (λ pending. IsSearch q (met_in now ++ goes_on.added) (pending ++ bound ∷ [])
              (found_in later)) (sym goes_on.pending)
              (subst (IsSearch q (met_in now ++ goes_on.added)
              ((pending_in now ++ goes_on.added) ++ bound ∷ [])) (sym goes_on.found)
              (IsSearch-added q (met_in now) (pending_in now) (found_in now) goes_on.added bound
              so_far.search supported)))

          tried_now : IsTried q (met_in later) bound pattern
          tried_now f arguments applied id at =
              goes_on.extended id
              (subst (λ list. Contains list id) (sym (under.whole f arguments applied)) at)

          tried_before : (other : Ty) → IsTried q (met_in now) bound other →
              IsTried q (met_in later) bound other
          tried_before other before f arguments applied id at =
              extended_later q.types bound other (met_in now) goes_on.added (met_in later)
              goes_on.met id (before f arguments applied id at)

          pub IsPursued-tried : IsPursued q bound i (k + 1) old later
          IsPursued-tried = record {
            search = search_later;
            within = within;
            added = so_far.added ++ goes_on.added;
            met = goes_on.met ∙ ap (λ front. front ++ goes_on.added) so_far.met
                ∙ append_assoc (met_in old) so_far.added goes_on.added;
            pending = goes_on.pending ∙ ap (λ front. front ++ goes_on.added) so_far.pending
                ∙ append_assoc (pending_in old) so_far.added goes_on.added;
            tried = λ other at has.
                elim (by_one_more other at) [
                  | inl before ↦ tried_before other (so_far.tried other before has)
                  | inr same ↦ subst (IsTried q (met_in later) bound) same tried_now
                ];
          }

  -- by all patterns
  module _ (k : ℕ) (now : Search) (so_far : IsPursued q bound i k old now)
      (all : length q.patterns ≤ k)
    where
      pub IsSearch-pursued : slice_get bound i ≡ Some None →
          IsSearch q (met_in now) (pending_in now) (found_in now)
      IsSearch-pursued free =
          IsSearch-extended q (met_in now) (pending_in now) (found_in now) bound so_far.search i free
          (λ pattern at has. so_far.tried pattern
          (subst (λ list. Contains list pattern) (sym (take_all k q.patterns all)) at) has)

  pub steps_left-pursued : (k : ℕ) (now : Search) → IsPursued q bound i k old now →
      steps_left now ≤ steps_left old
  steps_left-pursued k now so_far =
      let met = ap length so_far.met ∙ length-append (met_in old) so_far.added in
      let pending = ap length so_far.pending ∙ length-append (pending_in old) so_far.added in
      let old_keys = length-map old.met.keys (λ key. key.items) in
      let now_keys = length-map now.met.keys (λ key. key.items) in
      omega (arith, met, pending, old_keys, now_keys, so_far.within)

-- numbers under a symbol are numbers of the table

pub all_of : {A : Type 0} (P : A → Type 0) (items : List A) →
    ((item : A) → Contains items item → P item) → AllByRecursion P items
all_of P [] each = tt
all_of P (item ∷ items) each = (
  each item (Contains-append_left (item ∷ []) items item (alone item)),
  all_of P items (λ other at. each other (Contains-append_right (item ∷ []) items other at)),
)

numbers_at : (types : List Ty) (index : List (List TypeId)) (f : ℕ) → AreIndexed types index →
    AreNumbers types (numbers_of index f)
numbers_at types [] f all = tt
numbers_at types (ids ∷ index) zero all = all.0
numbers_at types (ids ∷ index) (suc f) all = numbers_at types index f all.1

pub AreNumbers-under : (types : List Ty) (index : List (List TypeId)) (pattern : Ty)
    (ids : List TypeId) → AreIndexed types index → AreUnder index pattern ids →
    AreNumbers types ids
AreNumbers-under types index pattern ids all under =
    all_of (IsNumber types) ids
    (λ id at.
    let there = under.each id at in
    holds (IsNumber types) (numbers_of index there.0) id (numbers_at types index there.0 all)
    there.3)
