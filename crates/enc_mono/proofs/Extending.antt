-- How a search goes on from a partial substitution by the matches of a pattern with numbers.
use Rattle.std.specs.Prelude.{ℕ, ◌≡◌, ◌<◌, ◌+◌, ◌||◌, ◌⊎◌, Bool, false, true, IsTrue, List, [], ◌∷◌, ◌++◌, length, take, get_or, Option, Some, None, IfSome}
use Rattle.std.specs.List.{Contains, AllByRecursion}
use Rattle.std.proofs.Common.{refl, sym, ap, subst, ◌∙◌, arith, inl, inr}
use Rattle.std.proofs.lemmas.List.{append_assoc, append-nil, take_more}
use Rattle.std.proofs.lemmas.List.Elements.{Contains-append_left, Contains-append_right, Contains-append_cases, Contains-push, Contains-push_cases}
use Rattle.std.proofs.lemmas.Option.{slice_get_within}
use Rattle.tf_core.specs.declared.ty.Ty.{Ty}
use Rattle.tf_core.specs.Types.{instantiate}
use Rattle.tf_core.specs.Occurrences.{occurs_in_type, occurs_in_types}
use Rattle.tf_types.specs.declared.node.TypeId.{TypeId}
use Rattle.tf_types.specs.Numbers.{type_at}
use Rattle.tf_types.specs.Matching.{KeepsTo, AreBound, IsMatch, IsBound}
use Rattle.tf_types.proofs.MatchLaws.{matches_bind_what_occurs}
use Rattle.enc_mono.specs.declared.search.Search.{Search}
use Rattle.enc_mono.specs.Calls.Searched.{Partial, met_in, pending_in, IsExtension, IsExtended, GoesOn, Meets}
use Rattle.enc_mono.proofs.Listed.{all-same, all-append}

-- a list of one

pub only : {A : Type 0} (first item : A) → Contains (first ∷ []) item → first ≡ item
only first item at =
    elim (Contains-push_cases [] first item at) [
      | inl nowhere ↦ absurd (let within : nowhere.0 < 0 = nowhere.1 in omega (arith, within))
      | inr same ↦ same
    ]

pub alone : {A : Type 0} (item : A) → Contains (item ∷ []) item
alone item = Contains-push [] item

-- the same number for one type variable in one pattern
in_one : (i : ℕ) (pattern : Ty) → IsTrue (occurs_in_type i pattern) →
    IsTrue (occurs_in_types i (pattern ∷ []))
in_one i pattern has = ap (λ b. b || false) has

or_false : (b : Bool) → (b || false) ≡ b
or_false true = refl
or_false false = refl

of_one : (i : ℕ) (pattern : Ty) → IsTrue (occurs_in_types i (pattern ∷ [])) →
    IsTrue (occurs_in_type i pattern)
of_one i pattern has = sym (or_false (occurs_in_type i pattern)) ∙ has

first_of : (a b : Ty) → (a ∷ []) ≡ (b ∷ []) → a ≡ b
first_of a b same = ap (λ types. get_or types 0 a) same

module _ (types : List Ty) (bound : Partial) (pattern : Ty) where
  -- a match with one number
  module _ (id : TypeId) (more : Partial)
      (match : IsMatch types bound (pattern ∷ []) (id ∷ []) (Some more))
    where
      pub extension_count : length more ≡ length bound
      extension_count =
          let some = matches_bind_what_occurs.found types bound (pattern ∷ []) (id ∷ []) more
          match in
          sym ((match some.0).1 some.1).count ∙ some.1.0.count

      pub extension_binds : (i : ℕ) → i < length bound →
          IsBound bound i ⊎ IsTrue (occurs_in_type i pattern) → IsBound more i
      extension_binds i within (inl before) =
          (matches_bind_what_occurs.binds types bound (pattern ∷ []) (id ∷ []) more match i
          within).1 (inl before)
      extension_binds i within (inr has) =
          (matches_bind_what_occurs.binds types bound (pattern ∷ []) (id ∷ []) more match i
          within).1 (inr (in_one i pattern has))

      pub extension_bound : (i : ℕ) → IsBound more i →
          IsBound bound i ⊎ IsTrue (occurs_in_type i pattern)
      extension_bound i is =
          let inside = slice_get_within more i (Some is.0) is.1 in
          elim ((matches_bind_what_occurs.binds types bound (pattern ∷ []) (id ∷ []) more match i
          (omega (arith, inside, extension_count))).0 is) [
            | inl before ↦ inl before
            | inr has ↦ inr (of_one i pattern has)
          ]

      -- what keeps to it keeps to what was bound, and makes the pattern the type of the number
      pub extension_keeps : (substitution : List Ty) → KeepsTo types more substitution →
          KeepsTo types bound substitution
          × (instantiate substitution pattern ≡ type_at types id)
      extension_keeps substitution keeps =
          let both = (match substitution).0 keeps in
          (both.0, first_of (instantiate substitution pattern) (type_at types id) both.1)

      extension_met : (met : List Partial) → Contains met more →
          IsExtended types met bound pattern id
      extension_met met there substitution keeps is = (
        more,
        there,
        (match substitution).1 (keeps, ap (λ ty. ty ∷ []) is),
        λ i before. extension_binds i
            (slice_get_within bound i (Some before.0) before.1) (inl before),
        λ i within has. extension_binds i within (inr has),
      )

  -- what was met is met later
  widened : (met more : List Partial) → ((b : Partial) → Contains met b → Contains more b) →
      (id : TypeId) → IsExtended types met bound pattern id → IsExtended types more bound pattern id
  widened met more grows id is substitution keeps same =
      let before = is substitution keeps same in
      (before.0, grows before.0 before.1, before.2, before.3, before.4)

  pub extended_later : (met added later : List Partial) → later ≡ met ++ added → (id : TypeId) →
      IsExtended types met bound pattern id → IsExtended types later bound pattern id
  extended_later met added later grown id =
      widened met later
      (λ b at. subst (λ list. Contains list b) (sym grown) (Contains-append_left met added b at)) id

  pub GoesOn-nothing : (old : Search) → GoesOn types bound pattern [] old old
  GoesOn-nothing old = record {
    added = [];
    met = sym (append-nil (met_in old));
    pending = sym (append-nil (pending_in old));
    found = refl;
    each = tt;
    extended = λ id at. absurd (let within : at.0 < 0 = at.1 in omega (arith, within));
  }

  pub GoesOn-no_match : (id : TypeId) (old : Search) →
      IsMatch types bound (pattern ∷ []) (id ∷ []) None →
      GoesOn types bound pattern (id ∷ []) old old
  GoesOn-no_match id old none = record {
    added = [];
    met = sym (append-nil (met_in old));
    pending = sym (append-nil (pending_in old));
    found = refl;
    each = tt;
    extended = λ other at substitution keeps is.
        absurd (none substitution (
          keeps,
          ap (λ ty. ty ∷ [])
              (is ∙ ap (type_at types) (sym (only id other at))),
        ));
  }

  module _ (id : TypeId) (more : Partial)
      (match : IsMatch types bound (pattern ∷ []) (id ∷ []) (Some more))
      (numbers : AreBound types more) (old new : Search) (meets : Meets more old new)
    where
      each_added : (added : List Partial) → (added ≡ []) ⊎ (added ≡ more ∷ []) →
          AllByRecursion (IsExtension types bound pattern (id ∷ [])) added
      each_added added (inl none) =
          subst (AllByRecursion (IsExtension types bound pattern (id ∷ []))) (sym none) tt
      each_added added (inr one) =
          subst (AllByRecursion (IsExtension types bound pattern (id ∷ []))) (sym one)
          ((id, alone id, numbers, match), tt)

      pub GoesOn-match : GoesOn types bound pattern (id ∷ []) old new
      GoesOn-match = record {
        added = meets.added;
        met = meets.met;
        pending = meets.pending;
        found = meets.found;
        each = each_added meets.added meets.no_other;
        extended = λ other at. subst (IsExtended types (met_in new) bound pattern)
            (only id other at) (extension_met id more match (met_in new) meets.there);
      }

  -- by some numbers, and then by more
  module _ (ids others : List TypeId) (old mid new : Search)
      (first : GoesOn types bound pattern ids old mid)
      (second : GoesOn types bound pattern others mid new)
    where
      earlier : (b : Partial) → IsExtension types bound pattern ids b →
          IsExtension types bound pattern (ids ++ others) b
      earlier b is = (is.0, Contains-append_left ids others is.0 is.1, is.2, is.3)

      later : (b : Partial) → IsExtension types bound pattern others b →
          IsExtension types bound pattern (ids ++ others) b
      later b is = (is.0, Contains-append_right ids others is.0 is.1, is.2, is.3)

      by_either : (id : TypeId) → Contains ids id ⊎ Contains others id →
          IsExtended types (met_in new) bound pattern id
      by_either id (inl at) =
          extended_later (met_in mid) second.added (met_in new) second.met id
          (first.extended id at)
      by_either id (inr at) = second.extended id at

      pub GoesOn-twice : GoesOn types bound pattern (ids ++ others) old new
      GoesOn-twice = record {
        added = first.added ++ second.added;
        met = second.met ∙ ap (λ front. front ++ second.added) first.met
            ∙ append_assoc (met_in old) first.added second.added;
        pending = second.pending ∙ ap (λ front. front ++ second.added) first.pending
            ∙ append_assoc (pending_in old) first.added second.added;
        found = second.found ∙ first.found;
        each = all-append (IsExtension types bound pattern (ids ++ others)) first.added
            second.added
            (all-same (IsExtension types bound pattern ids)
            (IsExtension types bound pattern (ids ++ others)) earlier first.added first.each)
            (all-same (IsExtension types bound pattern others)
            (IsExtension types bound pattern (ids ++ others)) later second.added second.each);
        extended = λ id at. by_either id (Contains-append_cases ids others id at);
      }

  -- by one number more, as a loop does
  pub GoesOn-next : (ids : List TypeId) (k : ℕ) (default : TypeId) (old mid new : Search) →
      k < length ids → GoesOn types bound pattern (take k ids) old mid →
      GoesOn types bound pattern (get_or ids k default ∷ []) mid new →
      GoesOn types bound pattern (take (k + 1) ids) old new
  GoesOn-next ids k default old mid new within first second =
      subst (λ front. GoesOn types bound pattern front old new)
      (sym (take_more ids k default within))
      (GoesOn-twice (take k ids) (get_or ids k default ∷ []) old mid new first second)

-- a match as code reads it
module _ (types : List Ty) (bound : Partial) (pattern : Ty) (id : TypeId) (patterns : List Ty)
    (ids : List TypeId) (one_pattern : patterns ≡ pattern ∷ []) (one_id : ids ≡ id ∷ [])
    (result : Option Partial) (match : IsMatch types bound patterns ids result)
  where
    of_these : IsMatch types bound (pattern ∷ []) (id ∷ []) result
    of_these =
        subst (λ ps. IsMatch types bound ps (id ∷ []) result) one_pattern
        (subst (λ ns. IsMatch types bound patterns ns result) one_id match)

    pub IsMatch-read : (more : Partial) → result ≡ Some more →
        IsMatch types bound (pattern ∷ []) (id ∷ []) (Some more)
    IsMatch-read more is = subst (IsMatch types bound (pattern ∷ []) (id ∷ [])) is of_these

    pub IsMatch-none : result ≡ None → IsMatch types bound (pattern ∷ []) (id ∷ []) None
    IsMatch-none is = subst (IsMatch types bound (pattern ∷ []) (id ∷ [])) is of_these

pub AreBound-read : (types : List Ty) (result : Option Partial) →
    IfSome result (AreBound types) → (more : Partial) → result ≡ Some more → AreBound types more
AreBound-read types result all more is = subst (λ r. IfSome r (AreBound types)) is all
