-- Any words with brackets that match, read to the first bracket that closes none of them.
use Rattle.std.proofs.Common.{◌≡◌, ℕ, zero, suc, ◌≤◌, ◌⊎◌, inl, inr, List, [], ◌∷◌, ◌++◌, Bool, true}
use Rattle.std.proofs.Common.{false, length, Option, Some, None, Ok, Err, refl, sym, ap, subst}
use Rattle.std.proofs.Common.{arith, ◌∙◌}
use Rattle.std.specs.Prelude.{not}
use Rattle.std.proofs.Math.Nat.{le_refl, le_of_eq, le_trans}
use Rattle.tptp_words.specs.declared.word.WordError.{WordError}
use Rattle.tptp_words.specs.Text.{Token, Placed, tokens}
use Rattle.tptp_phrases.specs.Phrase.{balanced, open_behind, open_after}
use Rattle.tptp_words.specs.Scanning.{Left}
use Rattle.tptp_phrases.specs.Readers.{seen, Syntax, Outcome}
use Rattle.tptp_phrases.specs.Readers.{enough, skip_from, skip_balanced, unless_none}
use Rattle.tptp_phrases.proofs.Outcomes.{Stops, Parses, Reading, IsLater, left_of}
use Rattle.tptp_phrases.proofs.Outcomes.{Apart}
use Rattle.tptp_phrases.proofs.Sequences.{not_later, later_still}

module _ (opens closes : Token → Bool) where
  -- words that may go on: all but one that closes
  abbrev pub goes_balanced : Token → Bool
  goes_balanced w = not (closes w)

  -- the words up to r close all of n open brackets; `some` tells whether a word stands before
  abbrev Whole : ℕ → Bool → List Token → List Token → Type 0
  Whole n some ws r =
      (front : List Token) × (ws ≡ front ++ r) × (open_after opens closes (Some n) front ≡ Some 0)
      × ((some ≡ true) ⊎ ((front ≡ []) → ⊥))

  -- the words up to r close nothing that is not open
  abbrev Begun : ℕ → List Token → List Token → Type 0
  Begun n ws r =
      (front : List Token) × (m : ℕ) × (ws ≡ front ++ r)
      × (open_after opens closes (Some n) front ≡ Some m)

  record Skipped (n : ℕ) (some : Bool) (ws rest : List Token) : Type 0 where
    derives : Whole n some ws rest
    inside : length rest ≤ length ws
    within : (r : List Token) → Begun n ws r → length rest ≤ length r
    only : (r : List Token) → Whole n some ws r → Stops goes_balanced r → r ≡ rest

  record Stuck (n : ℕ) (some : Bool) (ws rest : List Token) : Type 0 where
    begun : Begun n ws rest
    inside : length rest ≤ length ws
    within : (r : List Token) → Begun n ws r → length rest ≤ length r
    none : (r : List Token) → Whole n some ws r → Stops goes_balanced r → ⊥

  abbrev Skips : {K : Type 0} → ℕ → Bool → List Token → Outcome K (Unit {0}) → Type 0
  Skips n some ws (Ok x) = Skipped n some ws (seen x.1)
  Skips n some ws (Err e) = (e.0 ≡ Syntax) × Stuck n some ws (seen e.1)

  no_words : (front r : List Token) → [] ≡ front ++ r → (front ≡ []) × (r ≡ [])
  no_words [] r e = (refl, sym e)
  no_words (w ∷ front) r e = absurd (cc e)

  at_end : (K : Type 0) (n : ℕ) (some : Bool) (fault : Option WordError)
      → Skips {K = K} n some [] (enough n some (record { words = []; fault = fault }))
  at_end K zero true fault = record {
    derives = ([], refl, refl, inl refl);
    inside = le_refl 0;
    within = λ r (front, m, e, o). let k = (no_words front r e).1 in rw k (le_refl 0);
    only = λ r (front, e, o, s) t. (no_words front r e).1;
  }
  at_end K zero false fault = (
    refl,
    record {
      begun = ([], 0, refl, refl);
      inside = le_refl 0;
      within = λ r (front, m, e, o). let k = (no_words front r e).1 in rw k (le_refl 0);
      none = λ r (front, e, o, s) t. elim s [
        | inl h ↦ cc h
        | inr h ↦ h (no_words front r e).0
      ];
    },
  )
  at_end K (suc n) some fault = (
    refl,
    record {
      begun = ([], suc n, refl, refl);
      inside = le_refl 0;
      within = λ r (front, m, e, o). let k = (no_words front r e).1 in rw k (le_refl 0);
      none = λ r (front, e, o, s) t. let k = (no_words front r e).0 in none front k o;
    },
  )
    where
      none : (front : List Token) → front ≡ [] → open_after opens closes (Some (suc n)) front ≡ Some 0
          → ⊥
      none [] k o = cc o
      none (w ∷ front) k o = cc k

  -- ---- one word more

  module _ (apart : Apart opens closes) (w : Token) (n : ℕ) where
    -- a word that is taken closes nothing that was not open, so no whole front ends before it
    front_stops : (m : ℕ) (o c : Bool) → opens w ≡ o → closes w ≡ c → open_behind o c n ≡ Some m
        → n ≡ 0 → closes w ≡ true → ⊥
    front_stops m true c e f h z s = let off = apart w e in cc (off, s)
    front_stops m false false e f h z s = cc (f, s)
    front_stops m false true e f h z s = go n z h
      where
        go : (k : ℕ) → k ≡ 0 → open_behind false true k ≡ Some m → ⊥
        go zero z h = cc h
        go (suc k) z h = cc z

    -- a word that is not taken closes what is not open
    none_open : (o c : Bool) (k : ℕ) → open_behind o c k ≡ None → k ≡ 0
    none_open true c k h = cc h
    none_open false false k h = cc h
    none_open false true zero h = refl
    none_open false true (suc k) h = cc h

    module _ (ws : List Token) where
      cons_back : (v : Token) (front r : List Token) → w ∷ ws ≡ (v ∷ front) ++ r
          → (v ≡ w) × (ws ≡ front ++ r)
      cons_back v front r e = (cc e, cc e)

      after_first : (v : Token) (front : List Token) (o : Option ℕ) → v ≡ w
          → open_behind (opens w) (closes w) n ≡ o
          → open_after opens closes (Some n) (v ∷ front) ≡ open_after opens closes o front
      after_first v front o e h =
          ap (λ z. open_after opens closes (open_behind (opens z) (closes z) n) front) e
          ∙ ap (λ z. open_after opens closes z front) h

      begun_back : (m : ℕ) (rest r : List Token) → open_behind (opens w) (closes w) n ≡ Some m
          → length rest ≤ length ws
          → ((r : List Token) → Begun m ws r → length rest ≤ length r)
          → Begun n (w ∷ ws) r → length rest ≤ length r
      begun_back m rest r h lo f ([], k, e, o) =
          subst (λ z. length rest ≤ length z) e (le_trans lo (omega arith))
      begun_back m rest r h lo f (v ∷ front, k, e, o) =
          let c = cons_back v front r e in
          f r (front, k, c.1, sym (after_first v front (Some m) c.0 h) ∙ o)

      whole_back : (m : ℕ) (some : Bool) (r : List Token)
          → open_behind (opens w) (closes w) n ≡ Some m → Stops goes_balanced r
          → Whole n some (w ∷ ws) r → Whole m true ws r
      whole_back m some r h s ([], e, o, t) =
          absurd (front_stops m (opens w) (closes w) refl refl h (cc o)
          (closing (subst (λ z. Stops goes_balanced z) (sym e) s).stops))
        where
          closing : not (closes w) ≡ false → closes w ≡ true
          closing e = go (closes w) e
            where
              go : (c : Bool) → not c ≡ false → c ≡ true
              go true e = refl
              go false e = cc e
      whole_back m some r h s (v ∷ front, e, o, t) =
          let c = cons_back v front r e in
          (front, c.1, sym (after_first v front (Some m) c.0 h) ∙ o, inl refl)

      one_more : (K : Type 0) (m : ℕ) (some : Bool) (out : Outcome K (Unit {0}))
          → open_behind (opens w) (closes w) n ≡ Some m → Skips m true ws out
          → Skips n some (w ∷ ws) out
      one_more K m some (Ok x) h k = record {
        derives = (
          w ∷ k.derives.0,
          ap (λ z. w ∷ z) k.derives.1,
          after_first w k.derives.0 (Some m) refl h ∙ k.derives.2,
          inr (λ e. cc e),
        );
        inside = le_trans k.inside (omega arith);
        within = λ r j. begun_back m (seen x.1) r h k.inside k.within j;
        only = λ r j s. k.only r (whole_back m some r h s j) s;
      }
      one_more K m some (Err e) h k = (
        k.0,
        record {
          begun = (
            w ∷ k.1.begun.0,
            k.1.begun.1,
            ap (λ z. w ∷ z) k.1.begun.2,
            after_first w k.1.begun.0 (Some m) refl h ∙ k.1.begun.3,
          );
          inside = le_trans k.1.inside (omega arith);
          within = λ r j. begun_back m (seen e.1) r h k.1.inside k.1.within j;
          none = λ r j s. k.1.none r (whole_back m some r h s j) s;
        },
      )

      -- ---- a word that closes nothing

      not_begun : (v : Token) (front r : List Token) (m : ℕ)
          → open_behind (opens w) (closes w) n ≡ None → w ∷ ws ≡ (v ∷ front) ++ r
          → open_after opens closes (Some n) (v ∷ front) ≡ Some m → ⊥
      not_begun v front r m h e o =
          let k = sym (after_first v front None (cons_back v front r e).0 h) ∙ o in cc k

      within_here : (r : List Token) → open_behind (opens w) (closes w) n ≡ None
          → Begun n (w ∷ ws) r → length (w ∷ ws) ≤ length r
      within_here r h ([], m, e, o) = le_of_eq (ap length e)
      within_here r h (v ∷ front, m, e, o) = absurd (not_begun v front r m h e o)

      only_here : (some : Bool) (r : List Token) → open_behind (opens w) (closes w) n ≡ None
          → Whole n some (w ∷ ws) r → (r ≡ w ∷ ws) × (some ≡ true)
      only_here some r h ([], e, o, t) = (sym e, elim t [ inl s ↦ s | inr s ↦ absurd (s refl) ])
      only_here some r h (v ∷ front, e, o, t) = absurd (not_begun v front r 0 h e o)

      here : (K : Type 0) (some : Bool) (s : Left) → seen s ≡ w ∷ ws
          → open_behind (opens w) (closes w) n ≡ None
          → Skips {K = K} n some (w ∷ ws) (enough zero some s)
      here K true s is h = record {
        derives = ([], sym is, ap Some (none_open (opens w) (closes w) n h), inl refl);
        inside = le_of_eq (ap length is);
        within = λ r j. rw is (within_here r h j);
        only = λ r j t. (only_here true r h j).0 ∙ sym is;
      }
      here K false s is h = (
        refl,
        record {
          begun = ([], n, sym is, refl);
          inside = le_of_eq (ap length is);
          within = λ r j. rw is (within_here r h j);
          none = λ r j t. let k = (only_here false r h j).1 in cc k;
        },
      )

  -- ---- the words, read

  module _ (K : Type 0) (apart : Apart opens closes) (fault : Option WordError) where
    skips : (n : ℕ) (some : Bool) (ws : List Placed)
        → Skips {K = K} n some (tokens ws) (skip_from opens closes n some ws fault)
    skips n some [] = at_end K n some fault
    skips n some (w ∷ ws) =
        go (open_behind (opens w.token) (closes w.token) n) refl (λ m. skips m true ws)
      where
        go : (o : Option ℕ) → open_behind (opens w.token) (closes w.token) n ≡ o
            → ((m : ℕ)
            → Skips {K = K} m true (tokens ws) (skip_from opens closes m true ws fault))
            → Skips {K = K} n some (w.token ∷ tokens ws)
            (unless_none (enough zero some (record { words = w ∷ ws; fault = fault }))
            (λ m. skip_from opens closes m true ws fault) o)
        go None h k =
            here apart w.token n (tokens ws) K some (record { words = w ∷ ws; fault = fault }) refl h
        go (Some m) h k =
            one_more apart w.token n (tokens ws) K m some (skip_from opens closes m true ws fault) h
            (k m)

    later_enough : (n : ℕ) (some : Bool) (s : Left) → IsLater s (left_of {K = K} (enough n some s))
    later_enough zero true s = not_later s
    later_enough zero false s = not_later s
    later_enough (suc n) some s = not_later s

    later_skips : (n : ℕ) (some : Bool) (ws : List Placed)
        → IsLater (record { words = ws; fault = fault })
        (left_of {K = K} (skip_from opens closes n some ws fault))
    later_skips n some [] = later_enough n some (record { words = []; fault = fault })
    later_skips n some (w ∷ ws) =
        go (open_behind (opens w.token) (closes w.token) n) (λ m. later_skips m true ws)
      where
        go : (o : Option ℕ)
            → ((m : ℕ) → IsLater (record { words = ws; fault = fault })
            (left_of {K = K} (skip_from opens closes m true ws fault)))
            → IsLater (record { words = w ∷ ws; fault = fault })
            (left_of {K = K} (unless_none
            (enough zero some (record { words = w ∷ ws; fault = fault }))
            (λ m. skip_from opens closes m true ws fault) o))
        go None k = later_enough zero some (record { words = w ∷ ws; fault = fault })
        go (Some m) k =
            later_still (record { front = w ∷ []; words = refl; fault = refl }) (k m)

  -- ---- as the phrase

  whole_of : (ws r : List Token) → Whole 0 false ws r → (balanced opens closes).derives ws r tt
  unfolding balanced
  whole_of ws r ([], e, o, t) = elim t [ inl s ↦ absurd (cc s) | inr s ↦ absurd (s refl) ]
  whole_of ws r (w ∷ front, e, o, t) = (w, front, e, o)

  of_whole : (ws r : List Token) (x : Unit {0}) → (balanced opens closes).derives ws r x
      → Whole 0 false ws r
  unfolding balanced
  of_whole ws r x (w, front, e, o) = (w ∷ front, e, o, inr (λ k. cc k))

  of_begun : (ws r : List Token) → (balanced opens closes).begins ws r → Begun 0 ws r
  unfolding balanced
  of_begun ws r (front, n, e, o) = (front, n, e, o)

  begun_of : (ws r : List Token) → Begun 0 ws r → (balanced opens closes).begins ws r
  unfolding balanced
  begun_of ws r (front, n, e, o) = (front, n, e, o)

  whole_begun : (ws r : List Token) → Whole 0 false ws r → Begun 0 ws r
  whole_begun ws r (front, e, o, t) = (front, 0, e, o)

  parses_balanced : (K : Type 0) (b : ℕ) (ws : List Token) (out : Outcome K (Unit {0}))
      → Skips 0 false ws out → Parses (λ _. balanced opens closes) goes_balanced b ws out
  parses_balanced K b ws (Ok x) h = record {
    derives = λ i l. whole_of ws (seen x.1) h.derives;
    inside = h.inside;
    within = λ i r j. h.within r (of_begun ws r j);
    whole = λ i r v d. h.within r (whole_begun ws r (of_whole ws r v d));
    only = λ i r v d s. (h.only r (of_whole ws r v d) s, refl);
  }
  parses_balanced K b ws (Err (Syntax, s)) h = record {
    begun = λ i l. begun_of ws (seen s) h.1.begun;
    inside = h.1.inside;
    within = λ i r n j. h.1.within r (of_begun ws r j);
    whole = λ i r v n d. h.1.within r (whole_begun ws r (of_whole ws r v d));
    none = λ i r v n d t. h.1.none r (of_whole ws r v d) t;
  }
  parses_balanced K b ws (Err e) h = absurd (cc h.0)

  pub reads_balanced : (K : Type 0) (b : ℕ) → Apart opens closes
      → Reading {K = K} (λ _. balanced opens closes) goes_balanced b (skip_balanced opens closes)
  unfolding skip_balanced
  reads_balanced K b apart = record {
    at = λ s. parses_balanced K b (seen s) (skip_from opens closes zero false s.words s.fault)
        (skips K apart s.fault zero false s.words);
    later = λ s. later_skips K apart s.fault zero false s.words;
  }
