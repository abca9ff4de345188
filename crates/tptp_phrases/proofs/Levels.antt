-- Phrases that nest, read level by level.
use Rattle.std.proofs.Common.{◌≡◌, ℕ, zero, suc, ◌+◌, ◌≤◌, inl, inr, List, ◌∷◌, Bool, true}
use Rattle.std.proofs.Common.{length, Option, Some, Ok, Err, refl, subst}
use Rattle.std.proofs.Common.{arith}
use Rattle.tptp_words.specs.Text.{Token}
use Rattle.tptp_phrases.specs.Phrase.{Phrase, Variant, nothing}
use Rattle.tptp_phrases.specs.Readers.{seen, Cause, Syntax, TooDeep, Stray, Outcome, Reader}
use Rattle.tptp_phrases.specs.Readers.{goes_on}
use Rattle.tptp_phrases.proofs.Outcomes.{Stops, Refused, Deeper, Any, At, Takes, Leaves, Fails}
use Rattle.tptp_phrases.proofs.Outcomes.{Parses, Reading, Starts, Opens, First}

abbrev pub at_depth : {K : Type 0} → Option K → ℕ → Variant K
at_depth kind n = record { depth = n; stray = kind }

-- one level deeper than where u stands
abbrev pub below_from : {K A : Type 0} → (Variant K → Phrase A) → Option K → ℕ → Phrase A
below_from u kind zero = nothing
below_from u kind (suc n) = u (at_depth kind n)

abbrev pub below : {K A : Type 0} → (Variant K → Phrase A) → Variant K → Phrase A
below u i = below_from u i.stray i.depth

module _ {K A : Type 0} (u : Variant K → Phrase A) (t : Token → Bool) (kind : Token → Option K) where
  pub starts_below : Starts u t kind → Starts (below u) t kind
  unfolding nothing
  starts_below h = record {
    begun = λ i ws r j. begun i.stray i.depth ws r j;
    whole = λ i ws r x d. whole i.stray i.depth ws r x d;
  }
    where
      begun : (s : Option K) (n : ℕ) (ws r : List Token) → (below_from u s n).begins ws r
          → First t kind (at_depth s n) ws r
      begun s zero ws r j = inl j
      begun s (suc n) ws r j = elim (h.begun (at_depth s n) ws r j) [
        | inl e ↦ inl e
        | inr k ↦ elim k [
          | inl l ↦ inr (inl l)
          | inr a ↦ inr (inr (record {
            next = a.next;
            after = a.after;
            which = a.which;
            is = a.is;
            of = a.of;
            taken = a.taken;
          }))
        ]
      ]

      whole : (s : Option K) (n : ℕ) (ws r : List Token) (x : A) → (below_from u s n).derives ws r x
          → goes_on t ws ≡ true
      whole s zero ws r x d = absurd d
      whole s (suc n) ws r x d = h.whole (at_depth s n) ws r x d

  pub opens_below : (m : ℕ) → Opens u t kind m → Opens (below u) t kind (suc m)
  unfolding nothing
  opens_below m h = record {
    none = λ i ws. none i.stray i.depth ws;
    one = λ i w ws l e. one i.stray i.depth w ws l e;
    astray = λ i w ws k l e v. astray i.stray i.depth w ws k l e v;
  }
    where
      none : (s : Option K) (n : ℕ) (ws : List Token) → (below_from u s n).begins ws ws
      none s zero ws = refl
      none s (suc n) ws = h.none (at_depth s n) ws

      one : (s : Option K) (n : ℕ) (w : Token) (ws : List Token) → suc m ≤ n → t w ≡ true
          → (below_from u s n).begins (w ∷ ws) ws
      one s zero w ws l e = absurd (omega arith)
      one s (suc n) w ws l e = h.one (at_depth s n) w ws (omega arith) e

      astray : (s : Option K) (n : ℕ) (w : Token) (ws : List Token) (k : K) → suc m ≤ n
          → kind w ≡ Some k → s ≡ Some k → (below_from u s n).begins (w ∷ ws) ws
      astray s zero w ws k l e v = absurd (omega arith)
      astray s (suc n) w ws k l e v = h.astray (at_depth s n) w ws k (omega arith) e v

-- ---- one level deeper, read

module _ {K A : Type 0} (u : Variant K → Phrase A) (c : Token → Bool) where
  -- a fact of u in each variant, one level deeper
  lifted : (b : ℕ) (P : Phrase A → Type 0) → ((i : Variant K) → b ≤ i.depth → P (u i))
      → (i : Variant K) → suc b ≤ i.depth → P (below u i)
  lifted b P h i l = go i.depth l
    where
      go : (n : ℕ) → suc b ≤ n → P (below_from u i.stray n)
      go zero l = absurd (omega arith)
      go (suc n) l = h (at_depth i.stray n) (omega arith)

  refused_below : (N M : Variant K → Type 0) (b : ℕ) (ws rest : List Token)
      → ((s : Option K) (n : ℕ) → M (at_depth s (suc n)) → N (at_depth s n))
      → Refused u c b N ws rest → Refused (below u) c (suc b) M ws rest
  unfolding nothing
  refused_below N M b ws rest back h = record {
    begun = λ i l. lifted b (λ p. p.begins ws rest) h.begun i l;
    inside = h.inside;
    within = λ i r k j. within i.stray i.depth r k j;
    whole = λ i r x k d. whole i.stray i.depth r x k d;
    none = λ i r x k d s. none i.stray i.depth r x k d s;
  }
    where
      within : (s : Option K) (n : ℕ) (r : List Token) → M (at_depth s n)
          → (below_from u s n).begins ws r → length rest ≤ length r
      within s zero r k j = subst (λ z. length rest ≤ length z) j h.inside
      within s (suc n) r k j = h.within (at_depth s n) r (back s n k) j

      whole : (s : Option K) (n : ℕ) (r : List Token) (x : A) → M (at_depth s n)
          → (below_from u s n).derives ws r x → length rest ≤ length r
      whole s zero r x k d = absurd d
      whole s (suc n) r x k d = h.whole (at_depth s n) r x (back s n k) d

      none : (s : Option K) (n : ℕ) (r : List Token) (x : A) → M (at_depth s n)
          → (below_from u s n).derives ws r x → Stops c r → ⊥
      none s zero r x k d e = d
      none s (suc n) r x k d e = h.none (at_depth s n) r x (back s n k) d e

  further_below : (V : Variant K → Type 0) (b : ℕ) (ws rest : List Token)
      → ((s : Option K) (n : ℕ) → V (at_depth s (suc n)) → V (at_depth s n))
      → Deeper u b V ws rest → Deeper (below u) (suc b) V ws rest
  further_below V b ws rest back h = record {
    next = h.next;
    after = h.after;
    is = h.is;
    enough = h.enough;
    begun = λ i v l. go i.stray i.depth v l;
  }
    where
      go : (s : Option K) (n : ℕ) → V (at_depth s n) → suc b + h.enough ≤ n
          → (below_from u s n).begins ws h.after
      go s zero v l = absurd (omega arith)
      go s (suc n) v l = h.begun (at_depth s n) (back s n v) (omega arith)

  fails_below : (b : ℕ) (ws rest : List Token) (why : Cause K) → Fails u c b ws why rest
      → Fails (below u) c (suc b) ws why rest
  fails_below b ws rest Syntax h = refused_below Any Any b ws rest (λ s n i. i) h
  fails_below b ws rest TooDeep h = (
    refused_below (At b) (At (suc b)) b ws rest (λ s n e. cc e) h.0,
    further_below Any b ws rest (λ s n v. v) h.1,
  )
  fails_below b ws rest (Stray k) h = (
    refused_below (Leaves k) (Leaves k) b ws rest (λ s n e. e) h.0,
    further_below (Takes k) b ws rest (λ s n v. v) h.1,
  )

  parses_below : (b : ℕ) (ws : List Token) (o : Outcome K A) → Parses u c b ws o
      → Parses (below u) c (suc b) ws o
  unfolding nothing
  parses_below b ws (Ok v) h = record {
    derives = λ i l. lifted b (λ p. p.derives ws (seen v.1) v.0) h.derives i l;
    inside = h.inside;
    within = λ i r j. within i.stray i.depth r j;
    whole = λ i r x d. whole i.stray i.depth r x d;
    only = λ i r x d s. only i.stray i.depth r x d s;
  }
    where
      within : (s : Option K) (n : ℕ) (r : List Token) → (below_from u s n).begins ws r
          → length (seen v.1) ≤ length r
      within s zero r j = subst (λ z. length (seen v.1) ≤ length z) j h.inside
      within s (suc n) r j = h.within (at_depth s n) r j

      whole : (s : Option K) (n : ℕ) (r : List Token) (x : A) → (below_from u s n).derives ws r x
          → length (seen v.1) ≤ length r
      whole s zero r x d = absurd d
      whole s (suc n) r x d = h.whole (at_depth s n) r x d

      only : (s : Option K) (n : ℕ) (r : List Token) (x : A) → (below_from u s n).derives ws r x
          → Stops c r → (r ≡ seen v.1) × (x ≡ v.0)
      only s zero r x d e = absurd d
      only s (suc n) r x d e = h.only (at_depth s n) r x d e
  parses_below b ws (Err e) h = fails_below b ws (seen e.1) e.0 h

  pub reads_below : (b : ℕ) (r : Reader K A) → Reading u c b r → Reading (below u) c (suc b) r
  reads_below b r h =
      record { at = λ s. parses_below b (seen s) (r s) (h.at s); later = h.later }
