-- What is said of a reader of one word, and of the places where only stray words stand.
use Rattle.std.proofs.Common.{◌≡◌, ℕ, ◌≤◌, inl, inr, List, [], ◌∷◌, Bool, length}
use Rattle.std.proofs.Common.{Option, Some, None, Err, refl, ap, subst}
use Rattle.std.proofs.Common.{arith}
use Rattle.std.proofs.Math.Nat.{le_refl, le_of_eq}
use Rattle.tptp_words.specs.declared.word.WordError.{WordError}
use Rattle.tptp_words.specs.Text.{Token, Placed, tokens}
use Rattle.tptp_phrases.specs.Phrase.{Variant, word, nothing, stray}
use Rattle.tptp_words.specs.Scanning.{Left}
use Rattle.tptp_phrases.specs.Readers.{seen}
use Rattle.tptp_phrases.specs.Readers.{taken, take_from, take_word, refuse, refuse_stray, cause_of}
use Rattle.tptp_phrases.specs.Readers.{stray_cause}
use Rattle.tptp_phrases.proofs.Outcomes.{Refused, Any, Leaves, Parses}
use Rattle.tptp_phrases.proofs.Outcomes.{IsLater, left_of, Reading, never}
use Rattle.tptp_phrases.proofs.Sequences.{not_later}

-- ---- a word that is taken

module _ {A : Type 0} (f : Token → Option A) (w : Placed) (ws : List Placed) where
  untaken : {C : Type 0} {r : List Token} (v : Token) (t : A) → f w.token ≡ None
      → w.token ∷ tokens ws ≡ v ∷ r → f v ≡ Some t → C
  untaken v t e j k = absurd (cc (e, j, k))

  front : (r : List Token) → w.token ∷ tokens ws ≡ r → length (tokens ws) ≤ length r
  front r j = subst (λ z. length (tokens ws) ≤ length z) j (omega arith)

  back : (v : Token) (r : List Token) → w.token ∷ tokens ws ≡ v ∷ r
      → length (tokens ws) ≤ length r
  back v r j = let same : tokens ws ≡ r = cc j in le_of_eq (ap length same)

  word_at : (K : Type 0) (b : ℕ) (fault : Option WordError) (o : Option A) → f w.token ≡ o
      → Parses {K = K} (λ _. word f) never b (w.token ∷ tokens ws) (taken w ws fault o)
  unfolding word
  word_at K b fault None e = record {
    begun = λ _ _. inl refl;
    inside = le_refl (length (w.token ∷ tokens ws));
    within = λ i r _ h. elim h [
      | inl j ↦ le_of_eq (ap length j)
      | inr j ↦ untaken j.0 j.1 e j.2 j.3
    ];
    whole = λ i r x _ d. untaken d.0 x e d.1 d.2;
    none = λ i r x _ d _. untaken d.0 x e d.1 d.2;
  }
  word_at K b fault (Some a) e = record {
    derives = λ _ _. (w.token, refl, e);
    inside = omega arith;
    within = λ i r h. elim h [ inl j ↦ front r j | inr j ↦ back j.0 r j.2 ];
    whole = λ i r x d. back d.0 r d.1;
    only = λ i r x d _. (cc d.1, cc (d.1, d.2, e));
  }

parses_word : (K : Type 0) {A : Type 0} (f : Token → Option A) (b : ℕ) (ws : List Placed)
    (fault : Option WordError)
    → Parses {K = K} (λ _. word f) never b (tokens ws) (take_from f ws fault)
unfolding word
parses_word K f b [] fault = record {
  begun = λ _ _. inl refl;
  inside = le_refl 0;
  within = λ i r _ h. elim h [ inl j ↦ le_of_eq (ap length j) | inr j ↦ absurd (cc j.2) ];
  whole = λ i r x _ d. absurd (cc d.1);
  none = λ i r x _ d _. cc d.1;
}
parses_word K f b (w ∷ ws) fault = word_at f w ws K b fault (f w.token) refl

later_taken : (K : Type 0) {A : Type 0} (w : Placed) (ws : List Placed) (fault : Option WordError)
    (o : Option A)
    → IsLater (record { words = w ∷ ws; fault = fault }) (left_of {K = K} (taken w ws fault o))
later_taken K w ws fault None = not_later (record { words = w ∷ ws; fault = fault })
later_taken K w ws fault (Some a) = record { front = w ∷ []; words = refl; fault = refl }

later_word : (K : Type 0) {A : Type 0} (f : Token → Option A) (ws : List Placed)
    (fault : Option WordError)
    → IsLater (record { words = ws; fault = fault }) (left_of {K = K} (take_from f ws fault))
later_word K f [] fault = not_later (record { words = []; fault = fault })
later_word K f (w ∷ ws) fault = later_taken K w ws fault (f w.token)

pub reads_word : {K A : Type 0} (f : Token → Option A) (b : ℕ)
    → Reading {K = K} (λ _. word f) never b (take_word f)
unfolding take_word
reads_word f b = record {
  at = λ s. parses_word _ f b s.words s.fault;
  later = λ s. later_word _ f s.words s.fault;
}

-- ---- places where nothing stands

pub reads_nothing : {K A : Type 0} (c : Token → Bool) (b : ℕ)
    → Reading {K = K} {A = A} (λ _. nothing) c b refuse
unfolding nothing refuse
reads_nothing c b = record {
  at = λ s. record {
    begun = λ _ _. refl;
    inside = le_refl (length (seen s));
    within = λ i r _ h. le_of_eq (ap length h);
    whole = λ i r x _ d. absurd d;
    none = λ i r x _ d _. d;
  };
  later = not_later;
}

module _ {K : Type 0} (A : Type 0) (kind : Token → Option K) (c : Token → Bool) (b : ℕ) where
  -- no stray word stands first in the variants of N
  refused_here : (N : Variant K → Type 0) (ws : List Token)
      → ((i : Variant K) (w : Token) (r : List Token) (k : K) → N i → ws ≡ w ∷ r
      → kind w ≡ Some k → i.stray ≡ Some k → ⊥)
      → Refused {A = A} (λ i. stray kind i) c b N ws ws
  unfolding stray
  refused_here N ws none_there = record {
    begun = λ _ _. inl refl;
    inside = le_refl (length ws);
    within = λ i r n h. elim h [
      | inl j ↦ le_of_eq (ap length j)
      | inr j ↦ absurd (none_there i j.0 r j.1 n j.2 j.3 j.4)
    ];
    whole = λ i r x _ d. absurd d;
    none = λ i r x _ d _. d;
  }

  stray_begun : (w : Token) (ws rest : List Token) (k : K) → rest ≡ w ∷ ws → kind w ≡ Some k
      → (i : Variant K) → i.stray ≡ Some k → (stray {A = A} kind i).begins rest ws
  unfolding stray
  stray_begun w ws rest k is e i v = inr (w, k, is, e, v)

  stray_at : (w : Token) (ws : List Token) (s : Left) → seen s ≡ w ∷ ws → (o : Option K)
      → kind w ≡ o → Parses {A = A} (λ i. stray kind i) c b (seen s) (Err (cause_of o, s))
  stray_at w ws s is None e =
      refused_here Any (seen s) (λ i v r k _ j h _. cc (is, e, j, h))
  stray_at w ws s is (Some k) e = (
    refused_here (Leaves k) (seen s) (λ i v r l n j h m. n (cc (is, e, j, h, m))),
    record {
      next = w;
      after = ws;
      is = is;
      enough = 0;
      begun = λ i v _. stray_begun w ws (seen s) k is e i v;
    },
  )

  stray_words : (s : Left) (ws : List Token) → seen s ≡ ws
      → Parses {A = A} (λ i. stray kind i) c b (seen s) (Err (stray_cause kind ws, s))
  stray_words s [] is = refused_here Any (seen s) (λ i v r k _ j h _. cc (is, j))
  stray_words s (w ∷ ws) is = stray_at w ws s is (kind w) refl

  pub reads_stray : Reading {A = A} (λ i. stray kind i) c b (refuse_stray kind)
  unfolding refuse_stray
  reads_stray = record { at = λ s. stray_words s (seen s) refl; later = not_later }
