-- Phrases that nest, read down to the limit of their levels.
use Rattle.std.proofs.Common.{◌≡◌, ℕ, zero, suc, inl, inr, List, [], ◌∷◌, Bool, true}
use Rattle.std.proofs.Common.{false, length, Option, Some, None, Err, refl, sym, ap, subst}
use Rattle.std.proofs.Common.{arith, if◌then◌else◌}
use Rattle.std.proofs.Math.Nat.{le_refl, le_of_eq}
use Rattle.tptp_words.specs.Text.{Token}
use Rattle.tptp_phrases.specs.Phrase.{Phrase, Variant, nothing, Rule, levels, deeper, nested}
use Rattle.tptp_words.specs.Scanning.{Left}
use Rattle.tptp_phrases.specs.Readers.{seen, TooDeep, Reader}
use Rattle.tptp_phrases.specs.Readers.{goes_on, at_limit, limit_cause, cause_of}
use Rattle.tptp_phrases.specs.Readers.{RuleReader, levels_at}
use Rattle.tptp_phrases.proofs.Outcomes.{Refused, Any, At, Leaves}
use Rattle.tptp_phrases.proofs.Outcomes.{Parses, Reading, Starts, Opens, StrayAt}
use Rattle.tptp_phrases.proofs.Sequences.{not_later}
use Rattle.tptp_phrases.proofs.SingleWords.{reads_nothing}
use Rattle.tptp_phrases.proofs.Forms.{Same, same_path, reads_same, starts_same, opens_same}
use Rattle.tptp_phrases.proofs.Levels.{below, below_from, starts_below, opens_below}
use Rattle.tptp_phrases.proofs.Levels.{reads_below}

module _ {K A : Type 0} (u : Variant K → Phrase A) (t : Token → Bool) (kind : Token → Option K)
    (c : Token → Bool) (m : ℕ) (starts : Starts u t kind) (opens : Opens u t kind m) where
  -- nothing is begun in the variants of N, in which no word stands first
  refused_here : (N : Variant K → Type 0) (ws : List Token)
      → ((i : Variant K) (r : List Token) → N i → (below u i).begins ws r → ws ≡ r)
      → ((i : Variant K) (r : List Token) (x : A) → N i → (below u i).derives ws r x → ⊥)
      → Refused (below u) c 0 N ws ws
  refused_here N ws front none = record {
    begun = λ i l. (opens_below u t kind m opens).none i ws;
    inside = le_refl (length ws);
    within = λ i r n j. le_of_eq (ap length (front i r n j));
    whole = λ i r x n d. absurd (none i r x n d);
    none = λ i r x n d s. none i r x n d;
  }

  -- at the limit nothing stands
  refused_at_zero : (ws : List Token) → Refused (below u) c 0 (At 0) ws ws
  unfolding nothing
  refused_at_zero ws =
      refused_here (At 0) ws (λ i r n j. front i.stray i.depth r n j)
      (λ i r x n d. none i.stray i.depth r x n d)
    where
      front : (s : Option K) (n : ℕ) (r : List Token) → n ≡ 0 → (below_from u s n).begins ws r
          → ws ≡ r
      front s zero r e j = j
      front s (suc n) r e j = absurd (cc e)

      none : (s : Option K) (n : ℕ) (r : List Token) (x : A) → n ≡ 0
          → (below_from u s n).derives ws r x → ⊥
      none s zero r x e d = d
      none s (suc n) r x e d = cc e

  -- where neither a first word nor a stray one stands
  refused_by : (N : Variant K → Type 0) (ws : List Token) → goes_on t ws ≡ false
      → ((i : Variant K) → N i → StrayAt kind i ws → ⊥) → Refused (below u) c 0 N ws ws
  refused_by N ws e astray =
      refused_here N ws
      (λ i r n j. elim ((starts_below u t kind starts).begun i ws r j) [
        | inl k ↦ k
        | inr k ↦ elim k [ inl l ↦ absurd (cc (e, l)) | inr a ↦ absurd (astray i n a) ]
      ])
      (λ i r x n d. let k = (starts_below u t kind starts).whole i ws r x d in cc (e, k))

  astray : (s : Left) (w : Token) (ws : List Token) → seen s ≡ w ∷ ws → t w ≡ false
      → (o : Option K) → kind w ≡ o → Parses (below u) c 0 (seen s) (Err (cause_of o, s))
  astray s w ws is e None k =
      refused_by Any (seen s) (rw is e)
      (λ i n a. let j = a.is in let l = a.of in cc (is, k, j, l))
  astray s w ws is e (Some which) k = (
    refused_by (Leaves which) (seen s) (rw is e)
        (λ i n a. let j = a.is in let l = a.of in let v = a.taken in n (cc (is, k, j, l, v))),
    record {
      next = w;
      after = ws;
      is = is;
      enough = suc m;
      begun = λ i v l. subst (λ z. (below u i).begins z ws) (sym is)
          ((opens_below u t kind m opens).astray i w ws which (omega arith) k v);
    },
  )

  limit_word : (s : Left) (w : Token) (ws : List Token) → seen s ≡ w ∷ ws → (o : Bool) → t w ≡ o
      → Parses (below u) c 0 (seen s) (Err (if o then TooDeep else cause_of (kind w), s))
  limit_word s w ws is true e = (
    refused_at_zero (seen s),
    record {
      next = w;
      after = ws;
      is = is;
      enough = suc m;
      begun = λ i v l. subst (λ z. (below u i).begins z ws) (sym is)
          ((opens_below u t kind m opens).one i w ws (omega arith) e);
    },
  )
  limit_word s w ws is false e = astray s w ws is e (kind w) refl

  limit_words : (s : Left) (ws : List Token) → seen s ≡ ws
      → Parses (below u) c 0 (seen s) (Err (limit_cause t kind ws, s))
  limit_words s [] is =
      refused_by Any (seen s) (rw is refl) (λ i n a. let j = a.is in cc (is, j))
  limit_words s (w ∷ ws) is = limit_word s w ws is (t w) refl

  pub reads_at_limit : Reading (below u) c 0 (at_limit t kind)
  unfolding at_limit
  reads_at_limit = record { at = λ s. limit_words s (seen s) refl; later = not_later }

-- ---- rules

-- the reader reads the phrase of the rule where readers read the phrases of deeper levels
pub record ReadsRule {K A : Type 0} (rule : Rule K A) (t : Token → Bool) (kind : Token → Option K)
    (c : Token → Bool) (r : RuleReader K A) : Type 1 where
  pub starts : (inside : Variant K → ℕ → Phrase A) → Starts (λ i. rule i (inside i)) t kind
  pub opens : (inside : Variant K → ℕ → Phrase A) → Opens (λ i. rule i (inside i)) t kind 0
  pub reads : (inside : Variant K → ℕ → Phrase A) (b : ℕ) (q : ℕ → Reader K A)
      → ((k : ℕ) → Reading (λ i. inside i k) c b (q k))
      → Reading (λ i. rule i (inside i)) c b (r b q)

module _ {K A : Type 0} (rule : Rule K A) (t : Token → Bool) (kind : Token → Option K)
    (c : Token → Bool) (r : RuleReader K A) (h : ReadsRule rule t kind c r) where
  same_none : (i : Variant K) → Same nothing (deeper rule i 0)
  unfolding levels
  same_none i = go i.stray i.depth
    where
      go : (s : Option K) (n : ℕ) → Same nothing (levels rule s n 0)
      go s zero = same_path _ _ refl
      go s (suc n) = same_path _ _ refl

  same_one : (i : Variant K) → Same (below (nested rule) i) (deeper rule i 1)
  unfolding levels
  same_one i = go i.stray i.depth
    where
      go : (s : Option K) (n : ℕ) → Same (below_from (nested rule) s n) (levels rule s n 1)
      go s zero = same_path _ _ refl
      go s (suc n) = same_path _ _ refl

  same_next : (k : ℕ) (i : Variant K)
      → Same (below (λ v. deeper rule v (suc k)) i) (deeper rule i (suc (suc k)))
  unfolding levels
  same_next k i = go i.stray i.depth
    where
      go : (s : Option K) (n : ℕ)
          → Same (below_from (λ v. deeper rule v (suc k)) s n) (levels rule s n (suc (suc k)))
      go s zero = same_path _ _ refl
      go s (suc n) = same_path _ _ refl

  pub starts_nested : Starts (nested rule) t kind
  starts_nested = h.starts (λ i. deeper rule i)

  pub opens_nested : Opens (nested rule) t kind 0
  opens_nested = h.opens (λ i. deeper rule i)

  pub starts_deeper : (k : ℕ) → Starts (λ i. deeper rule i (suc k)) t kind
  starts_deeper zero =
      starts_same _ _ same_one t kind (starts_below (nested rule) t kind starts_nested)
  starts_deeper (suc k) =
      starts_same _ _ (same_next k) t kind
      (starts_below (λ v. deeper rule v (suc k)) t kind (starts_deeper k))

  opens_deeper : (k : ℕ) → Opens (λ i. deeper rule i (suc k)) t kind (suc k)
  opens_deeper zero =
      opens_same _ _ same_one t kind 1 (opens_below (nested rule) t kind 0 opens_nested)
  opens_deeper (suc k) =
      opens_same _ _ (same_next k) t kind (suc (suc k))
      (opens_below (λ v. deeper rule v (suc k)) t kind (suc k) (opens_deeper k))

  pub reads_deeper : (b k : ℕ) → Reading (λ i. deeper rule i k) c b (levels_at t kind r b k)
  unfolding levels_at
  reads_deeper zero zero = reads_same same_none (reads_nothing c zero)
  reads_deeper (suc b) zero = reads_same same_none (reads_nothing c (suc b))
  reads_deeper zero (suc zero) =
      reads_same same_one (reads_at_limit (nested rule) t kind c 0 starts_nested opens_nested)
  reads_deeper zero (suc (suc k)) =
      reads_same (same_next k)
      (reads_at_limit (λ v. deeper rule v (suc k)) t kind c (suc k) (starts_deeper k)
      (opens_deeper k))
  reads_deeper (suc b) (suc zero) =
      reads_same same_one (reads_below (nested rule) c b (r b (levels_at t kind r b))
      (h.reads (λ i. deeper rule i) b (levels_at t kind r b) (λ k. reads_deeper b k)))
  reads_deeper (suc b) (suc (suc k)) =
      reads_same (same_next k)
      (reads_below (λ v. deeper rule v (suc k)) c b (levels_at t kind r b (suc k))
      (reads_deeper b (suc k)))

  pub reads_nested : (b : ℕ) → Reading (nested rule) c b (r b (levels_at t kind r b))
  reads_nested b =
      h.reads (λ i. deeper rule i) b (levels_at t kind r b) (λ k. reads_deeper b k)
