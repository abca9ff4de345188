-- The turns of a loop over items, and the levels of a function that goes deeper.
use Rattle.std.proofs.Common.{◌≡◌, ℕ, zero, suc, ◌+◌, ◌-◌, ◌≤◌, ◌<◌, List, [], ◌∷◌, ◌++◌, Bool, true}
use Rattle.std.proofs.Common.{false, length, Option, Ok, Err, refl, sym, ◌∙◌, ap, subst, arith}
use Rattle.std.proofs.Common.{if◌then◌else◌}
use Rattle.std.proofs.Math.Nat.{le_refl}
use Rattle.std.proofs.lemmas.List.{length-map}
use Rattle.tptp_words.specs.Text.{Token, Placed}
use Rattle.tptp_words.specs.Scanning.{Left}
use Rattle.tptp_phrases.specs.Phrase.{Phrase, Variant}
use Rattle.tptp_phrases.specs.Readers.{Cause, Outcome, Reader, seen, and_then, goes_on, choose, seq, give}
use Rattle.tptp_phrases.specs.Readers.{many_from, many_at, levels_at, at_limit, limit_cause, RuleReader}
use Rattle.tptp_phrases.proofs.Outcomes.{Parses}
use Rattle.tptp_phrases.proofs.Repetition.{Repeats, shorter_read}

-- ---- loops

-- what is read from here on is what is read in all
pub record Turning {K A : Type 0} (t : Token → Bool) (q : Reader K A) (whole : Outcome K (List A))
    (found : List A) (s : Left) : Type 0 where
  pub turns : ℕ
  pub enough : length (seen s) ≤ turns
  pub rest : whole ≡ many_from t q turns found s

pub turning : {K A : Type 0} (t : Token → Bool) (q : Reader K A) (found : List A) (s : Left)
    → Turning t q (many_at t q found s) found s
unfolding many_at
turning t q found s = record {
  turns = length s.words;
  enough = rw (length-map s.words (λ (w : Placed). w.token)) (le_refl (length s.words));
  rest = refl;
}

-- the same items under another name
pub carried : {K A : Type 0} {t : Token → Bool} {q : Reader K A} {whole : Outcome K (List A)}
    {found : List A} {s : Left} (other : List A) → Turning t q whole found s → other ≡ found
    → Turning t q whole other s
carried {t = t} {q = q} {whole = whole} {s = s} other h e =
    subst (λ f. Turning t q whole f s) (sym e) h

chosen : {K A : Type 0} (t : Token → Bool) (s : Left) (r q : Reader K A) → goes_on t (seen s) ≡ true
    → choose t r q s ≡ r s
unfolding choose
chosen t s r q k = ap (λ (v : Bool). if v then r s else q s) k

passed : {K A : Type 0} (t : Token → Bool) (s : Left) (r q : Reader K A) → goes_on t (seen s) ≡ false
    → choose t r q s ≡ q s
unfolding choose
passed t s r q k = ap (λ (v : Bool). if v then r s else q s) k

no_words : (t : Token → Bool) (ws : List Token) → length ws ≤ 0 → goes_on t ws ≡ true → ⊥
no_words t [] l g = cc g
no_words t (w ∷ ws) l g = absurd (omega arith)

module _ {K A : Type 0} {p : Variant K → Phrase A} {t first : Token → Bool}
    {kind : Token → Option K} {c e : Token → Bool} {b : ℕ} {q : Reader K A}
    (h : Repeats p t first kind c e b q) where
  -- an item takes at least one word
  pub shorter : (s u : Left) (a : A) → q s ≡ Ok (a, u) → length (seen u) < length (seen s)
  shorter s u a k =
      shorter_read _ _ _ _ _ _ _ _ h (seen s) (seen u) a
      (subst (λ o. Parses p c b (seen s) o) k (h.reads.at s))

  module _ (whole : Outcome K (List A)) (found : List A) (s : Left)
      (turning : Turning t q whole found s) where
    pub one_more : (u : Left) (a : A) → goes_on t (seen s) ≡ true → q s ≡ Ok (a, u)
        → Turning t q whole (found ++ a ∷ []) u
    unfolding many_from seq
    one_more u a g k = go turning.turns turning.enough turning.rest
      where
        go : (n : ℕ) → length (seen s) ≤ n → whole ≡ many_from t q n found s
            → Turning t q whole (found ++ a ∷ []) u
        go zero l r = absurd (no_words t (seen s) l g)
        go (suc n) l r = record {
          turns = n;
          enough = let less = shorter s u a k in omega arith;
          rest = r ∙ chosen t s _ _ g
              ∙ ap (λ (o : Outcome K A). and_then o (λ x. many_from t q n (found ++ x ∷ []))) k;
        }

    pub one_fails : (f : Cause K × Left) → goes_on t (seen s) ≡ true → q s ≡ Err f → whole ≡ Err f
    unfolding many_from seq
    one_fails f g k = go turning.turns turning.enough turning.rest
      where
        go : (n : ℕ) → length (seen s) ≤ n → whole ≡ many_from t q n found s → whole ≡ Err f
        go zero l r = absurd (no_words t (seen s) l g)
        go (suc n) l r =
            r ∙ chosen t s _ _ g
            ∙ ap (λ (o : Outcome K A). and_then o (λ x. many_from t q n (found ++ x ∷ []))) k

    pub no_more : goes_on t (seen s) ≡ false → whole ≡ Ok (found, s)
    unfolding many_from give
    no_more g = go turning.turns turning.rest
      where
        go : (n : ℕ) → whole ≡ many_from t q n found s → whole ≡ Ok (found, s)
        go zero r = r
        go (suc n) r = r ∙ passed t s _ _ g

-- ---- levels

module _ {K A : Type 0} (opens : Token → Bool) (kind : Token → Option K) (rule : RuleReader K A) where
  pub no_level : (n k : ℕ) → 0 < k → n < k → (s : Left)
      → levels_at opens kind rule n k s ≡ Err (limit_cause opens kind (seen s), s)
  unfolding levels_at at_limit
  no_level zero zero h i s = absurd (omega arith)
  no_level zero (suc k) h i s = refl
  no_level (suc n) zero h i s = absurd (omega arith)
  no_level (suc n) (suc zero) h i s = absurd (omega arith)
  no_level (suc n) (suc (suc k)) h i s = no_level n (suc k) (omega arith) (omega arith) s

  pub some_level : (n k : ℕ) → 0 < k → k ≤ n
      → levels_at opens kind rule n k ≡ rule (n - k) (levels_at opens kind rule (n - k))
  unfolding levels_at
  some_level n zero h i = absurd (omega arith)
  some_level zero (suc k) h i = absurd (omega arith)
  some_level (suc n) (suc zero) h i =
      let e : n ≡ suc n - 1 = omega arith in ap (λ m. rule m (levels_at opens kind rule m)) e
  some_level (suc n) (suc (suc k)) h i =
      let e : n - suc k ≡ suc n - suc (suc k) = omega arith in
      some_level n (suc k) (omega arith) (omega arith)
      ∙ ap (λ m. rule m (levels_at opens kind rule m)) e

  -- one level below a place one level higher
  pub top_level : (n : ℕ)
      → levels_at opens kind rule (n + 1) 1 ≡ rule n (levels_at opens kind rule n)
  top_level n =
      let e : n + 1 - 1 ≡ n = omega arith in
      some_level (n + 1) 1 (omega arith) (omega arith)
      ∙ ap (λ m. rule m (levels_at opens kind rule m)) e
