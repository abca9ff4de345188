-- How a machine goes over repetitions, over words with brackets that match, and over phrases that
-- nest.
use Rattle.std.proofs.Common.{◌≡◌, ℕ, zero, suc, ◌+◌, ◌≤◌, inl, inr, List, [], ◌∷◌, ◌++◌}
use Rattle.std.proofs.Common.{length, Bool, Option, Some, None, refl, sym, subst, arith}
use Rattle.tptp_words.specs.Text.{Token}
use Rattle.tptp_phrases.specs.Phrase.{Phrase, Variant, nothing}
use Rattle.tptp_phrases.specs.Phrase.{Row, many, balanced, open_behind, open_after, Rule, levels}
use Rattle.tptp_phrases.specs.Phrase.{nested}
use Rattle.tptp_phrases.proofs.Walks.{Machine, behind_words, NoneAbove, NoneAboveUpTo, Passed}
use Rattle.tptp_phrases.proofs.Walks.{Begun}
use Rattle.tptp_phrases.proofs.Walks.{Walks, Steps, behind_words-append, none_above-join}
use Rattle.tptp_phrases.proofs.Walks.{none_above-more}
use Rattle.tptp_phrases.proofs.Walks.{two_fronts, up_to_middle, from_middle, passed_none}
use Rattle.tptp_phrases.proofs.Walks.{begun_none}
use Rattle.tptp_phrases.proofs.Walks.{walks_so}

-- ---- repetition

-- From each place of I at a count the machine goes over an item to one at the next count.
module _ {S A : Type 0} {m : Machine S} {depth base : ℕ} (I : ℕ → S → Type 0) {p : ℕ → Phrase A}
    (h : (i : ℕ) (s : S) → I i s → Walks m depth base 0 s (λ _ t. I (suc i) t) p) where
  row_passed : (i : ℕ) (s : S) (ws rest : List Token) (xs : List A) → I i s
      → Row (p depth) ws rest xs → Passed m (base + depth) 0 s (I (i + length xs)) ws rest
  row_passed i s ws rest [] at row =
      passed_none (base + depth) ws rest row
      (subst (λ z. I z s) (omega arith) at)
  row_passed i s ws rest (x ∷ xs) at (mid, d, row) =
      let first = (h i s at).whole ws mid x d in
      let second = row_passed (suc i) _ mid rest xs first.behind row in
      record {
        front = first.front ++ second.front;
        is = two_fronts rest first.front second.front first.is second.is;
        within = none_above-join m _ s first.front second.front first.within second.within;
        reaches = λ n j. omega arith;
        behind = subst (λ z. I z (behind_words m s (first.front ++ second.front))) (omega arith)
            (subst (I (suc i + length xs))
            (sym (behind_words-append m s first.front second.front)) second.behind);
      }

  row_kept : (i : ℕ) (s : S) (d n : ℕ) (ws rest : List Token) (xs : List A) → I i s
      → n ≤ base + d → Row (p depth) ws rest xs → NoneAboveUpTo m n s ws rest
      → Row (p d) ws rest xs
  row_kept i s d n ws rest [] at l row above = row
  row_kept i s d n ws rest (x ∷ xs) at l (mid, x_derived, row) above =
      let first = (h i s at).whole ws mid x x_derived in
      let second = row_passed (suc i) _ mid rest xs first.behind row in (
        mid,
        (h i s at).kept d n ws mid x l x_derived (up_to_middle second.front second.is above),
        row_kept (suc i) _ d n mid rest xs first.behind l row
            (from_middle first.front first.is above),
      )

  pub walks_many : (i : ℕ) (s : S) → I i s
      → Walks m depth base 0 s (λ xs t. I (i + length xs) t) (λ n. many (p n))
  unfolding many
  walks_many i s at = record {
    whole = λ ws rest xs row. row_passed i s ws rest xs at row;
    kept = λ d n ws rest xs l row above. row_kept i s d n ws rest xs at l row above;
    begun = λ ws rest b. elim b [
      | inl e ↦ begun_none (base + depth) 0 ws rest e
      | inr x ↦ begun ws rest x.0 x.1 x.2 x.3
    ];
    kept_begun = λ d n ws rest l b above. elim b [
      | inl e ↦ inl e
      | inr x ↦ inr (kept_begun d n ws rest x.0 x.1 l x.2 x.3 above)
    ];
  }
    where
      begun : (ws rest mid : List Token) (xs : List A) → Row (p depth) ws mid xs
          → (p depth).begins mid rest → Begun m (base + depth) 0 s ws rest
      begun ws rest mid xs row b =
          let first = row_passed i s ws mid xs at row in
          let second = (h (i + length xs) _ first.behind).begun mid rest b in
          record {
            front = first.front ++ second.front;
            is = two_fronts rest first.front second.front first.is second.is;
            within = none_above-join m _ s first.front second.front first.within second.within;
            reaches = λ n j. inr (omega arith);
          }

      kept_begun : (d n : ℕ) (ws rest mid : List Token) (xs : List A) → n ≤ base + d
          → Row (p depth) ws mid xs → (p depth).begins mid rest → NoneAboveUpTo m n s ws rest
          → (mid : List Token) × (xs : List A) × Row (p d) ws mid xs × (p d).begins mid rest
      kept_begun d n ws rest mid xs l row b above =
          let first = row_passed i s ws mid xs at row in
          let then = h (i + length xs) _ first.behind in
          let second = then.begun mid rest b in (
            mid,
            xs,
            row_kept i s d n ws mid xs at l row (up_to_middle second.front second.is above),
            then.kept_begun d n mid rest l b (from_middle first.front first.is above),
          )

-- ---- brackets

closed_none : (opens closes : Token → Bool) (ws : List Token) (j : ℕ)
    → open_after opens closes None ws ≡ Some j → ⊥
closed_none opens closes ws j e = cc e

-- From each place of I with so many open brackets a word leads to one with those behind it.
module _ {S : Type 0} {m : Machine S} {base : ℕ} (I : ℕ → S → Type 0)
    (opens closes : Token → Bool)
    (h : (k j : ℕ) (s : S) (w : Token) → I k s → open_behind (opens w) (closes w) k ≡ Some j
    → Steps m base 0 s (I j) w) where
  open_passed : (k j : ℕ) (s : S) (ws rest front : List Token) → I k s → ws ≡ front ++ rest
      → open_after opens closes (Some k) front ≡ Some j
      → NoneAbove m base s front × I j (behind_words m s front)
  open_passed k j s ws rest [] at e o =
      let same : k ≡ j = cc o in (tt, subst (λ z. I z s) same at)
  open_passed k j s ws rest (w ∷ front) at e o =
      behind_word (open_behind (opens w) (closes w) k) refl o
      (λ l t there more. open_passed l j t (front ++ rest) rest front there refl more)
    where
      behind_word : (b : Option ℕ) → open_behind (opens w) (closes w) k ≡ b
          → open_after opens closes b front ≡ Some j
          → ((l : ℕ) (t : S) → I l t → open_after opens closes (Some l) front ≡ Some j
          → NoneAbove m base t front × I j (behind_words m t front))
          → NoneAbove m base s (w ∷ front) × I j (behind_words m (m.next s w) front)
      behind_word None f o others = absurd (closed_none opens closes front j o)
      behind_word (Some l) f o others =
          let step = h k l s w at f in
          let more = others l (m.next s w) step.behind o in ((step.within, more.0), more.1)

  pub walks_balanced : {depth : ℕ} (s : S) → I 0 s
      → Walks m depth base 0 s (λ _ t. I 0 t) (λ _. balanced opens closes)
  unfolding balanced
  walks_balanced {depth} s at = record {
    whole = λ ws rest a (w, front, e, o).
        let all = open_passed 0 0 s ws rest (w ∷ front) at e o in
        record {
          front = w ∷ front;
          is = e;
          within = none_above-more m base (base + depth) s (w ∷ front) (omega arith) all.0;
          reaches = λ n k. omega arith;
          behind = all.1;
        };
    kept = λ d n ws rest a l x above. x;
    begun = λ ws rest (front, k, e, o).
        let all = open_passed 0 k s ws rest front at e o in
        record {
          front = front;
          is = e;
          within = none_above-more m base (base + depth) s front (omega arith) all.0;
          reaches = λ n j. inr (omega arith);
        };
    kept_begun = λ d n ws rest l b above. b;
  }

-- ---- levels

module _ {S A : Type 0} {m : Machine S} {depth base low : ℕ} {s : S} {Behind : A → S → Type 0}
    (p : ℕ → Phrase A) where
  -- one level deeper, where some word of the phrase is above the base
  walks_lower : ((ws : List Token) → (p 0).begins ws ws) → suc base ≤ low
      → Walks m depth (suc base) low s Behind (λ n. p (suc n))
      → Walks m (suc depth) base low s Behind p
  walks_lower none above h = record {
    whole = λ ws rest a d. most_passed (h.whole ws rest a d);
    kept = λ d n ws rest a l x all. kept d n ws rest a l x all;
    begun = λ ws rest b. most_begun (h.begun ws rest b);
    kept_begun = λ d n ws rest l b all. kept_begun d n ws rest l b all;
  }
    where
      most_passed : {P : S → Type 0} {ws rest : List Token}
          → Passed m (suc base + depth) low s P ws rest
          → Passed m (base + suc depth) low s P ws rest
      most_passed h = record {
        front = h.front;
        is = h.is;
        within = none_above-more m _ _ s h.front (omega arith) h.within;
        reaches = h.reaches;
        behind = h.behind;
      }

      most_begun : {ws rest : List Token} → Begun m (suc base + depth) low s ws rest
          → Begun m (base + suc depth) low s ws rest
      most_begun h = record {
        front = h.front;
        is = h.is;
        within = none_above-more m _ _ s h.front (omega arith) h.within;
        reaches = h.reaches;
      }

      kept : (d n : ℕ) (ws rest : List Token) (a : A) → n ≤ base + d
          → (p (suc depth)).derives ws rest a → NoneAboveUpTo m n s ws rest
          → (p d).derives ws rest a
      kept zero n ws rest a l x all =
          let first = h.whole ws rest a x in
          let high = first.reaches n (all first.front first.is) in absurd (omega arith)
      kept (suc d) n ws rest a l x all = h.kept d n ws rest a (omega arith) x all

      kept_begun : (d n : ℕ) (ws rest : List Token) → n ≤ base + d
          → (p (suc depth)).begins ws rest → NoneAboveUpTo m n s ws rest
          → (p d).begins ws rest
      kept_begun zero n ws rest l b all =
          let first = h.begun ws rest b in
          elim (first.reaches n (all first.front first.is)) [
            | inl e ↦ subst (λ z. (p 0).begins ws z) e (none ws)
            | inr high ↦ absurd (omega arith)
          ]
      kept_begun (suc d) n ws rest l b all = h.kept_begun d n ws rest (omega arith) b all

-- the grammar itself, with no stray words
abbrev pub plain : {K : Type 0} → ℕ → Variant K
plain n = record { depth = n; stray = None }

-- The machine goes over the phrases so many levels deeper, from each place that is so much higher
-- than the base.
abbrev pub WalksDeeper : {K S A I : Type 0} → Machine S → (I → S) → (I → ℕ)
    → (I → A → S → Type 0) → Rule K A → ℕ → ℕ → Type 0
WalksDeeper {K} {S} {A} {I} m at height Behind rule depth base =
    (k : ℕ) (i : I) → height i ≡ base + suc k
    → Walks m depth base (base + suc k) (at i) (Behind i) (λ n. levels rule None n (suc k))

-- The machine goes over a rule from each place of the base's height where it goes over the phrases
-- that are deeper.
abbrev pub WalksRule : {K S A I : Type 0} → Machine S → (I → S) → (I → ℕ)
    → (I → A → S → Type 0) → Rule K A → Type 0
WalksRule {K} {S} {A} {I} m at height Behind rule =
    (depth base : ℕ) (i : I) → height i ≡ base
    → WalksDeeper m at height Behind rule depth base
    → Walks m depth base base (at i) (Behind i) (λ n. rule (plain n) (levels rule None n))

module _ {K A : Type 0} (rule : Rule K A)
    (none : (v : Variant K) (inside : ℕ → Phrase A) (ws : List Token)
    → (rule v inside).begins ws ws) where
  none_begin : (n k : ℕ) (ws : List Token) → (levels rule None n k).begins ws ws
  unfolding levels nothing
  none_begin zero k ws = refl
  none_begin (suc n) zero ws = refl
  none_begin (suc n) (suc zero) ws = none (plain n) (levels rule None n) ws
  none_begin (suc n) (suc (suc k)) ws = none_begin n (suc k) ws

module _ {K S A I : Type 0} {m : Machine S} (at : I → S) (height : I → ℕ)
    (Behind : I → A → S → Type 0) (rule : Rule K A)
    (none : (v : Variant K) (inside : ℕ → Phrase A) (ws : List Token)
    → (rule v inside).begins ws ws)
    (h : WalksRule m at height Behind rule) where
  pub walks_levels : (depth base : ℕ) → WalksDeeper m at height Behind rule depth base
  unfolding levels nothing
  walks_levels zero base k i e = record {
    whole = λ ws rest a d. absurd d;
    kept = λ d n ws rest a l x above. absurd x;
    begun = λ ws rest b. begun_none (base + 0) (base + suc k) ws rest b;
    kept_begun = λ d n ws rest l b above.
        subst (λ z. (levels rule None d (suc k)).begins ws z) b
        (none_begin rule none d (suc k) ws);
  }
  walks_levels (suc depth) base zero i e =
      let start : height i ≡ suc base = omega (arith, e) in
      walks_lower (λ n. levels rule None n 1) (λ ws. refl) (omega arith)
      (walks_so (omega arith) (λ a t holds. holds)
      (h depth (suc base) i start (walks_levels depth (suc base))))
  walks_levels (suc depth) base (suc k) i e =
      let start : height i ≡ suc base + suc k = omega (arith, e) in
      walks_lower (λ n. levels rule None n (suc (suc k))) (λ ws. refl) (omega arith)
      (walks_so (omega arith) (λ a t holds. holds)
      (walks_levels depth (suc base) k i start))

  pub walks_nested : (depth base : ℕ) (i : I) → height i ≡ base
      → Walks m depth base base (at i) (Behind i) (λ n. nested rule (plain n))
  walks_nested depth base i e = h depth base i e (walks_levels depth base)
