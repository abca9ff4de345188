-- How a machine goes over the words of a phrase, and how high the number gets that it gives a word.
-- The phrase is given at each depth, and the words of the phrase at a depth get no number above a
-- base and that depth.
use Rattle.std.proofs.Common.{◌≡◌, ℕ, ◌+◌, ◌≤◌, ◌⊎◌, inl, inr, List, [], ◌∷◌, ◌++◌}
use Rattle.std.proofs.Common.{Option, Some, None, refl, sym, ap, subst, ◌∙◌, arith}
use Rattle.std.proofs.Common.{append_assoc}
use Rattle.tptp_words.specs.Text.{Token}
use Rattle.tptp_phrases.specs.Phrase.{Phrase, empty, word, stray, ◌>>=◌, ◌or◌}

-- the number of a word where the machine stands, and where it goes from there
pub record Machine (S : Type 0) : Type 0 where
  pub number : S → Token → ℕ
  pub next : S → Token → S

-- where the machine is behind the words
abbrev pub behind_words : {S : Type 0} → Machine S → S → List Token → S
behind_words m s [] = s
behind_words m s (w ∷ ws) = behind_words m (m.next s w) ws

-- no word gets a number above n
abbrev pub NoneAbove : {S : Type 0} → Machine S → ℕ → S → List Token → Type 0
NoneAbove m n s [] = Unit {0}
NoneAbove m n s (w ∷ ws) = (m.number s w ≤ n) × NoneAbove m n (m.next s w) ws

-- the same of the words from ws up to rest
abbrev pub NoneAboveUpTo : {S : Type 0} → Machine S → ℕ → S → List Token → List Token → Type 0
NoneAboveUpTo m n s ws rest = (front : List Token) → ws ≡ front ++ rest → NoneAbove m n s front

-- What the words from ws up to rest do to the machine, where this holds of the place behind them.
-- Some word gets no lower number than `least`.
pub record Passed {S : Type 0} (m : Machine S) (most least : ℕ) (s : S) (Behind : S → Type 0)
    (ws rest : List Token) : Type 0 where
  pub front : List Token
  pub is : ws ≡ front ++ rest
  pub within : NoneAbove m most s front
  pub reaches : (n : ℕ) → NoneAbove m n s front → least ≤ n
  pub behind : Behind (behind_words m s front)

-- The same of words that begin a phrase.
pub record Begun {S : Type 0} (m : Machine S) (most least : ℕ) (s : S) (ws rest : List Token)
    : Type 0 where
  pub front : List Token
  pub is : ws ≡ front ++ rest
  pub within : NoneAbove m most s front
  pub reaches : (n : ℕ) → NoneAbove m n s front → (ws ≡ rest) ⊎ (least ≤ n)

-- From this place the machine goes over the phrase of this depth with no number above the base and
-- the depth. Where it goes over the words of the phrase with no number above the base and a depth,
-- these are words of the phrase of that depth.
pub record Walks {S A : Type 0} (m : Machine S) (depth base least : ℕ) (s : S)
    (Behind : A → S → Type 0) (p : ℕ → Phrase A) : Type 0 where
  pub whole : (ws rest : List Token) (a : A) → (p depth).derives ws rest a
      → Passed m (base + depth) least s (Behind a) ws rest
  pub kept : (d n : ℕ) (ws rest : List Token) (a : A) → n ≤ base + d
      → (p depth).derives ws rest a → NoneAboveUpTo m n s ws rest → (p d).derives ws rest a
  pub begun : (ws rest : List Token) → (p depth).begins ws rest
      → Begun m (base + depth) least s ws rest
  pub kept_begun : (d n : ℕ) (ws rest : List Token) → n ≤ base + d
      → (p depth).begins ws rest → NoneAboveUpTo m n s ws rest → (p d).begins ws rest

-- ---- words behind words

module _ {S : Type 0} (m : Machine S) where
  pub behind_words-append : (s : S) (u v : List Token)
      → behind_words m s (u ++ v) ≡ behind_words m (behind_words m s u) v
  behind_words-append s [] v = refl
  behind_words-append s (w ∷ u) v = behind_words-append (m.next s w) u v

  pub none_above-join : (n : ℕ) (s : S) (u v : List Token) → NoneAbove m n s u
      → NoneAbove m n (behind_words m s u) v → NoneAbove m n s (u ++ v)
  none_above-join n s [] v h k = k
  none_above-join n s (w ∷ u) v h k = (h.0, none_above-join n (m.next s w) u v h.1 k)

  pub none_above-first : (n : ℕ) (s : S) (u v : List Token) → NoneAbove m n s (u ++ v)
      → NoneAbove m n s u
  none_above-first n s [] v h = tt
  none_above-first n s (w ∷ u) v h = (h.0, none_above-first n (m.next s w) u v h.1)

  pub none_above-second : (n : ℕ) (s : S) (u v : List Token) → NoneAbove m n s (u ++ v)
      → NoneAbove m n (behind_words m s u) v
  none_above-second n s [] v h = h
  none_above-second n s (w ∷ u) v h = none_above-second n (m.next s w) u v h.1

  pub none_above-more : (n k : ℕ) (s : S) (u : List Token) → n ≤ k → NoneAbove m n s u
      → NoneAbove m k s u
  none_above-more n k s [] l h = tt
  none_above-more n k s (w ∷ u) l h =
      let first = h.0 in (omega arith, none_above-more n k (m.next s w) u l h.1)

pub two_fronts : {ws mid : List Token} (rest u v : List Token) → ws ≡ u ++ mid → mid ≡ v ++ rest
    → ws ≡ (u ++ v) ++ rest
two_fronts rest u v e f =
    e ∙ ap (λ z. u ++ z) f ∙ sym (append_assoc u v rest)

module _ {S : Type 0} {m : Machine S} {n : ℕ} {s : S} {ws mid rest : List Token} where
  -- up to the middle, where it holds up to the rest
  pub up_to_middle : (v : List Token) → mid ≡ v ++ rest → NoneAboveUpTo m n s ws rest
      → NoneAboveUpTo m n s ws mid
  up_to_middle v f h u e = none_above-first m n s u v (h (u ++ v) (two_fronts rest u v e f))

  pub from_middle : (u : List Token) → ws ≡ u ++ mid → NoneAboveUpTo m n s ws rest
      → NoneAboveUpTo m n (behind_words m s u) mid rest
  from_middle u e h v f = none_above-second m n s u v (h (u ++ v) (two_fronts rest u v e f))

-- ---- one law for each way to put phrases together

-- what the machine does at a word that is taken
pub record Steps {S : Type 0} (m : Machine S) (most least : ℕ) (s : S) (Behind : S → Type 0)
    (w : Token) : Type 0 where
  pub within : m.number s w ≤ most
  pub reaches : least ≤ m.number s w
  pub behind : Behind (m.next s w)

module _ {S : Type 0} {m : Machine S} {s : S} where
  pub passed_none : {Behind : S → Type 0} (most : ℕ) (ws rest : List Token) → ws ≡ rest → Behind s
      → Passed m most 0 s Behind ws rest
  passed_none most ws rest e h = record {
    front = [];
    is = e;
    within = tt;
    reaches = λ n k. omega arith;
    behind = h;
  }

  pub begun_none : (most least : ℕ) (ws rest : List Token) → ws ≡ rest
      → Begun m most least s ws rest
  begun_none most least ws rest e =
      record { front = []; is = e; within = tt; reaches = λ n k. inl e }

module _ {S : Type 0} {m : Machine S} {depth base : ℕ} {s : S} where
  pub walks_empty : {A : Type 0} {Behind : A → S → Type 0} (v : A) → Behind v s
      → Walks m depth base 0 s Behind (λ _. empty v)
  unfolding empty
  walks_empty {Behind = Behind} v h = record {
    whole = λ ws rest a d.
        passed_none (base + depth) ws rest d.0 (subst (λ z. Behind z s) (sym d.1) h);
    kept = λ d n ws rest a l k above. k;
    begun = λ ws rest e. begun_none (base + depth) 0 ws rest e;
    kept_begun = λ d n ws rest l e above. e;
  }

  pub walks_word : {A : Type 0} {Behind : A → S → Type 0} {least : ℕ} {f : Token → Option A}
      → ((w : Token) (a : A) → f w ≡ Some a → Steps m (base + depth) least s (Behind a) w)
      → Walks m depth base least s Behind (λ _. word f)
  unfolding word
  walks_word {A = A} {Behind = Behind} {least = least} {f = f} h = record {
    whole = λ ws rest a d. taken ws rest d.0 a d.1 (h d.0 a d.2);
    kept = λ d n ws rest a l k above. k;
    begun = λ ws rest b. elim b [
      | inl e ↦ begun_none (base + depth) least ws rest e
      | inr k ↦ begun ws rest (taken ws rest k.0 k.1 k.2 (h k.0 k.1 k.3))
    ];
    kept_begun = λ d n ws rest l e above. e;
  }
    where
      taken : (ws rest : List Token) (w : Token) (a : A) → ws ≡ w ∷ rest
          → Steps m (base + depth) least s (Behind a) w
          → Passed m (base + depth) least s (Behind a) ws rest
      taken ws rest w a e steps = record {
        front = w ∷ [];
        is = e;
        within = (steps.within, tt);
        reaches = λ n k. let l = steps.reaches in let j = k.0 in omega arith;
        behind = steps.behind;
      }

      begun : {P : S → Type 0} (ws rest : List Token) → Passed m (base + depth) least s P ws rest
          → Begun m (base + depth) least s ws rest
      begun ws rest h = record {
        front = h.front;
        is = h.is;
        within = h.within;
        reaches = λ n k. inr (h.reaches n k);
      }

  pub walks_then : {A B : Type 0} {First : A → S → Type 0} {Behind : B → S → Type 0} {least : ℕ}
      {p : ℕ → Phrase A} {f : ℕ → A → Phrase B} → Walks m depth base least s First p
      → ((a : A) (t : S) → First a t → least ≤ base + depth
      → Walks m depth base 0 t Behind (λ n. f n a))
      → Walks m depth base least s Behind (λ n. p n >>= f n)
  unfolding ◌>>=◌
  walks_then {A} {B} {First} {Behind} {least} {p} {f} h k = record {
    whole = λ ws rest b d.
        let first = h.whole ws d.0 d.1 d.2 in
        let second = (k d.1 _ first.behind (room first)).whole d.0 rest b d.3 in
        record {
          front = first.front ++ second.front;
          is = two_fronts rest first.front second.front first.is second.is;
          within = none_above-join m _ s first.front second.front first.within second.within;
          reaches = λ n j. first.reaches n (none_above-first m n s first.front second.front j);
          behind = subst (Behind b) (sym (behind_words-append m s first.front second.front))
              second.behind;
        };
    kept = λ d n ws rest b l x above.
        let first = h.whole ws x.0 x.1 x.2 in
        let then = k x.1 _ first.behind (room first) in
        let second = then.whole x.0 rest b x.3 in (
          x.0,
          x.1,
          h.kept d n ws x.0 x.1 l x.2 (up_to_middle second.front second.is above),
          then.kept d n x.0 rest b l x.3 (from_middle first.front first.is above),
        );
    begun = λ ws rest b. elim b [
      | inl x ↦ h.begun ws rest x
      | inr x ↦ begun ws rest x.0 x.1 x.2 x.3
    ];
    kept_begun = λ d n ws rest l b above. elim b [
      | inl x ↦ inl (h.kept_begun d n ws rest l x above)
      | inr x ↦ inr (kept_begun d n ws rest x.0 x.1 l x.2 x.3 above)
    ];
  }
    where
      room : {P : S → Type 0} {ws rest : List Token} → Passed m (base + depth) least s P ws rest
          → least ≤ base + depth
      room h = h.reaches (base + depth) h.within

      begun : (ws rest mid : List Token) (a : A) → (p depth).derives ws mid a
          → (f depth a).begins mid rest → Begun m (base + depth) least s ws rest
      begun ws rest mid a d b =
          let first = h.whole ws mid a d in
          let second = (k a _ first.behind (room first)).begun mid rest b in
          record {
            front = first.front ++ second.front;
            is = two_fronts rest first.front second.front first.is second.is;
            within = none_above-join m _ s first.front second.front first.within second.within;
            reaches = λ n j.
                inr (first.reaches n (none_above-first m n s first.front second.front j));
          }

      kept_begun : (d n : ℕ) (ws rest mid : List Token) (a : A) → n ≤ base + d
          → (p depth).derives ws mid a → (f depth a).begins mid rest
          → NoneAboveUpTo m n s ws rest
          → (mid : List Token) × (a : A) × (p d).derives ws mid a × (f d a).begins mid rest
      kept_begun d n ws rest mid a l x b above =
          let first = h.whole ws mid a x in
          let then = k a _ first.behind (room first) in
          let second = then.begun mid rest b in (
            mid,
            a,
            h.kept d n ws mid a l x (up_to_middle second.front second.is above),
            then.kept_begun d n mid rest l b (from_middle first.front first.is above),
          )

  pub walks_or : {A : Type 0} {Behind : A → S → Type 0} {least : ℕ} {p q : ℕ → Phrase A}
      → Walks m depth base least s Behind p → Walks m depth base least s Behind q
      → Walks m depth base least s Behind (λ n. p n or q n)
  unfolding ◌or◌
  walks_or h k = record {
    whole = λ ws rest a d. elim d [ inl x ↦ h.whole ws rest a x | inr x ↦ k.whole ws rest a x ];
    kept = λ d n ws rest a l x above. elim x [
      | inl y ↦ inl (h.kept d n ws rest a l y above)
      | inr y ↦ inr (k.kept d n ws rest a l y above)
    ];
    begun = λ ws rest b. elim b [ inl x ↦ h.begun ws rest x | inr x ↦ k.begun ws rest x ];
    kept_begun = λ d n ws rest l x above. elim x [
      | inl y ↦ inl (h.kept_begun d n ws rest l y above)
      | inr y ↦ inr (k.kept_begun d n ws rest l y above)
    ];
  }

  -- where no stray words are taken
  pub walks_stray : {K A : Type 0} {Behind : A → S → Type 0} {least : ℕ} (kind : Token → Option K)
      → Walks m depth base least s Behind (λ n. stray kind (record { depth = n; stray = None }))
  unfolding stray
  walks_stray {least = least} kind = record {
    whole = λ ws rest a d. absurd d;
    kept = λ d n ws rest a l x above. absurd x;
    begun = λ ws rest b. elim b [
      | inl e ↦ begun_none (base + depth) least ws rest e
      | inr k ↦ absurd (let e = k.4 in cc e)
    ];
    kept_begun = λ d n ws rest l b above. b;
  }

  -- what follows from what holds
  pub walks_so : {A : Type 0} {First Behind : A → S → Type 0} {more less : ℕ} {p : ℕ → Phrase A}
      → less ≤ more → ((a : A) (t : S) → First a t → Behind a t)
      → Walks m depth base more s First p → Walks m depth base less s Behind p
  walks_so l so h = record {
    whole = λ ws rest a d.
        let first = h.whole ws rest a d in
        record {
          front = first.front;
          is = first.is;
          within = first.within;
          reaches = λ n k. let j = first.reaches n k in omega arith;
          behind = so a _ first.behind;
        };
    kept = h.kept;
    begun = λ ws rest b.
        let first = h.begun ws rest b in
        record {
          front = first.front;
          is = first.is;
          within = first.within;
          reaches = λ n k. elim (first.reaches n k) [
            | inl e ↦ inl e
            | inr j ↦ inr (omega arith)
          ];
        };
    kept_begun = h.kept_begun;
  }

module _ {S A B : Type 0} {m : Machine S} {depth base least : ℕ} {s : S}
    {Behind : B → S → Type 0} {p : ℕ → Phrase A} {f : ℕ → A → Phrase B} where
  -- where the place behind the first part is known
  pub walks_on : (u : S) → Walks m depth base least s (λ _ t. t ≡ u) p
      → (least ≤ base + depth → (a : A) → Walks m depth base 0 u Behind (λ n. f n a))
      → Walks m depth base least s Behind (λ n. p n >>= f n)
  walks_on u h k =
      walks_then h (λ a t e room.
      subst (λ z. Walks m depth base 0 z Behind (λ n. f n a)) (sym e) (k room a))

  -- where it is one of these places
  pub walks_via : {X : Type 0} (u : X → S)
      → Walks m depth base least s (λ _ t. (x : X) × (t ≡ u x)) p
      → (least ≤ base + depth → (a : A) (x : X) → Walks m depth base 0 (u x) Behind (λ n. f n a))
      → Walks m depth base least s Behind (λ n. p n >>= f n)
  walks_via u h k =
      walks_then h (λ a t e room.
      subst (λ z. Walks m depth base 0 z Behind (λ n. f n a)) (sym e.1) (k room a e.0))
