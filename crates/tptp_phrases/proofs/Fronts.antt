-- Where words begin a phrase, so do their fronts.
use Rattle.std.proofs.Common.{◌+◌}
use Rattle.std.proofs.Common.{◌≡◌, ℕ, zero, suc, ◌≤◌, ◌⊎◌, inl, inr, List, [], ◌∷◌, ◌++◌, Bool}
use Rattle.std.proofs.Common.{length, Option, Some, None, refl, sym, ap, subst, arith, ◌∙◌}
use Rattle.std.proofs.Common.{append_assoc, length-append}
use Rattle.tptp_words.specs.Text.{Token}
use Rattle.tptp_phrases.specs.Phrase.{Phrase, Variant, empty, nothing, word, stray, ◌>>=◌, ◌or◌, many}
use Rattle.tptp_phrases.specs.Phrase.{Row, balanced, open_behind, open_after, Rule, levels}

-- the second list is left of the first behind a front
abbrev pub Front : List Token → List Token → Type 0
Front ws r = (front : List Token) × (ws ≡ front ++ r)

pub no_front : (ws : List Token) → Front ws ws
no_front ws = ([], refl)

pub same_front : (ws r : List Token) → ws ≡ r → Front ws r
same_front ws r e = ([], e)

pub front_trans : {ws m r : List Token} → Front ws m → Front m r → Front ws r
front_trans {ws} {m} {r} a b =
    (a.0 ++ b.0, a.1 ∙ ap (λ z. a.0 ++ z) b.1 ∙ sym (append_assoc a.0 b.0 r))

front_length : (ws r : List Token) → Front ws r → length r ≤ length ws
front_length ws r (front, e) =
    let l : length ws ≡ length front + length r = ap length e ∙ length-append front r in omega arith

-- nothing lies between a place and itself
pub between_same : (ws m : List Token) → Front ws m → Front m ws → ws ≡ m
between_same ws m ([], e) b = e
between_same ws m (w ∷ front, e) b =
    let l : length ws ≡ suc (length front + length m) = ap length e ∙ ap suc (length-append front m) in
    let k = front_length m ws b in absurd (omega arith)

-- of two places in the words, one is behind the other
pub ordered : (ws m n : List Token) → Front ws m → Front ws n → Front m n ⊎ Front n m
ordered ws m n (u, e) (v, d) = go u v m n (sym e ∙ d)
  where
    go : (u v m n : List Token) → u ++ m ≡ v ++ n → Front m n ⊎ Front n m
    go [] v m n e = inl (v, e)
    go (w ∷ u) [] m n e = inr (w ∷ u, sym e)
    go (w ∷ u) (x ∷ v) m n e = go u v m n (cc e)

-- the words that begin or derive the phrase, and what their fronts do
pub record Closed {A : Type 0} (p : Phrase A) : Type 0 where
  pub whole_front : (ws r : List Token) (x : A) → p.derives ws r x → Front ws r
  pub begun_front : (ws r : List Token) → p.begins ws r → Front ws r
  pub whole : (ws m r : List Token) (x : A) → p.derives ws r x → Front ws m → Front m r
      → p.begins ws m
  pub begun : (ws m r : List Token) → p.begins ws r → Front ws m → Front m r → p.begins ws m

pub closed_empty : {A : Type 0} (v : A) → Closed (empty v)
unfolding empty
closed_empty v = record {
  whole_front = λ ws r x d. same_front ws r d.0;
  begun_front = λ ws r e. same_front ws r e;
  whole = λ ws m r x d a b. between_same ws m a (subst (λ z. Front m z) (sym d.0) b);
  begun = λ ws m r e a b. between_same ws m a (subst (λ z. Front m z) (sym e) b);
}

pub closed_nothing : {A : Type 0} → Closed {A = A} nothing
unfolding nothing
closed_nothing = record {
  whole_front = λ ws r x d. absurd d;
  begun_front = λ ws r e. same_front ws r e;
  whole = λ ws m r x d a b. absurd d;
  begun = λ ws m r e a b. between_same ws m a (subst (λ z. Front m z) (sym e) b);
}

-- before or behind a word
one_word : (w : Token) (ws m r : List Token) → ws ≡ w ∷ r → Front ws m → Front m r
    → (ws ≡ m) ⊎ (r ≡ m)
one_word w ws m r e ([], a) b = inl a
one_word w ws m r e (v ∷ front, a) b =
    inr (between_same r m (front, cc (e, a)) b)

pub closed_word : {A : Type 0} (f : Token → Option A) → Closed (word f)
unfolding word
closed_word {A} f = record {
  whole_front = λ ws r x d. (d.0 ∷ [], d.1);
  begun_front = λ ws r i. elim i [ inl e ↦ same_front ws r e | inr j ↦ (j.0 ∷ [], j.2) ];
  whole = λ ws m r x d a b. go ws m r d.0 x d.1 d.2 (one_word d.0 ws m r d.1 a b);
  begun = λ ws m r i a b. elim i [
    | inl e ↦ inl (between_same ws m a (subst (λ z. Front m z) (sym e) b))
    | inr j ↦ go ws m r j.0 j.1 j.2 j.3 (one_word j.0 ws m r j.2 a b)
  ];
}
  where
    go : (ws m r : List Token) (w : Token) (t : A) → ws ≡ w ∷ r → f w ≡ Some t
        → (ws ≡ m) ⊎ (r ≡ m)
        → (ws ≡ m) ⊎ ((w : Token) × (t : A) × (ws ≡ w ∷ m) × (f w ≡ Some t))
    go ws m r w t e h (inl i) = inl i
    go ws m r w t e h (inr i) = inr (w, t, e ∙ ap (λ z. w ∷ z) i, h)

pub closed_stray : {K A : Type 0} (kind : Token → Option K) (v : Variant K)
    → Closed {A = A} (stray kind v)
unfolding stray
closed_stray {K} kind v = record {
  whole_front = λ ws r x d. absurd d;
  begun_front = λ ws r i. elim i [ inl e ↦ same_front ws r e | inr j ↦ (j.0 ∷ [], j.2) ];
  whole = λ ws m r x d a b. absurd d;
  begun = λ ws m r i a b. elim i [
    | inl e ↦ inl (between_same ws m a (subst (λ z. Front m z) (sym e) b))
    | inr j ↦ go ws m r j.0 j.1 j.2 j.3 j.4 (one_word j.0 ws m r j.2 a b)
  ];
}
  where
    go : (ws m r : List Token) (w : Token) (k : K) → ws ≡ w ∷ r → kind w ≡ Some k
        → v.stray ≡ Some k → (ws ≡ m) ⊎ (r ≡ m)
        → (ws ≡ m) ⊎ ((w : Token) × (k : K) × (ws ≡ w ∷ m) × (kind w ≡ Some k) × (v.stray ≡ Some k))
    go ws m r w k e h t (inl i) = inl i
    go ws m r w k e h t (inr i) = inr (w, k, e ∙ ap (λ z. w ∷ z) i, h, t)

pub closed_bind : {A B : Type 0} (p : Phrase A) (f : A → Phrase B) → Closed p
    → ((a : A) → Closed (f a)) → Closed (p >>= f)
unfolding ◌>>=◌
closed_bind p f h k = record {
  whole_front = λ ws r x (m, a, d, e).
      front_trans (h.whole_front ws m a d) ((k a).whole_front m r x e);
  begun_front = λ ws r i. elim i [
    | inl j ↦ h.begun_front ws r j
    | inr j ↦ front_trans (h.whole_front ws j.0 j.1 j.2) ((k j.1).begun_front j.0 r j.3)
  ];
  whole = λ ws m r x (n, a, d, e) i j.
      elim (ordered ws m n i (h.whole_front ws n a d)) [
        | inl before ↦ inl (h.whole ws m n a d i before)
        | inr behind ↦ inr (n, a, d, (k a).whole n m r x e behind j)
      ];
  begun = λ ws m r b i j. elim b [
    | inl c ↦ inl (h.begun ws m r c i j)
    | inr c ↦ elim (ordered ws m c.0 i (h.whole_front ws c.0 c.1 c.2)) [
      | inl before ↦ inl (h.whole ws m c.0 c.1 c.2 i before)
      | inr behind ↦ inr (c.0, c.1, c.2, (k c.1).begun c.0 m r c.3 behind j)
    ]
  ];
}

pub closed_or : {A : Type 0} (p q : Phrase A) → Closed p → Closed q → Closed (p or q)
unfolding ◌or◌
closed_or p q h k = record {
  whole_front = λ ws r x d. elim d [
    | inl i ↦ h.whole_front ws r x i
    | inr i ↦ k.whole_front ws r x i
  ];
  begun_front = λ ws r d. elim d [ inl i ↦ h.begun_front ws r i | inr i ↦ k.begun_front ws r i ];
  whole = λ ws m r x d a b. elim d [
    | inl i ↦ inl (h.whole ws m r x i a b)
    | inr i ↦ inr (k.whole ws m r x i a b)
  ];
  begun = λ ws m r d a b. elim d [
    | inl i ↦ inl (h.begun ws m r i a b)
    | inr i ↦ inr (k.begun ws m r i a b)
  ];
}

module _ {A : Type 0} (p : Phrase A) (h : Closed p) where
  row_front : (ws r : List Token) (xs : List A) → Row p ws r xs → Front ws r
  row_front ws r [] e = same_front ws r e
  row_front ws r (x ∷ xs) (m, d, row) =
      front_trans (h.whole_front ws m x d) (row_front m r xs row)

  abbrev Begun : List Token → List Token → Type 0
  Begun ws r =
      (ws ≡ r) ⊎ ((m : List Token) × (xs : List A) × Row p ws m xs × p.begins m r)

  behind_item : (ws n m : List Token) (x : A) → p.derives ws n x → Begun n m → Begun ws m
  behind_item ws n m x d (inl e) =
      inr (
        ws,
        [],
        refl,
        subst (λ z. p.begins ws z) e
            (h.whole ws n n x d (h.whole_front ws n x d) (no_front n)),
      )
  behind_item ws n m x d (inr (k, xs, row, i)) = inr (k, x ∷ xs, (n, d, row), i)

  row_begun : (ws m r : List Token) (xs : List A) → Row p ws r xs → Front ws m → Front m r
      → Begun ws m
  row_begun ws m r [] e a b = inl (between_same ws m a (subst (λ z. Front m z) (sym e) b))
  row_begun ws m r (x ∷ xs) (n, d, row) a b =
      elim (ordered ws m n a (h.whole_front ws n x d)) [
        | inl before ↦ inr (ws, [], refl, h.whole ws m n x d a before)
        | inr behind ↦ behind_item ws n m x d (row_begun n m r xs row behind b)
      ]

  more_begun : (ws m r n : List Token) (xs : List A) → Row p ws n xs → p.begins n r → Front ws m
      → Front m r → Begun ws m
  more_begun ws m r n xs row i a b =
      elim (ordered ws m n a (row_front ws n xs row)) [
        | inl before ↦ row_begun ws m n xs row a before
        | inr behind ↦ inr (n, xs, row, h.begun n m r i behind b)
      ]

  pub closed_many : Closed (many p)
  unfolding many
  closed_many = record {
    whole_front = λ ws r xs row. row_front ws r xs row;
    begun_front = λ ws r i. elim i [
      | inl e ↦ same_front ws r e
      | inr j ↦ front_trans (row_front ws j.0 j.1 j.2) (h.begun_front j.0 r j.3)
    ];
    whole = λ ws m r xs row a b. row_begun ws m r xs row a b;
    begun = λ ws m r i a b. elim i [
      | inl e ↦ inl (between_same ws m a (subst (λ z. Front m z) (sym e) b))
      | inr j ↦ more_begun ws m r j.0 j.1 j.2 j.3 a b
    ];
  }

-- ---- brackets

module _ (opens closes : Token → Bool) where
  -- the words up to an earlier place close nothing that is not open either
  front_open : (o : Option ℕ) (front m r : List Token) (n : ℕ) → Front m r
      → (us : List Token) → front ++ r ≡ us ++ m → open_after opens closes o front ≡ Some n
      → (k : ℕ) × (open_after opens closes o us ≡ Some k)
  front_open None front m r n f us e h = absurd (closed_none front h)
    where
      closed_none : (front : List Token) → open_after opens closes None front ≡ Some n → ⊥
      closed_none front h = cc h
  front_open (Some a) front m r n f [] e h = (a, refl)
  front_open (Some a) [] m r n f (u ∷ us) e h = absurd (too_long f)
    where
      too_long : Front m r → ⊥
      too_long f =
          let l = front_length m r f in
          let k : length r ≡ suc (length us + length m) =
          ap length e ∙ ap suc (length-append us m) in omega arith
  front_open (Some a) (w ∷ front) m r n f (u ∷ us) e h =
      go (front_open (open_behind (opens w) (closes w) a) front m r n f us (cc e) h)
    where
      go : (k : ℕ) × (open_after opens closes (open_behind (opens w) (closes w) a) us ≡ Some k)
          → (k : ℕ) × (open_after opens closes (Some a) (u ∷ us) ≡ Some k)
      go (k, i) =
          let same : w ≡ u = cc e in
          (k, ap (λ z. open_after opens closes (open_behind (opens z) (closes z) a) us) (sym same) ∙ i)

  pub closed_balanced : Closed (balanced opens closes)
  unfolding balanced
  closed_balanced = record {
    whole_front = λ ws r x (w, front, e, o). (w ∷ front, e);
    begun_front = λ ws r (front, n, e, o). (front, e);
    whole = λ ws m r x (w, front, e, o) a b. go ws m r (w ∷ front) 0 e o a b;
    begun = λ ws m r (front, n, e, o) a b. go ws m r front n e o a b;
  }
    where
      go : (ws m r front : List Token) (n : ℕ) → ws ≡ front ++ r
          → open_after opens closes (Some 0) front ≡ Some n → Front ws m → Front m r
          → (us : List Token) × (k : ℕ) × (ws ≡ us ++ m)
          × (open_after opens closes (Some 0) us ≡ Some k)
      go ws m r front n e o (us, a) b =
          let k = front_open (Some 0) front m r n b us (sym e ∙ a) o in (us, k.0, a, k.1)

-- ---- levels

pub closed_levels : {K A : Type 0} (rule : Rule K A)
    → ((v : Variant K) (inside : ℕ → Phrase A) → ((k : ℕ) → Closed (inside k))
    → Closed (rule v inside))
    → (s : Option K) (n k : ℕ) → Closed (levels rule s n k)
unfolding levels
closed_levels rule h s zero k = closed_nothing
closed_levels rule h s (suc n) zero = closed_nothing
closed_levels rule h s (suc n) (suc zero) =
    h (record { depth = n; stray = s }) (levels rule s n) (λ k. closed_levels rule h s n k)
closed_levels rule h s (suc n) (suc (suc k)) = closed_levels rule h s n (suc k)
