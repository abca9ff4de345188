-- How what is said of outcomes goes through a sequence.
use Rattle.std.proofs.Common.{◌≡◌, ℕ, ◌≤◌, ◌⊎◌, inl, inr, List, [], Bool}
use Rattle.std.proofs.Common.{length, Ok, Err, refl, sym, ap, subst}
use Rattle.std.proofs.Common.{arith, ◌∙◌, ◌++◌, append_assoc}
use Rattle.std.proofs.Math.Nat.{le_trans, le_refl, le_of_eq}
use Rattle.tptp_words.specs.Text.{Token}
use Rattle.tptp_phrases.specs.Phrase.{Phrase, Variant, empty, ◌>>=◌}
use Rattle.tptp_words.specs.Scanning.{Left}
use Rattle.tptp_phrases.specs.Readers.{seen, Cause, Syntax, TooDeep, Stray, Outcome, Reader}
use Rattle.tptp_phrases.specs.Readers.{and_then, seq, give}
use Rattle.tptp_phrases.proofs.Outcomes.{Stops, Read, Refused, Deeper, Any, At, Takes, Leaves}
use Rattle.tptp_phrases.proofs.Outcomes.{Fails, Parses, IsLater, left_of, Reading, Follows}

-- what refuses and goes deeper in one phrase does so in another
pub fails_map : {K A B : Type 0} (p : Variant K → Phrase A) (q : Variant K → Phrase B)
    (c e : Token → Bool) (b : ℕ) (ws vs rest : List Token)
    → ((N : Variant K → Type 0) → Refused p c b N ws rest → Refused q e b N vs rest)
    → ((V : Variant K → Type 0) → Deeper p b V ws rest → Deeper q b V vs rest)
    → (why : Cause K) → Fails p c b ws why rest → Fails q e b vs why rest
fails_map p q c e b ws vs rest f g Syntax h = f Any h
fails_map p q c e b ws vs rest f g TooDeep h = (f (At b) h.0, g Any h.1)
fails_map p q c e b ws vs rest f g (Stray k) h = (f (Leaves k) h.0, g (Takes k) h.1)

move : {A : Type 0} (X : List Token → A → Type 0) {m n : List Token} {a b : A}
    → m ≡ n → a ≡ b → X m a → X n b
move X {n = n} {a = a} e i h = subst (λ x. X n x) i (subst (λ y. X y a) e h)

-- what stands behind another whole front stands behind this one, or nothing does
later : {K A : Type 0} {p : Variant K → Phrase A} {c : Token → Bool} {b : ℕ}
    {ws mid : List Token} {a : A} (X : List Token → A → Type 0) (i : Variant K)
    (r m : List Token) (x : A)
    → Read p c b ws a mid → (p i).derives ws m x → X m x → (m ≡ r) ⊎ Stops c m
    → (length mid ≤ length r) ⊎ X mid a
later {p = p} {ws = ws} X i r m x h d y (inl e) =
    inl (h.whole i r x (subst (λ z. (p i).derives ws z x) e d))
later X i r m x h d y (inr s) = inr (move X (h.only i m x d s).0 (h.only i m x d s).1 y)

-- where another whole front leads on, nothing stands behind it
none_later : {K A : Type 0} {p : Variant K → Phrase A} {c : Token → Bool} {b : ℕ}
    {N : Variant K → Type 0} {ws rest : List Token} (i : Variant K) (r m : List Token) (x : A)
    → Refused p c b N ws rest → N i → (p i).derives ws m x → (m ≡ r) ⊎ Stops c m
    → length rest ≤ length r
none_later {p = p} {ws = ws} i r m x h n d (inl e) =
    h.whole i r x n (subst (λ z. (p i).derives ws z x) e d)
none_later i r m x h n d (inr s) = absurd (h.none i m x n d s)

module _ {K A B : Type 0} (p : Variant K → Phrase A) (f : Variant K → A → Phrase B)
    (c e : Token → Bool) (b : ℕ) (g : (x : A) → Follows (λ i. f i x) c e) (ws : List Token) where
  within_later : (mid : List Token) (a : A) (i : Variant K) (rest r : List Token)
      → Read p c b ws a mid → length rest ≤ length mid
      → ((r : List Token) → (f i a).begins mid r → length rest ≤ length r)
      → (p i >>= f i).begins ws r → length rest ≤ length r
  unfolding ◌>>=◌
  within_later mid a i rest r h lo w (inl j) = le_trans lo (h.within i r j)
  within_later mid a i rest r h lo w (inr (m, x, d, j)) =
      elim (later (λ m x. (f i x).begins m r) i r m x h d j ((g x).begun i m r j))
      [ inl le ↦ le_trans lo le | inr y ↦ w r y ]

  whole_later : (mid : List Token) (a : A) (i : Variant K) (rest r : List Token) (y : B)
      → Read p c b ws a mid → length rest ≤ length mid
      → ((r : List Token) (y : B) → (f i a).derives mid r y → length rest ≤ length r)
      → (p i >>= f i).derives ws r y → length rest ≤ length r
  unfolding ◌>>=◌
  whole_later mid a i rest r y h lo w (m, x, d, j) =
      elim (later (λ m x. (f i x).derives m r y) i r m x h d j ((g x).whole i m r y j))
      [ inl le ↦ le_trans lo le | inr z ↦ w r y z ]

  only_later : (mid : List Token) (a : A) (i : Variant K) (r : List Token) (y : B)
      → Read p c b ws a mid → Stops e r → (p i >>= f i).derives ws r y → (f i a).derives mid r y
  unfolding ◌>>=◌
  only_later mid a i r y h s (m, x, d, j) =
      let o = h.only i m x d ((g x).over i m r y j s) in
      move (λ m x. (f i x).derives m r y) o.0 o.1 j

  read_read : (mid : List Token) (a : A) (rest : List Token) (v : B) → Read p c b ws a mid
      → Read (λ i. f i a) e b mid v rest → Read (λ i. p i >>= f i) e b ws v rest
  unfolding ◌>>=◌
  read_read mid a rest v h k = record {
    derives = λ i l. (mid, a, h.derives i l, k.derives i l);
    inside = le_trans k.inside h.inside;
    within = λ i r j. within_later mid a i rest r h k.inside (k.within i) j;
    whole = λ i r x d. whole_later mid a i rest r x h k.inside (k.whole i) d;
    only = λ i r x d s. k.only i r x (only_later mid a i r x h s d) s;
  }

  read_refused : (mid : List Token) (a : A) (rest : List Token) → Read p c b ws a mid
      → (N : Variant K → Type 0)
      → Refused (λ i. f i a) e b N mid rest → Refused (λ i. p i >>= f i) e b N ws rest
  unfolding ◌>>=◌
  read_refused mid a rest h N k = record {
    begun = λ i l. inr (mid, a, h.derives i l, k.begun i l);
    inside = le_trans k.inside h.inside;
    within = λ i r n j. within_later mid a i rest r h k.inside (λ r d. k.within i r n d) j;
    whole = λ i r x n d. whole_later mid a i rest r x h k.inside (λ r x d. k.whole i r x n d) d;
    none = λ i r x n d s. k.none i r x n (only_later mid a i r x h s d) s;
  }

  read_deeper : (mid : List Token) (a : A) (rest : List Token) → Read p c b ws a mid
      → (V : Variant K → Type 0)
      → Deeper (λ i. f i a) b V mid rest → Deeper (λ i. p i >>= f i) b V ws rest
  unfolding ◌>>=◌
  read_deeper mid a rest h V k = record {
    next = k.next;
    after = k.after;
    is = k.is;
    enough = k.enough;
    begun = λ i v l. inr (mid, a, h.derives i (omega arith), k.begun i v l);
  }

  within_none : (rest : List Token) (N : Variant K → Type 0) → Refused p c b N ws rest
      → (i : Variant K) (r : List Token) → N i → (p i >>= f i).begins ws r
      → length rest ≤ length r
  unfolding ◌>>=◌
  within_none rest N h i r n (inl j) = h.within i r n j
  within_none rest N h i r n (inr (m, x, d, j)) = none_later i r m x h n d ((g x).begun i m r j)

  refused_first : (rest : List Token) (N : Variant K → Type 0) → Refused p c b N ws rest
      → Refused (λ i. p i >>= f i) e b N ws rest
  unfolding ◌>>=◌
  refused_first rest N h = record {
    begun = λ i l. inl (h.begun i l);
    inside = h.inside;
    within = within_none rest N h;
    whole = λ i r y n (m, x, d, j). none_later i r m x h n d ((g x).whole i m r y j);
    none = λ i r y n (m, x, d, j) s. h.none i m x n d ((g x).over i m r y j s);
  }

  deeper_first : (rest : List Token) (V : Variant K → Type 0) → Deeper p b V ws rest
      → Deeper (λ i. p i >>= f i) b V ws rest
  unfolding ◌>>=◌
  deeper_first rest V h = record {
    next = h.next;
    after = h.after;
    is = h.is;
    enough = h.enough;
    begun = λ i v l. inl (h.begun i v l);
  }

  second : (mid : List Token) (a : A) (o : Outcome K B) → Read p c b ws a mid
      → Parses (λ i. f i a) e b mid o → Parses (λ i. p i >>= f i) e b ws o
  second mid a (Ok x) h k = read_read mid a (seen x.1) x.0 h k
  second mid a (Err y) h k =
      fails_map (λ i. f i a) (λ i. p i >>= f i) e e b mid ws (seen y.1)
      (λ N r. read_refused mid a (seen y.1) h N r) (λ V d. read_deeper mid a (seen y.1) h V d)
      y.0 k

  pub parses_bind : (o : Outcome K A) (q : A → Reader K B) → Parses p c b ws o
      → ((x : A) (s : Left) → Read p c b ws x (seen s) → Parses (λ i. f i x) e b (seen s) (q x s))
      → Parses (λ i. p i >>= f i) e b ws (and_then o q)
  parses_bind (Ok x) q h k = second (seen x.1) x.0 (q x.0 x.1) h (k x.0 x.1 h)
  parses_bind (Err y) q h k =
      fails_map p (λ i. p i >>= f i) c e b ws ws (seen y.1)
      (λ N r. refused_first (seen y.1) N r) (λ V d. deeper_first (seen y.1) V d) y.0 h

-- ---- what is left

pub not_later : (s : Left) → IsLater s s
not_later s = record { front = []; words = refl; fault = refl }

pub later_still : {s t u : Left} → IsLater s t → IsLater t u → IsLater s u
later_still {s} {t} {u} h k = record {
  front = h.front ++ k.front;
  words = h.words ∙ ap (λ z. h.front ++ z) k.words ∙ sym (append_assoc h.front k.front u.words);
  fault = h.fault ∙ k.fault;
}

pub later_bind : {K A B : Type 0} (s : Left) (o : Outcome K A) (q : A → Reader K B)
    → IsLater s (left_of o) → ((x : A) (t : Left) → IsLater t (left_of (q x t)))
    → IsLater s (left_of (and_then o q))
later_bind s (Ok x) q h k = later_still h (k x.0 x.1)
later_bind s (Err e) q h k = h

-- ---- a sequence and no words, read

pub reads_then : {K A B : Type 0} {p : Variant K → Phrase A} {g : Variant K → A → Phrase B}
    {c e : Token → Bool} {b : ℕ} {r : Reader K A} {q : A → Reader K B}
    → Reading p c b r → ((x : A) → Follows (λ i. g i x) c e)
    → ((x : A) → Reading (λ i. g i x) e b (q x)) → Reading (λ i. p i >>= g i) e b (seq r q)
unfolding seq
reads_then {p = p} {g = g} {c = c} {e = e} {b = b} {r = r} {q = q} h k l = record {
  at = λ s. parses_bind p g c e b k (seen s) (r s) q (h.at s) (λ x t _. (l x).at t);
  later = λ s. later_bind s (r s) q (h.later s) (λ x t. (l x).later t);
}

pub parses_empty : {K A : Type 0} (v : A) (c : Token → Bool) (b : ℕ) (s : Left)
    → Parses {K = K} (λ _. empty v) c b (seen s) (Ok (v, s))
unfolding empty
parses_empty v c b s = record {
  derives = λ _ _. (refl, refl);
  inside = le_refl (length (seen s));
  within = λ i r e. le_of_eq (ap length e);
  whole = λ i r x d. le_of_eq (ap length d.0);
  only = λ i r x d _. (sym d.0, d.1);
}

pub reads_give : {K A : Type 0} (v : A) (c : Token → Bool) (b : ℕ)
    → Reading {K = K} (λ _. empty v) c b (give v)
unfolding give
reads_give v c b = record { at = λ s. parses_empty v c b s; later = not_later }
