-- How what is said of outcomes goes through a choice by the first word.
use Rattle.std.proofs.Common.{◌≡◌, ℕ, ◌≤◌, ◌⊎◌, inl, inr, List, Bool, true, false, length}
use Rattle.std.proofs.Common.{Option, Ok, Err, refl, sym, subst, ◌∙◌, if◌then◌else◌}
use Rattle.tptp_words.specs.Text.{Token}
use Rattle.tptp_phrases.specs.Phrase.{Phrase, Variant, empty, stray, ◌>>=◌, ◌or◌, word}
use Rattle.tptp_words.specs.Scanning.{Left}
use Rattle.tptp_phrases.specs.Readers.{seen, Outcome, Reader, goes_on, choose, give, seq}
use Rattle.tptp_phrases.specs.Readers.{takes, take_word, refuse_stray}
use Rattle.tptp_phrases.specs.Readers.{no_strays}
use Rattle.tptp_phrases.proofs.Outcomes.{Stops, Refused, Deeper, Parses, Reading, Dead}
use Rattle.tptp_phrases.proofs.Outcomes.{Starts, Apart, Inside, StraysApart}
use Rattle.tptp_phrases.proofs.Outcomes.{IsLater, left_of, Within, Follows, First}
use Rattle.tptp_phrases.proofs.Sequences.{fails_map, parses_empty, not_later, reads_then}
use Rattle.tptp_phrases.proofs.SingleWords.{reads_word, reads_stray}
use Rattle.tptp_phrases.proofs.Firsts.{dead_starts, dead_empty, dead_or, no_stray_there, goes_apart}
use Rattle.tptp_phrases.proofs.Firsts.{goes_inside, NoStray, starts_bind, starts_word}
use Rattle.tptp_phrases.proofs.Firsts.{follows_never, follows_starts, stops_within, stops_apart}

-- ---- one alternative where nothing of the other stands

module _ {K A : Type 0} (p q : Variant K → Phrase A) (c : Token → Bool) (b : ℕ) (ws : List Token)
  where
    all_of : (rest r : List Token) → length rest ≤ length ws → ws ≡ r → length rest ≤ length r
    all_of rest r h e = subst (λ z. length rest ≤ length z) e h

    refused_left : (rest : List Token) → Dead q c ws → (N : Variant K → Type 0)
        → Refused p c b N ws rest → Refused (λ i. p i or q i) c b N ws rest
    unfolding ◌or◌
    refused_left rest d N h = record {
      begun = λ i l. inl (h.begun i l);
      inside = h.inside;
      within = λ i r n j. elim j [
        | inl x ↦ h.within i r n x
        | inr x ↦ all_of rest r h.inside (d.begun i r x)
      ];
      whole = λ i r x n j. elim j [
        | inl y ↦ h.whole i r x n y
        | inr y ↦ all_of rest r h.inside (d.whole i r x y)
      ];
      none = λ i r x n j s. elim j [ inl y ↦ h.none i r x n y s | inr y ↦ d.none i r x y s ];
    }

    deeper_left : (rest : List Token) (V : Variant K → Type 0) → Deeper p b V ws rest
        → Deeper (λ i. p i or q i) b V ws rest
    unfolding ◌or◌
    deeper_left rest V h = record {
      next = h.next;
      after = h.after;
      is = h.is;
      enough = h.enough;
      begun = λ i v l. inl (h.begun i v l);
    }

    pub parses_left : (o : Outcome K A) → Dead q c ws → Parses p c b ws o
        → Parses (λ i. p i or q i) c b ws o
    unfolding ◌or◌
    parses_left (Ok v) d h = record {
      derives = λ i l. inl (h.derives i l);
      inside = h.inside;
      within = λ i r j. elim j [
        | inl x ↦ h.within i r x
        | inr x ↦ all_of (seen v.1) r h.inside (d.begun i r x)
      ];
      whole = λ i r x j. elim j [
        | inl y ↦ h.whole i r x y
        | inr y ↦ all_of (seen v.1) r h.inside (d.whole i r x y)
      ];
      only = λ i r x j s. elim j [ inl y ↦ h.only i r x y s | inr y ↦ absurd (d.none i r x y s) ];
    }
    parses_left (Err e) d h =
        fails_map p (λ i. p i or q i) c c b ws ws (seen e.1) (λ N r. refused_left (seen e.1) d N r)
        (λ V x. deeper_left (seen e.1) V x) e.0 h

    refused_right : (rest : List Token) → Dead p c ws → (N : Variant K → Type 0)
        → Refused q c b N ws rest → Refused (λ i. p i or q i) c b N ws rest
    unfolding ◌or◌
    refused_right rest d N h = record {
      begun = λ i l. inr (h.begun i l);
      inside = h.inside;
      within = λ i r n j. elim j [
        | inr x ↦ h.within i r n x
        | inl x ↦ all_of rest r h.inside (d.begun i r x)
      ];
      whole = λ i r x n j. elim j [
        | inr y ↦ h.whole i r x n y
        | inl y ↦ all_of rest r h.inside (d.whole i r x y)
      ];
      none = λ i r x n j s. elim j [ inr y ↦ h.none i r x n y s | inl y ↦ d.none i r x y s ];
    }

    deeper_right : (rest : List Token) (V : Variant K → Type 0) → Deeper q b V ws rest
        → Deeper (λ i. p i or q i) b V ws rest
    unfolding ◌or◌
    deeper_right rest V h = record {
      next = h.next;
      after = h.after;
      is = h.is;
      enough = h.enough;
      begun = λ i v l. inr (h.begun i v l);
    }

    pub parses_right : (o : Outcome K A) → Dead p c ws → Parses q c b ws o
        → Parses (λ i. p i or q i) c b ws o
    unfolding ◌or◌
    parses_right (Ok v) d h = record {
      derives = λ i l. inr (h.derives i l);
      inside = h.inside;
      within = λ i r j. elim j [
        | inr x ↦ h.within i r x
        | inl x ↦ all_of (seen v.1) r h.inside (d.begun i r x)
      ];
      whole = λ i r x j. elim j [
        | inr y ↦ h.whole i r x y
        | inl y ↦ all_of (seen v.1) r h.inside (d.whole i r x y)
      ];
      only = λ i r x j s. elim j [ inr y ↦ h.only i r x y s | inl y ↦ absurd (d.none i r x y s) ];
    }
    parses_right (Err e) d h =
        fails_map q (λ i. p i or q i) c c b ws ws (seen e.1) (λ N r. refused_right (seen e.1) d N r)
        (λ V x. deeper_right (seen e.1) V x) e.0 h

-- ---- by the next word

if_true : {K A : Type 0} (P : Outcome K A → Type 0) (x y : Outcome K A) (s : Bool)
    → (s ≡ true → P x) → (s ≡ false → P y) → P (if s then x else y)
if_true P x y true f g = f refl
if_true P x y false f g = g refl

pub chosen : {K A : Type 0} (P : Outcome K A → Type 0) (t : Token → Bool) (r q : Reader K A)
    (s : Left) → (goes_on t (seen s) ≡ true → P (r s)) → (goes_on t (seen s) ≡ false → P (q s))
    → P (choose t r q s)
unfolding choose
chosen P t r q s f g = if_true P (r s) (q s) (goes_on t (seen s)) f g

pub later_chosen : {K A : Type 0} (t : Token → Bool) (r q : Reader K A) (s : Left)
    → IsLater s (left_of (r s)) → IsLater s (left_of (q s)) → IsLater s (left_of (choose t r q s))
later_chosen t r q s h k = chosen (λ o. IsLater s (left_of o)) t r q s (λ _. h) (λ _. k)

-- where a word of t stands, there is nothing of q
pub record Off {K A : Type 0} (q : Variant K → Phrase A) (t c : Token → Bool) : Type 0 where
  pub dead : (ws : List Token) → goes_on t ws ≡ true → Dead q c ws

no_stray_by : {K : Type 0} (t : Token → Bool) (kind : Token → Option K) → StraysApart kind t
    → (ws : List Token) → goes_on t ws ≡ true → NoStray kind ws
no_stray_by t kind h ws e i a =
    let off = h a.next a.which a.of in
    let on : t a.next ≡ true = subst (λ z. goes_on t z ≡ true) a.is e in
    cc (off, on)

pub off_starts : {K A : Type 0} {q : Variant K → Phrase A} {t u c : Token → Bool}
    → Starts q u no_strays → Apart t u → Off q t c
off_starts {q = q} {t = t} {u = u} {c = c} k a = record {
  dead = λ ws e. dead_starts q u no_strays c ws k (goes_apart t u a ws e) (no_stray_there ws);
}

pub off_starts_stray : {K A : Type 0} {q : Variant K → Phrase A} {t u c : Token → Bool}
    (kind : Token → Option K) → Starts q u kind → Apart t u → StraysApart kind t → Off q t c
off_starts_stray {q = q} {t = t} {u = u} {c = c} kind k a b = record {
  dead = λ ws e. dead_starts q u kind c ws k (goes_apart t u a ws e) (no_stray_by t kind b ws e);
}

dead_stray : {K A : Type 0} (kind : Token → Option K) (c : Token → Bool) (ws : List Token)
    → NoStray kind ws → Dead {A = A} (λ i. stray kind i) c ws
unfolding stray
dead_stray kind c ws n = record {
  begun = λ i r j. elim j [
    | inl e ↦ e
    | inr s ↦ absurd (n i (record {
      next = s.0;
      after = r;
      which = s.1;
      is = s.2;
      of = s.3;
      taken = s.4;
    }))
  ];
  whole = λ i r x d. absurd d;
  none = λ i r x d s. d;
}

pub off_stray : {K A : Type 0} (kind : Token → Option K) {t c : Token → Bool}
    → StraysApart kind t → Off {A = A} (λ i. stray kind i) t c
off_stray kind {t = t} {c = c} h =
    record { dead = λ ws e. dead_stray kind c ws (no_stray_by t kind h ws e) }

pub off_empty : {K A : Type 0} (v : A) {t c : Token → Bool} → Inside t c
    → Off {K = K} (λ _. empty v) t c
off_empty v {t = t} {c = c} i =
    record { dead = λ ws e. dead_empty v c ws (goes_inside t c i ws e) }

pub off_or : {K A : Type 0} {p q : Variant K → Phrase A} {t c : Token → Bool} → Off p t c
    → Off q t c → Off (λ i. p i or q i) t c
off_or {p = p} {q = q} {t = t} {c = c} h k =
    record { dead = λ ws e. dead_or p q c ws (h.dead ws e) (k.dead ws e) }

-- ---- choices, read

-- the first alternative begins with words of t, where there is nothing of the second
pub reads_or : {K A : Type 0} {p q : Variant K → Phrase A} {t : Token → Bool} {c : Token → Bool}
    {b : ℕ} {r s : Reader K A} → Starts p t no_strays → Off q t c → Reading p c b r
    → Reading q c b s → Reading (λ i. p i or q i) c b (choose t r s)
reads_or {p = p} {q = q} {t = t} {c = c} {b = b} {r = r} {s = s} h k l m = record {
  at = λ x. chosen (λ o. Parses (λ i. p i or q i) c b (seen x) o) t r s x
      (λ e. parses_left p q c b (seen x) (r x) (k.dead (seen x) e) (l.at x))
      (λ e. parses_right p q c b (seen x) (s x)
      (dead_starts p t no_strays c (seen x) h e (no_stray_there (seen x))) (m.at x));
  later = λ x. later_chosen t r s x (l.later x) (m.later x);
}

-- nothing, or what begins with words of t
pub reads_optional : {K A : Type 0} (v : A) {p : Variant K → Phrase A} {t c : Token → Bool} {b : ℕ}
    {r : Reader K A} → Starts p t no_strays → Inside t c → Reading p c b r
    → Reading (λ i. empty v or p i) c b (choose t r (give v))
unfolding give
reads_optional v {p = p} {t = t} {c = c} {b = b} {r = r} h i l = record {
  at = λ x. chosen (λ o. Parses (λ i. empty v or p i) c b (seen x) o) t r (give v) x
      (λ e. parses_right (λ _. empty v) p c b (seen x) (r x)
      (dead_empty v c (seen x) (goes_inside t c i (seen x) e)) (l.at x))
      (λ e. parses_left (λ _. empty v) p c b (seen x) (Ok (v, x))
      (dead_starts p t no_strays c (seen x) h e (no_stray_there (seen x)))
      (parses_empty v c b x));
  later = λ x. later_chosen t r (give v) x (l.later x) (not_later x);
}

-- a phrase that begins with words of t, or a stray word
pub reads_or_stray : {K A : Type 0} {p : Variant K → Phrase A} {t c : Token → Bool} {b : ℕ}
    {r : Reader K A} (kind : Token → Option K) → Starts p t no_strays → StraysApart kind t
    → Reading p c b r → Reading (λ i. p i or stray kind i) c b (choose t r (refuse_stray kind))
reads_or_stray {p = p} {t = t} {c = c} {b = b} {r = r} kind h a l =
    reads_or h (off_stray kind a) l (reads_stray _ kind c b)

-- ---- sequences that go through words

-- a word, and what follows it
pub reads_word_then : {K A B : Type 0} (f : Token → Option A) {g : Variant K → A → Phrase B}
    {e : Token → Bool} {b : ℕ} {q : A → Reader K B} → ((x : A) → Reading (λ i. g i x) e b (q x))
    → Reading (λ i. word f >>= g i) e b (seq (take_word f) q)
reads_word_then f {g = g} {e = e} {b = b} h =
    reads_then (reads_word f b) (λ x. follows_never (λ i. g i x) e) h

pub starts_word_then : {K A B : Type 0} (f : Token → Option A) (g : Variant K → A → Phrase B)
    (kind : Token → Option K) → Starts (λ i. word f >>= g i) (takes f) kind
starts_word_then f g kind = starts_bind (λ _. word f) g (takes f) kind (starts_word f kind)

-- a phrase, and after it one that begins with a word
pub reads_to_word : {K A B C : Type 0} (f : Token → Option B) {p : Variant K → Phrase A}
    (g : Variant K → A → B → Phrase C) {c e : Token → Bool} {b : ℕ} {r : Reader K A}
    {q : A → Reader K C} → Apart (takes f) c → Reading p c b r
    → ((x : A) → Reading (λ i. word f >>= g i x) e b (q x))
    → Reading (λ i. p i >>= λ x. word f >>= g i x) e b (seq r q)
reads_to_word f g {c = c} {e = e} a h k =
    reads_then h
    (λ x. follows_starts _ (takes f) c e (starts_word_then f (λ i. g i x) no_strays) a) k

-- ---- what may go on

-- more words may go on
pub reads_within : {K A : Type 0} {p : Variant K → Phrase A} {c e : Token → Bool} {b : ℕ}
    {r : Reader K A} → Within c e → Reading p c b r → Reading p e b r
reads_within {K} {A} {p = p} {c = c} {e = e} {b = b} {r = r} w h =
    record { at = λ s. go (seen s) (r s) (h.at s); later = h.later }
  where
    refused : (ws rest : List Token) (N : Variant K → Type 0) → Refused p c b N ws rest
        → Refused p e b N ws rest
    refused ws rest N k = record {
      begun = k.begun;
      inside = k.inside;
      within = k.within;
      whole = k.whole;
      none = λ i x v n d s. k.none i x v n d (stops_within c e w x s);
    }

    go : (ws : List Token) (o : Outcome K A) → Parses p c b ws o → Parses p e b ws o
    go ws (Ok x) k = record {
      derives = k.derives;
      inside = k.inside;
      within = k.within;
      whole = k.whole;
      only = λ i q v d s. k.only i q v d (stops_within c e w q s);
    }
    go ws (Err x) k =
        fails_map p p c e b ws ws (seen x.1) (λ N z. refused ws (seen x.1) N z) (λ V z. z) x.0 k

-- nothing or what begins with words of t, and then what begins with words of u
pub follows_optional : {K A B : Type 0} (v : A) (p : Variant K → Phrase A)
    (g : Variant K → A → Phrase B) (t u c e : Token → Bool) → Starts p t no_strays
    → ((x : A) → Starts (λ i. g i x) u no_strays) → Apart t c → Apart u c
    → Follows (λ i. (empty v or p i) >>= g i) c e
unfolding empty ◌or◌ ◌>>=◌
follows_optional {K} {A} {B} v p g t u c e h k a d =
    record { begun = begun; whole = whole; over = λ i m r x j s. front i m r x j }
  where
    first : (i : Variant K) (m r : List Token) → First t no_strays i m r → (m ≡ r) ⊎ Stops c m
    first i m r (inl j) = inl j
    first i m r (inr (inl j)) = inr (stops_apart t c a m j)
    first i m r (inr (inr s)) = absurd (no_stray_there m i s)

    second : (i : Variant K) (m n r : List Token) → m ≡ n → First u no_strays i n r
        → (m ≡ r) ⊎ Stops c m
    second i m n r e (inl j) = inl (e ∙ j)
    second i m n r e (inr (inl j)) =
        inr (stops_apart u c d m (subst (λ z. goes_on u z ≡ true) (sym e) j))
    second i m n r e (inr (inr s)) = absurd (no_stray_there n i s)

    begun : (i : Variant K) (m r : List Token) → ((empty v or p i) >>= g i).begins m r
        → (m ≡ r) ⊎ Stops c m
    begun i m r (inl (inl j)) = inl j
    begun i m r (inl (inr j)) = first i m r (h.begun i m r j)
    begun i m r (inr (n, x, inl j, b)) = second i m n r j.0 ((k x).begun i n r b)
    begun i m r (inr (n, x, inr j, b)) = inr (stops_apart t c a m (h.whole i m n x j))

    front : (i : Variant K) (m r : List Token) (y : B) → ((empty v or p i) >>= g i).derives m r y
        → Stops c m
    front i m r y (n, x, inl j, b) =
        stops_apart u c d m
        (subst (λ z. goes_on u z ≡ true) (sym j.0) ((k x).whole i n r y b))
    front i m r y (n, x, inr j, b) = stops_apart t c a m (h.whole i m n x j)

    whole : (i : Variant K) (m r : List Token) (y : B) → ((empty v or p i) >>= g i).derives m r y
        → (m ≡ r) ⊎ Stops c m
    whole i m r y j = inr (front i m r y j)
