-- The words that a phrase begins with.
use Rattle.std.proofs.Common.{◌≡◌, ℕ, ◌≤◌, ◌⊎◌, inl, inr, List, [], ◌∷◌, Bool, true}
use Rattle.std.proofs.Common.{false, ◌||◌, Option, Some, None, is_some, refl, sym, ap, subst, ◌∙◌}
use Rattle.tptp_words.specs.Text.{Token}
use Rattle.tptp_phrases.specs.Phrase.{Phrase, Variant, empty, word, stray, ◌>>=◌, ◌or◌}
use Rattle.tptp_phrases.specs.Readers.{goes_on, takes}
use Rattle.tptp_phrases.specs.Readers.{no_strays}
use Rattle.tptp_phrases.proofs.Outcomes.{Stops, never, stops_never, Starts, Opens, Dead, Follows}
use Rattle.tptp_phrases.proofs.Outcomes.{Apart, Within, Inside, StrayAt, First}

-- ---- tests

pub or_first : (a b : Bool) → a ≡ true → (a || b) ≡ true
or_first true b e = refl
or_first false b e = cc e

pub or_second : (a b : Bool) → b ≡ true → (a || b) ≡ true
or_second true b e = refl
or_second false b e = e

pub goes_first : (t u : Token → Bool) (ws : List Token) → goes_on t ws ≡ true
    → goes_on (λ w. t w || u w) ws ≡ true
goes_first t u [] e = e
goes_first t u (w ∷ ws) e = or_first (t w) (u w) e

pub goes_second : (t u : Token → Bool) (ws : List Token) → goes_on u ws ≡ true
    → goes_on (λ w. t w || u w) ws ≡ true
goes_second t u [] e = e
goes_second t u (w ∷ ws) e = or_second (t w) (u w) e

pub goes_apart : (t c : Token → Bool) → Apart t c → (ws : List Token) → goes_on t ws ≡ true
    → goes_on c ws ≡ false
goes_apart t c h [] e = refl
goes_apart t c h (w ∷ ws) e = h w e

pub goes_inside : (t e : Token → Bool) → Inside t e → (ws : List Token) → goes_on t ws ≡ true
    → goes_on e ws ≡ true
goes_inside t e h [] k = k
goes_inside t e h (w ∷ ws) k = h w k

pub stops_apart : (t c : Token → Bool) → Apart t c → (ws : List Token) → goes_on t ws ≡ true
    → Stops c ws
stops_apart t c h ws e = record { stops = goes_apart t c h ws e }

pub stops_within : (c e : Token → Bool) → Within c e → (ws : List Token) → Stops e ws → Stops c ws
stops_within c e h [] s = record { stops = refl }
stops_within c e h (w ∷ ws) s = record { stops = h w s.stops }

-- ---- what begins with words of a test

first_by : {K : Type 0} (t u : Token → Bool) (kind : Token → Option K) (i : Variant K)
    (ws r : List Token) → (goes_on t ws ≡ true → goes_on u ws ≡ true) → First t kind i ws r
    → First u kind i ws r
first_by t u kind i ws r f (inl e) = inl e
first_by t u kind i ws r f (inr (inl e)) = inr (inl (f e))
first_by t u kind i ws r f (inr (inr a)) = inr (inr a)

pub starts_word : {K A : Type 0} (f : Token → Option A) (kind : Token → Option K)
    → Starts (λ _. word f) (takes f) kind
unfolding word
starts_word f kind = record {
  begun = λ i ws r h. elim h [ inl e ↦ inl e | inr j ↦ inr (inl (first j.0 ws r j.1 j.2 j.3)) ];
  whole = λ i ws r x d. first d.0 ws r x d.1 d.2;
}
  where
    first : (w : Token) (ws r : List Token) (x : _) → ws ≡ w ∷ r → f w ≡ Some x
        → goes_on (takes f) ws ≡ true
    first w ws r x e k = ap (goes_on (takes f)) e ∙ ap is_some k

pub starts_bind : {K A B : Type 0} (p : Variant K → Phrase A) (f : Variant K → A → Phrase B)
    (t : Token → Bool) (kind : Token → Option K) → Starts p t kind
    → Starts (λ i. p i >>= f i) t kind
unfolding ◌>>=◌
starts_bind p f t kind h = record {
  begun = λ i ws r j. elim j [
    | inl k ↦ h.begun i ws r k
    | inr k ↦ inr (inl (h.whole i ws k.0 k.1 k.2))
  ];
  whole = λ i ws r x d. h.whole i ws d.0 d.1 d.2;
}

pub starts_or : {K A : Type 0} (p q : Variant K → Phrase A) (t u : Token → Bool)
    (kind : Token → Option K) → Starts p t kind → Starts q u kind
    → Starts (λ i. p i or q i) (λ w. t w || u w) kind
unfolding ◌or◌
starts_or p q t u kind h k = record {
  begun = λ i ws r j. elim j [
    | inl x ↦ first_by t (λ w. t w || u w) kind i ws r (goes_first t u ws) (h.begun i ws r x)
    | inr x ↦ first_by u (λ w. t w || u w) kind i ws r (goes_second t u ws) (k.begun i ws r x)
  ];
  whole = λ i ws r x j. elim j [
    | inl d ↦ goes_first t u ws (h.whole i ws r x d)
    | inr d ↦ goes_second t u ws (k.whole i ws r x d)
  ];
}

-- a phrase, or a stray word
pub starts_or_stray : {K A : Type 0} (p : Variant K → Phrase A) (t : Token → Bool)
    (kind : Token → Option K) → Starts p t kind → Starts (λ i. p i or stray kind i) t kind
unfolding ◌or◌ stray
starts_or_stray p t kind h = record {
  begun = λ i ws r j. elim j [
    | inl x ↦ h.begun i ws r x
    | inr x ↦ elim x [
      | inl e ↦ inl e
      | inr s ↦ inr (inr (record {
        next = s.0;
        after = r;
        which = s.1;
        is = s.2;
        of = s.3;
        taken = s.4;
      }))
    ]
  ];
  whole = λ i ws r x j. elim j [ inl d ↦ h.whole i ws r x d | inr d ↦ absurd d ];
}

-- ---- words of a test that begin a phrase

pub opens_word : {K A : Type 0} (f : Token → Option A)
    → Opens {K = K} (λ _. word f) (takes f) no_strays 0
unfolding word
opens_word f = record {
  none = λ i ws. inl refl;
  one = λ i w ws l e. inr (first w ws (f w) refl e);
  astray = λ i w ws k l e v. cc e;
}
  where
    first : (w : Token) (ws : List Token) (o : Option _) → f w ≡ o → is_some o ≡ true
        → (v : Token) × (t : _) × (w ∷ ws ≡ v ∷ ws) × (f v ≡ Some t)
    first w ws None j e = absurd (cc e)
    first w ws (Some t) j e = (w, t, refl, j)

pub opens_bind : {K A B : Type 0} (p : Variant K → Phrase A) (f : Variant K → A → Phrase B)
    (t : Token → Bool) (kind : Token → Option K) (m : ℕ) → Opens p t kind m
    → Opens (λ i. p i >>= f i) t kind m
unfolding ◌>>=◌
opens_bind p f t kind m h = record {
  none = λ i ws. inl (h.none i ws);
  one = λ i w ws l e. inl (h.one i w ws l e);
  astray = λ i w ws k l e v. inl (h.astray i w ws k l e v);
}

-- The stray words are those of the second.
pub opens_or : {K A : Type 0} (p q : Variant K → Phrase A) (t u : Token → Bool)
    (first kind : Token → Option K) (m : ℕ) → Opens p t first m → Opens q u kind m
    → Opens (λ i. p i or q i) (λ w. t w || u w) kind m
unfolding ◌or◌
opens_or p q t u first kind m h k = record {
  none = λ i ws. inl (h.none i ws);
  one = λ i w ws l j. one i w ws l (t w) refl j;
  astray = λ i w ws n l e v. inr (k.astray i w ws n l e v);
}
  where
    one : (i : Variant _) (w : Token) (ws : List Token) → m ≤ i.depth → (s : Bool) → t w ≡ s
        → (s || u w) ≡ true → ((p i).begins (w ∷ ws) ws) ⊎ ((q i).begins (w ∷ ws) ws)
    one i w ws j true e l = inl (h.one i w ws j e)
    one i w ws j false e l = inr (k.one i w ws j l)

pub opens_or_stray : {K A : Type 0} (p : Variant K → Phrase A) (t : Token → Bool)
    (first kind : Token → Option K) (m : ℕ) → Opens p t first m
    → Opens (λ i. p i or stray kind i) t kind m
unfolding ◌or◌ stray
opens_or_stray p t first kind m h = record {
  none = λ i ws. inl (h.none i ws);
  one = λ i w ws l j. inl (h.one i w ws l j);
  astray = λ i w ws k l e v. inr (inr (w, k, refl, e, v));
}

-- ---- where nothing stands

abbrev pub NoStray : {K : Type 0} → (Token → Option K) → List Token → Type 0
NoStray {K} kind ws = (i : Variant K) → StrayAt kind i ws → ⊥

pub no_stray_there : {K : Type 0} (ws : List Token) → NoStray {K = K} no_strays ws
no_stray_there ws i a = let e = a.of in cc e

pub dead_starts : {K A : Type 0} (p : Variant K → Phrase A) (t : Token → Bool)
    (kind : Token → Option K) (c : Token → Bool) (ws : List Token) → Starts p t kind
    → goes_on t ws ≡ false → NoStray kind ws → Dead p c ws
dead_starts p t kind c ws h e n = record {
  begun = λ i r j. elim (h.begun i ws r j) [
    | inl k ↦ k
    | inr k ↦ elim k [ inl l ↦ absurd (cc (e, l)) | inr a ↦ absurd (n i a) ]
  ];
  whole = λ i r x d. let j = h.whole i ws r x d in absurd (cc (e, j));
  none = λ i r x d _. let j = h.whole i ws r x d in cc (e, j);
}

pub dead_empty : {K A : Type 0} (v : A) (c : Token → Bool) (ws : List Token) → goes_on c ws ≡ true
    → Dead {K = K} (λ _. empty v) c ws
unfolding empty
dead_empty v c ws e = record {
  begun = λ i r j. j;
  whole = λ i r x d. d.0;
  none = λ i r x d s. let k = ap (goes_on c) d.0 in let l = s.stops in cc (e, k, l);
}

pub dead_or : {K A : Type 0} (p q : Variant K → Phrase A) (c : Token → Bool) (ws : List Token)
    → Dead p c ws → Dead q c ws → Dead (λ i. p i or q i) c ws
unfolding ◌or◌
dead_or p q c ws h k = record {
  begun = λ i r j. elim j [ inl x ↦ h.begun i r x | inr x ↦ k.begun i r x ];
  whole = λ i r x j. elim j [ inl y ↦ h.whole i r x y | inr y ↦ k.whole i r x y ];
  none = λ i r x j s. elim j [ inl y ↦ h.none i r x y s | inr y ↦ k.none i r x y s ];
}

-- ---- what may follow

pub follows_never : {K A : Type 0} (q : Variant K → Phrase A) (e : Token → Bool)
    → Follows q never e
follows_never q e = record {
  begun = λ i m r _. inr (stops_never m);
  whole = λ i m r x _. inr (stops_never m);
  over = λ i m r x _ _. stops_never m;
}

pub follows_starts : {K A : Type 0} (p : Variant K → Phrase A) (t c e : Token → Bool)
    → Starts p t no_strays → Apart t c → Follows p c e
follows_starts p t c e h a = record {
  begun = λ i m r j. elim (h.begun i m r j) [
    | inl k ↦ inl k
    | inr k ↦ elim k [
      | inl l ↦ inr (stops_apart t c a m l)
      | inr s ↦ absurd (no_stray_there m i s)
    ]
  ];
  whole = λ i m r x d. inr (stops_apart t c a m (h.whole i m r x d));
  over = λ i m r x d s. stops_apart t c a m (h.whole i m r x d);
}

pub follows_empty : {K A : Type 0} (v : A) (c e : Token → Bool) → Within c e
    → Follows {K = K} (λ _. empty v) c e
unfolding empty
follows_empty v c e h = record {
  begun = λ i m r j. inl j;
  whole = λ i m r x d. inl d.0;
  over = λ i m r x d s. stops_within c e h m (subst (λ z. Stops e z) (sym d.0) s);
}

pub follows_or : {K A : Type 0} (p q : Variant K → Phrase A) (c e : Token → Bool) → Follows p c e
    → Follows q c e → Follows (λ i. p i or q i) c e
unfolding ◌or◌
follows_or p q c e h k = record {
  begun = λ i m r j. elim j [ inl x ↦ h.begun i m r x | inr x ↦ k.begun i m r x ];
  whole = λ i m r x j. elim j [ inl y ↦ h.whole i m r x y | inr y ↦ k.whole i m r x y ];
  over = λ i m r x j s. elim j [ inl y ↦ h.over i m r x y s | inr y ↦ k.over i m r x y s ];
}
