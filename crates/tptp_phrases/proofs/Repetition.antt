-- A repetition, read item by item.
use Rattle.std.proofs.Common.{◌≡◌, ℕ, zero, suc, ◌≤◌, ◌<◌, ◌⊎◌, inl, inr, List, [], ◌∷◌, Bool, true}
use Rattle.std.proofs.Common.{false, length, Option, Some, None, Ok, refl, sym, subst}
use Rattle.std.proofs.Common.{arith, ◌∙◌, ◌++◌, append_assoc, append-nil}
use Rattle.std.proofs.lemmas.List.{length-map}
use Rattle.std.proofs.Math.Nat.{le_refl}
use Rattle.tptp_words.specs.Text.{Token, Placed}
use Rattle.tptp_phrases.specs.Phrase.{Phrase, Variant, empty, ◌>>=◌, ◌or◌, many}
use Rattle.tptp_words.specs.Scanning.{Left}
use Rattle.tptp_phrases.specs.Readers.{seen, Reader, goes_on, give, seq}
use Rattle.tptp_phrases.specs.Readers.{and_then, many_from, many_at}
use Rattle.tptp_phrases.proofs.Outcomes.{Stops, Read, Parses, Reading, Starts, Follows}
use Rattle.tptp_phrases.proofs.Outcomes.{Apart, Within, Inside, StraysApart, StrayAt, IsLater}
use Rattle.tptp_phrases.proofs.Outcomes.{left_of, First}
use Rattle.tptp_phrases.proofs.Sequences.{parses_bind, parses_empty, not_later, later_bind}
use Rattle.tptp_phrases.proofs.Forms.{Same, parses_same}
use Rattle.tptp_phrases.proofs.Firsts.{dead_starts, dead_empty, goes_inside, stops_apart, stops_within}
use Rattle.tptp_phrases.proofs.Firsts.{starts_bind, NoStray}
use Rattle.tptp_phrases.proofs.Choices.{parses_left, parses_right, chosen, later_chosen}

-- what is found already, and then the repetition
abbrev pub more : {A : Type 0} → Phrase A → List A → Phrase (List A)
more p found = many p >>= λ rest. empty (found ++ rest)

unroll : {A : Type 0} (p : Phrase A) (found : List A)
    → Same (empty found or (p >>= λ a. more p (found ++ a ∷ []))) (more p found)
unfolding empty ◌>>=◌ ◌or◌ many
unroll {A} p found =
    record { derives = to; derives_back = from; begins = begins; begins_back = begins_back }
  where
    to : (ws r : List Token) (x : List A)
        → (empty found or (p >>= λ a. more p (found ++ a ∷ []))).derives ws r x
        → (more p found).derives ws r x
    to ws r x (inl (e, i)) = (ws, [], refl, (e, i ∙ sym (append-nil found)))
    to ws r x (inr (m, a, d, (n, as', row, (e, i)))) =
        (n, a ∷ as', (m, d, row), (e, i ∙ append_assoc found (a ∷ []) as'))

    from : (ws r : List Token) (x : List A) → (more p found).derives ws r x
        → (empty found or (p >>= λ a. more p (found ++ a ∷ []))).derives ws r x
    from ws r x (m, [], row, (e, i)) = inl (row ∙ e, i ∙ append-nil found)
    from ws r x (m, a ∷ as', (n, d, row), (e, i)) =
        inr (n, a, d, (m, as', row, (e, i ∙ sym (append_assoc found (a ∷ []) as'))))

    begins : (ws r : List Token)
        → (empty found or (p >>= λ a. more p (found ++ a ∷ []))).begins ws r
        → (more p found).begins ws r
    begins ws r (inl e) = inl (inl e)
    begins ws r (inr (inl i)) = inl (inr (ws, [], refl, i))
    begins ws r (inr (inr (m, a, d, inl (inl e)))) = inr (m, a ∷ [], (m, d, refl), e)
    begins ws r (inr (inr (m, a, d, inl (inr (n, as', row, i))))) =
        inl (inr (n, a ∷ as', (m, d, row), i))
    begins ws r (inr (inr (m, a, d, inr (n, as', row, e)))) = inr (n, a ∷ as', (m, d, row), e)

    begins_back : (ws r : List Token) → (more p found).begins ws r
        → (empty found or (p >>= λ a. more p (found ++ a ∷ []))).begins ws r
    begins_back ws r (inl (inl e)) = inl e
    begins_back ws r (inl (inr (m, [], row, i))) =
        inr (inl (subst (λ z. p.begins z r) (sym row) i))
    begins_back ws r (inl (inr (m, a ∷ as', (n, d, row), i))) =
        inr (inr (n, a, d, inl (inr (m, as', row, i))))
    begins_back ws r (inr (m, [], row, e)) = inl (row ∙ e)
    begins_back ws r (inr (m, a ∷ as', (n, d, row), e)) = inr (inr (n, a, d, inr (m, as', row, e)))

-- ---- items that are told by their first words

-- Each item begins with a word of `first`, or a stray word, and the reader goes on where a word of t
-- stands. Words of c go on with an item, and those of e with the whole.
pub record Repeats {K A : Type 0} (p : Variant K → Phrase A) (t first : Token → Bool)
    (kind : Token → Option K) (c e : Token → Bool) (b : ℕ) (r : Reader K A) : Type 0 where
  pub starts : Starts p first kind
  pub opens : (i : Variant K) (w : Token) (ws : List Token) → first w ≡ true
      → (p i).begins (w ∷ ws) ws
  pub covers : Within first t
  pub covers_strays : (w : Token) (k : K) → kind w ≡ Some k → t w ≡ true
  pub apart : Apart first c
  pub apart_strays : StraysApart kind c
  pub under : Within c e
  pub inside : Inside t e
  pub reads : Reading p c b r

module _ {K A : Type 0} (p : Variant K → Phrase A) (t first : Token → Bool)
    (kind : Token → Option K) (c e : Token → Bool) (b : ℕ) (r : Reader K A)
    (h : Repeats p t first kind c e b r) where
  stray_stops : (i : Variant K) (ws : List Token) → StrayAt kind i ws → Stops c ws
  stray_stops i ws a = subst (λ z. Stops c z) (sym a.is) (record {
    stops = h.apart_strays a.next a.which a.of;
  })

  pub follows_many : {B : Type 0} (k : List A → B)
      → Follows (λ i. many (p i) >>= λ rest. empty (k rest)) c e
  unfolding empty ◌>>=◌ many
  follows_many {B = B} k = record { begun = begun; whole = whole; over = over }
    where
      front : (i : Variant K) (m n : List Token) (a : A) → (p i).derives m n a → Stops c m
      front i m n a d = stops_apart first c h.apart m (h.starts.whole i m n a d)

      one : (i : Variant K) (m n r : List Token) → m ≡ n → First first kind i n r
          → (m ≡ r) ⊎ Stops c m
      one i m n r row (inl j) = inl (row ∙ j)
      one i m n r row (inr (inl j)) =
          inr (stops_apart first c h.apart m (subst (λ z. goes_on first z ≡ true) (sym row) j))
      one i m n r row (inr (inr a)) =
          inr (subst (λ z. Stops c z) (sym row) (stray_stops i n a))

      begun : (i : Variant K) (m r : List Token)
          → (many (p i) >>= λ rest. empty (k rest)).begins m r → (m ≡ r) ⊎ Stops c m
      begun i m r (inl (inl j)) = inl j
      begun i m r (inl (inr (n, [], row, j))) = one i m n r row (h.starts.begun i n r j)
      begun i m r (inl (inr (n, a ∷ as', (m1, d, row), j))) = inr (front i m m1 a d)
      begun i m r (inr (n, [], row, j)) = inl (row ∙ j)
      begun i m r (inr (n, a ∷ as', (m1, d, row), j)) = inr (front i m m1 a d)

      whole : (i : Variant K) (m r : List Token) (x : B)
          → (many (p i) >>= λ rest. empty (k rest)).derives m r x → (m ≡ r) ⊎ Stops c m
      whole i m r x (n, [], row, j) = inl (row ∙ j.0)
      whole i m r x (n, a ∷ as', (m1, d, row), j) = inr (front i m m1 a d)

      over : (i : Variant K) (m r : List Token) (x : B)
          → (many (p i) >>= λ rest. empty (k rest)).derives m r x → Stops e r → Stops c m
      over i m r x (n, [], row, j) s =
          stops_within c e h.under m (subst (λ z. Stops e z) (sym (row ∙ j.0)) s)
      over i m r x (n, a ∷ as', (m1, d, row), j) s = front i m m1 a d

  none_there : (ws : List Token) → goes_on t ws ≡ false → goes_on first ws ≡ false
  none_there [] s = refl
  none_there (w ∷ ws) s = h.covers w s

  no_stray : (ws : List Token) → goes_on t ws ≡ false → NoStray kind ws
  no_stray ws s i a =
      let on = h.covers_strays a.next a.which a.of in
      let off : t a.next ≡ false = subst (λ z. goes_on t z ≡ false) a.is s in
      cc (on, off)

  over_now : (found : List A) (s : Left) → goes_on t (seen s) ≡ false
      → Parses (λ i. more (p i) found) e b (seen s) (Ok (found, s))
  over_now found s n =
      parses_same (λ i. empty found or (p i >>= λ a. more (p i) (found ++ a ∷ [])))
      (λ i. more (p i) found) (λ i. unroll (p i) found) e b (seen s) (Ok (found, s))
      (parses_left (λ _. empty found) (λ i. p i >>= λ a. more (p i) (found ++ a ∷ [])) e b (seen s)
      (Ok (found, s))
      (dead_starts (λ i. p i >>= λ a. more (p i) (found ++ a ∷ [])) first kind e (seen s)
      (starts_bind p (λ i a. more (p i) (found ++ a ∷ [])) first kind h.starts)
      (none_there (seen s) n) (no_stray (seen s) n)) (parses_empty found e b s))

  -- an item has at least one word
  shorter_item : (b' : ℕ) (ws ms : List Token) (a : A) (i : Variant K) → (p i).derives ws ms a
      → Read p c b' ws a ms → length ms < length ws
  shorter_item b' [] ms a i d k = let j = h.starts.whole i [] ms a d in cc j
  shorter_item b' (w ∷ ws) ms a i d k =
      let le = k.within i ws (h.opens i w ws (h.starts.whole i (w ∷ ws) ms a d)) in omega arith

  pub shorter_read : (ws ms : List Token) (a : A) → Read p c b ws a ms → length ms < length ws
  shorter_read ws ms a k =
      let i : Variant K = record { depth = b; stray = None } in
      shorter_item b ws ms a i (k.derives i (le_refl b)) k

  goes_now : (found : List A) (s : Left) (q : A → Reader K (List A)) → goes_on t (seen s) ≡ true
      → ((a : A) (u : Left) → Read p c b (seen s) a (seen u)
      → Parses (λ i. more (p i) (found ++ a ∷ [])) e b (seen u) (q a u))
      → Parses (λ i. more (p i) found) e b (seen s) (and_then (r s) q)
  goes_now found s q g k =
      parses_same (λ i. empty found or (p i >>= λ a. more (p i) (found ++ a ∷ [])))
      (λ i. more (p i) found) (λ i. unroll (p i) found) e b (seen s) (and_then (r s) q)
      (parses_right (λ _. empty found) (λ i. p i >>= λ a. more (p i) (found ++ a ∷ [])) e b (seen s)
      (and_then (r s) q) (dead_empty found e (seen s) (goes_inside t e h.inside (seen s) g))
      (parses_bind p (λ i a. more (p i) (found ++ a ∷ [])) c e b
      (λ a. follows_many (λ rest. (found ++ a ∷ []) ++ rest)) (seen s) (r s) q (h.reads.at s) k))

  no_words : (ws : List Token) → length ws ≤ 0 → goes_on t ws ≡ false
  no_words [] l = refl
  no_words (w ∷ ws) l = absurd (omega arith)

  parses_many : (turns : ℕ) (found : List A) (s : Left) → length (seen s) ≤ turns
      → Parses (λ i. more (p i) found) e b (seen s) (many_from t r turns found s)
  unfolding many_from seq give
  parses_many zero found s l = over_now found s (no_words (seen s) l)
  parses_many (suc turns) found s l =
      chosen (λ o. Parses (λ i. more (p i) found) e b (seen s) o) t
      (seq r (λ a. many_from t r turns (found ++ a ∷ []))) (give found) s
      (λ g. goes_now found s (λ a. many_from t r turns (found ++ a ∷ [])) g
      (λ a u k. let less = shorter_read (seen s) (seen u) a k in
      parses_many turns (found ++ a ∷ []) u (omega arith)))
      (λ g. over_now found s g)

  later_many : (turns : ℕ) (found : List A) (s : Left)
      → IsLater s (left_of (many_from t r turns found s))
  unfolding many_from seq give
  later_many zero found s = not_later s
  later_many (suc turns) found s =
      later_chosen t (seq r (λ a. many_from t r turns (found ++ a ∷ []))) (give found) s
      (later_bind s (r s) (λ a. many_from t r turns (found ++ a ∷ [])) (h.reads.later s)
      (λ a u. later_many turns (found ++ a ∷ []) u)) (not_later s)

  enough_turns : (s : Left) → length (seen s) ≤ length s.words
  enough_turns s = rw (length-map s.words (λ (w : Placed). w.token)) (le_refl (length s.words))

  pub reads_many : (found : List A) → Reading (λ i. more (p i) found) e b (many_at t r found)
  unfolding many_at
  reads_many found = record {
    at = λ s. parses_many (length s.words) found s (enough_turns s);
    later = λ s. later_many (length s.words) found s;
  }

pub reads_more : {K A : Type 0} {p : Variant K → Phrase A} {t first : Token → Bool}
    {kind : Token → Option K} {c e : Token → Bool} {b : ℕ} {r : Reader K A}
    → Repeats p t first kind c e b r → (found : List A)
    → Reading (λ i. more (p i) found) e b (many_at t r found)
reads_more h found = reads_many _ _ _ _ _ _ _ _ h found

pub more_follows : {K A B : Type 0} {p : Variant K → Phrase A} {t first : Token → Bool}
    {kind : Token → Option K} {c e : Token → Bool} {b : ℕ} {r : Reader K A}
    → Repeats p t first kind c e b r → (k : List A → B)
    → Follows (λ i. many (p i) >>= λ rest. empty (k rest)) c e
more_follows h k = follows_many _ _ _ _ _ _ _ _ h k
