-- The same phrase in another form.
use Rattle.std.proofs.Common.{◌≡◌, ℕ, inl, inr, List, ◌∷◌, Bool, Ok}
use Rattle.std.proofs.Common.{Option}
use Rattle.std.proofs.Common.{Err, refl, sym, ap, subst, ◌∙◌}
use Rattle.tptp_words.specs.Text.{Token}
use Rattle.tptp_phrases.specs.Phrase.{Phrase, Variant, empty, ◌>>=◌, ◌or◌}
use Rattle.tptp_phrases.specs.Readers.{seen, Outcome, Reader}
use Rattle.tptp_phrases.proofs.Outcomes.{Refused, Deeper, Parses, Reading, Starts, Opens}
use Rattle.tptp_phrases.proofs.Sequences.{fails_map}

pub record Same {A : Type 0} (p q : Phrase A) : Type 0 where
  pub derives : (ws r : List Token) (x : A) → p.derives ws r x → q.derives ws r x
  pub derives_back : (ws r : List Token) (x : A) → q.derives ws r x → p.derives ws r x
  pub begins : (ws r : List Token) → p.begins ws r → q.begins ws r
  pub begins_back : (ws r : List Token) → q.begins ws r → p.begins ws r

module _ {K A : Type 0} (p q : Variant K → Phrase A) (same : (i : Variant K) → Same (p i) (q i))
  where
    module _ (c : Token → Bool) (b : ℕ) (ws rest : List Token) where
      refused_same : (N : Variant K → Type 0) → Refused p c b N ws rest → Refused q c b N ws rest
      refused_same N h = record {
        begun = λ i l. (same i).begins ws rest (h.begun i l);
        inside = h.inside;
        within = λ i r n j. h.within i r n ((same i).begins_back ws r j);
        whole = λ i r x n d. h.whole i r x n ((same i).derives_back ws r x d);
        none = λ i r x n d s. h.none i r x n ((same i).derives_back ws r x d) s;
      }

      deeper_same : (V : Variant K → Type 0) → Deeper p b V ws rest → Deeper q b V ws rest
      deeper_same V h = record {
        next = h.next;
        after = h.after;
        is = h.is;
        enough = h.enough;
        begun = λ i v l. (same i).begins ws h.after (h.begun i v l);
      }

    pub parses_same : (c : Token → Bool) (b : ℕ) (ws : List Token) (o : Outcome K A)
        → Parses p c b ws o → Parses q c b ws o
    parses_same c b ws (Ok v) h = record {
      derives = λ i l. (same i).derives ws (seen v.1) v.0 (h.derives i l);
      inside = h.inside;
      within = λ i r j. h.within i r ((same i).begins_back ws r j);
      whole = λ i r x d. h.whole i r x ((same i).derives_back ws r x d);
      only = λ i r x d s. h.only i r x ((same i).derives_back ws r x d) s;
    }
    parses_same c b ws (Err e) h =
        fails_map p q c c b ws ws (seen e.1) (λ N r. refused_same c b ws (seen e.1) N r)
        (λ V d. deeper_same c b ws (seen e.1) V d) e.0 h

    pub starts_same : (t : Token → Bool) (kind : Token → Option K) → Starts p t kind
        → Starts q t kind
    starts_same t kind h = record {
      begun = λ i ws r j. h.begun i ws r ((same i).begins_back ws r j);
      whole = λ i ws r x d. h.whole i ws r x ((same i).derives_back ws r x d);
    }

    pub opens_same : (t : Token → Bool) (kind : Token → Option K) (m : ℕ) → Opens p t kind m
        → Opens q t kind m
    opens_same t kind m h = record {
      none = λ i ws. (same i).begins ws ws (h.none i ws);
      one = λ i w ws l e. (same i).begins (w ∷ ws) ws (h.one i w ws l e);
      astray = λ i w ws k l e v. (same i).begins (w ∷ ws) ws (h.astray i w ws k l e v);
    }

pub reads_same : {K A : Type 0} {p q : Variant K → Phrase A} {c : Token → Bool} {b : ℕ}
    {r : Reader K A} → ((i : Variant K) → Same (p i) (q i)) → Reading p c b r → Reading q c b r
reads_same {p = p} {q = q} {c = c} {b = b} {r = r} s h = record {
  at = λ x. parses_same p q s c b (seen x) (r x) (h.at x);
  later = h.later;
}

-- ---- forms of any phrase

pub same_path : {A : Type 0} (p q : Phrase A) → p ≡ q → Same p q
same_path p q e = subst (λ z. Same p z) e (record {
  derives = λ ws r x d. d;
  derives_back = λ ws r x d. d;
  begins = λ ws r i. i;
  begins_back = λ ws r i. i;
})

pub same_back : {A : Type 0} {p q : Phrase A} → Same p q → Same q p
same_back h = record {
  derives = h.derives_back;
  derives_back = h.derives;
  begins = h.begins_back;
  begins_back = h.begins;
}

pub same_trans : {A : Type 0} {p q r : Phrase A} → Same p q → Same q r → Same p r
same_trans h k = record {
  derives = λ ws r x d. k.derives ws r x (h.derives ws r x d);
  derives_back = λ ws r x d. h.derives_back ws r x (k.derives_back ws r x d);
  begins = λ ws r i. k.begins ws r (h.begins ws r i);
  begins_back = λ ws r i. h.begins_back ws r (k.begins_back ws r i);
}

-- ---- choices

pub same_or : {A : Type 0} {p q r s : Phrase A} → Same p r → Same q s → Same (p or q) (r or s)
unfolding ◌or◌
same_or h k = record {
  derives = λ ws r x d. elim d [
    | inl i ↦ inl (h.derives ws r x i)
    | inr i ↦ inr (k.derives ws r x i)
  ];
  derives_back = λ ws r x d. elim d [
    | inl i ↦ inl (h.derives_back ws r x i)
    | inr i ↦ inr (k.derives_back ws r x i)
  ];
  begins = λ ws r d. elim d [ inl i ↦ inl (h.begins ws r i) | inr i ↦ inr (k.begins ws r i) ];
  begins_back = λ ws r d. elim d [
    | inl i ↦ inl (h.begins_back ws r i)
    | inr i ↦ inr (k.begins_back ws r i)
  ];
}

pub same_self : {A : Type 0} (p : Phrase A) → Same p p
same_self p = same_path p p refl

-- an alternative in front of two others
pub or_assoc : {A : Type 0} (p q r : Phrase A) → Same (p or (q or r)) ((p or q) or r)
unfolding ◌or◌
or_assoc p q r = record {
  derives = λ ws z x d. elim d [
    | inl i ↦ inl (inl i)
    | inr i ↦ elim i [ inl j ↦ inl (inr j) | inr j ↦ inr j ]
  ];
  derives_back = λ ws z x d. elim d [
    | inl i ↦ elim i [ inl j ↦ inl j | inr j ↦ inr (inl j) ]
    | inr i ↦ inr (inr i)
  ];
  begins = λ ws z d. elim d [
    | inl i ↦ inl (inl i)
    | inr i ↦ elim i [ inl j ↦ inl (inr j) | inr j ↦ inr j ]
  ];
  begins_back = λ ws z d. elim d [
    | inl i ↦ elim i [ inl j ↦ inl j | inr j ↦ inr (inl j) ]
    | inr i ↦ inr (inr i)
  ];
}

-- the first two of three alternatives, the other way round
pub or_swap : {A : Type 0} (p q r : Phrase A) → Same (p or (q or r)) (q or (p or r))
unfolding ◌or◌
or_swap p q r = record {
  derives = λ ws z x d. elim d [
    | inl i ↦ inr (inl i)
    | inr i ↦ elim i [ inl j ↦ inl j | inr j ↦ inr (inr j) ]
  ];
  derives_back = λ ws z x d. elim d [
    | inl i ↦ inr (inl i)
    | inr i ↦ elim i [ inl j ↦ inl j | inr j ↦ inr (inr j) ]
  ];
  begins = λ ws z d. elim d [
    | inl i ↦ inr (inl i)
    | inr i ↦ elim i [ inl j ↦ inl j | inr j ↦ inr (inr j) ]
  ];
  begins_back = λ ws z d. elim d [
    | inl i ↦ inr (inl i)
    | inr i ↦ elim i [ inl j ↦ inl j | inr j ↦ inr (inr j) ]
  ];
}

-- ---- sequences

pub same_then : {A B : Type 0} (p : Phrase A) {f g : A → Phrase B} → ((a : A) → Same (f a) (g a))
    → Same (p >>= f) (p >>= g)
unfolding ◌>>=◌
same_then p h = record {
  derives = λ ws r x (m, a, d, i). (m, a, d, (h a).derives m r x i);
  derives_back = λ ws r x (m, a, d, i). (m, a, d, (h a).derives_back m r x i);
  begins = λ ws r j. elim j [ inl i ↦ inl i | inr i ↦ inr (i.0, i.1, i.2, (h i.1).begins i.0 r i.3) ];
  begins_back = λ ws r j. elim j [
    | inl i ↦ inl i
    | inr i ↦ inr (i.0, i.1, i.2, (h i.1).begins_back i.0 r i.3)
  ];
}

pub same_first : {A B : Type 0} {p q : Phrase A} (f : A → Phrase B) → Same p q
    → Same (p >>= f) (q >>= f)
unfolding ◌>>=◌
same_first f h = record {
  derives = λ ws r x (m, a, d, i). (m, a, h.derives ws m a d, i);
  derives_back = λ ws r x (m, a, d, i). (m, a, h.derives_back ws m a d, i);
  begins = λ ws r j. elim j [
    | inl i ↦ inl (h.begins ws r i)
    | inr i ↦ inr (i.0, i.1, h.derives ws i.0 i.1 i.2, i.3)
  ];
  begins_back = λ ws r j. elim j [
    | inl i ↦ inl (h.begins_back ws r i)
    | inr i ↦ inr (i.0, i.1, h.derives_back ws i.0 i.1 i.2, i.3)
  ];
}

-- a front that two alternatives share
pub factor : {A B : Type 0} (p : Phrase A) (f g : A → Phrase B)
    → Same (p >>= λ a. f a or g a) ((p >>= f) or (p >>= g))
unfolding ◌>>=◌ ◌or◌
factor {A} {B} p f g =
    record { derives = to; derives_back = from; begins = begins; begins_back = begins_back }
  where
    to : (ws r : List Token) (x : B) → (p >>= λ a. f a or g a).derives ws r x
        → ((p >>= f) or (p >>= g)).derives ws r x
    to ws r x (m, a, d, inl i) = inl (m, a, d, i)
    to ws r x (m, a, d, inr i) = inr (m, a, d, i)

    from : (ws r : List Token) (x : B) → ((p >>= f) or (p >>= g)).derives ws r x
        → (p >>= λ a. f a or g a).derives ws r x
    from ws r x (inl (m, a, d, i)) = (m, a, d, inl i)
    from ws r x (inr (m, a, d, i)) = (m, a, d, inr i)

    begins : (ws r : List Token) → (p >>= λ a. f a or g a).begins ws r
        → ((p >>= f) or (p >>= g)).begins ws r
    begins ws r (inl i) = inl (inl i)
    begins ws r (inr (m, a, d, inl i)) = inl (inr (m, a, d, i))
    begins ws r (inr (m, a, d, inr i)) = inr (inr (m, a, d, i))

    begins_back : (ws r : List Token) → ((p >>= f) or (p >>= g)).begins ws r
        → (p >>= λ a. f a or g a).begins ws r
    begins_back ws r (inl (inl i)) = inl i
    begins_back ws r (inl (inr (m, a, d, i))) = inr (m, a, d, inl i)
    begins_back ws r (inr (inl i)) = inl i
    begins_back ws r (inr (inr (m, a, d, i))) = inr (m, a, d, inr i)

-- one alternative more that shares the front
pub factor_next : {A B : Type 0} (p : Phrase A) (f g : A → Phrase B) {q : Phrase B}
    → Same (p >>= g) q → Same (p >>= λ a. f a or g a) ((p >>= f) or q)
factor_next p f g h = same_trans (factor p f g) (same_or (same_self (p >>= f)) h)

-- two steps that only rearrange are one
pub same_map : {A B C : Type 0} (p : Phrase A) (f : A → B) (k : B → C)
    → Same ((p >>= λ x. empty (f x)) >>= λ y. empty (k y)) (p >>= λ x. empty (k (f x)))
unfolding empty ◌>>=◌
same_map {C = C} p f k =
    record { derives = to; derives_back = from; begins = begins; begins_back = begins_back }
  where
    to : (ws r : List Token) (z : C)
        → ((p >>= λ x. empty (f x)) >>= λ y. empty (k y)).derives ws r z
        → (p >>= λ x. empty (k (f x))).derives ws r z
    to ws r z (m, y, (n, x, d, e), i) = (n, x, d, (e.0 ∙ i.0, i.1 ∙ ap k e.1))

    from : (ws r : List Token) (z : C) → (p >>= λ x. empty (k (f x))).derives ws r z
        → ((p >>= λ x. empty (f x)) >>= λ y. empty (k y)).derives ws r z
    from ws r z (m, x, d, e) = (m, f x, (m, x, d, (refl, refl)), e)

    begins : (ws r : List Token)
        → ((p >>= λ x. empty (f x)) >>= λ y. empty (k y)).begins ws r
        → (p >>= λ x. empty (k (f x))).begins ws r
    begins ws r (inl (inl i)) = inl i
    begins ws r (inl (inr (m, x, d, e))) = inr (m, x, d, e)
    begins ws r (inr (m, y, (n, x, d, e), i)) = inr (n, x, d, e.0 ∙ i)

    begins_back : (ws r : List Token) → (p >>= λ x. empty (k (f x))).begins ws r
        → ((p >>= λ x. empty (f x)) >>= λ y. empty (k y)).begins ws r
    begins_back ws r (inl i) = inl (inl i)
    begins_back ws r (inr (m, x, d, e)) = inl (inr (m, x, d, e))

pub same_assoc : {A B C : Type 0} (p : Phrase A) (f : A → Phrase B) (g : B → Phrase C)
    → Same ((p >>= f) >>= g) (p >>= λ x. f x >>= g)
unfolding ◌>>=◌
same_assoc {C = C} p f g =
    record { derives = to; derives_back = from; begins = begins; begins_back = begins_back }
  where
    to : (ws r : List Token) (z : C) → ((p >>= f) >>= g).derives ws r z
        → (p >>= λ x. f x >>= g).derives ws r z
    to ws r z (m, y, (l, x, d, e), h) = (l, x, d, (m, y, e, h))

    from : (ws r : List Token) (z : C) → (p >>= λ x. f x >>= g).derives ws r z
        → ((p >>= f) >>= g).derives ws r z
    from ws r z (l, x, d, (m, y, e, h)) = (m, y, (l, x, d, e), h)

    begins : (ws r : List Token) → ((p >>= f) >>= g).begins ws r
        → (p >>= λ x. f x >>= g).begins ws r
    begins ws r (inl (inl i)) = inl i
    begins ws r (inl (inr (l, x, d, i))) = inr (l, x, d, inl i)
    begins ws r (inr (m, y, (l, x, d, e), i)) = inr (l, x, d, inr (m, y, e, i))

    begins_back : (ws r : List Token) → (p >>= λ x. f x >>= g).begins ws r
        → ((p >>= f) >>= g).begins ws r
    begins_back ws r (inl i) = inl (inl i)
    begins_back ws r (inr (l, x, d, inl i)) = inl (inr (l, x, d, i))
    begins_back ws r (inr (l, x, d, inr (m, y, e, i))) = inr (m, y, (l, x, d, e), i)

pub same_spread : {A B : Type 0} (p q : Phrase A) (f : A → Phrase B)
    → Same ((p or q) >>= f) ((p >>= f) or (q >>= f))
unfolding ◌>>=◌ ◌or◌
same_spread {B = B} p q f =
    record { derives = to; derives_back = from; begins = begins; begins_back = begins_back }
  where
    to : (ws r : List Token) (z : B) → ((p or q) >>= f).derives ws r z
        → ((p >>= f) or (q >>= f)).derives ws r z
    to ws r z (m, x, inl d, h) = inl (m, x, d, h)
    to ws r z (m, x, inr d, h) = inr (m, x, d, h)

    from : (ws r : List Token) (z : B) → ((p >>= f) or (q >>= f)).derives ws r z
        → ((p or q) >>= f).derives ws r z
    from ws r z (inl (m, x, d, h)) = (m, x, inl d, h)
    from ws r z (inr (m, x, d, h)) = (m, x, inr d, h)

    begins : (ws r : List Token) → ((p or q) >>= f).begins ws r
        → ((p >>= f) or (q >>= f)).begins ws r
    begins ws r (inl (inl i)) = inl (inl i)
    begins ws r (inl (inr i)) = inr (inl i)
    begins ws r (inr (m, x, inl d, i)) = inl (inr (m, x, d, i))
    begins ws r (inr (m, x, inr d, i)) = inr (inr (m, x, d, i))

    begins_back : (ws r : List Token) → ((p >>= f) or (q >>= f)).begins ws r
        → ((p or q) >>= f).begins ws r
    begins_back ws r (inl (inl i)) = inl (inl i)
    begins_back ws r (inl (inr (m, x, d, i))) = inr (m, x, inl d, i)
    begins_back ws r (inr (inl i)) = inl (inr i)
    begins_back ws r (inr (inr (m, x, d, i))) = inr (m, x, inr d, i)

-- no words in front of a phrase that no words begin
pub same_given : {A B : Type 0} (v : A) (f : A → Phrase B) → ((ws : List Token) → (f v).begins ws ws)
    → Same (empty v >>= f) (f v)
unfolding empty ◌>>=◌
same_given {A} {B} v f h =
    record { derives = to; derives_back = from; begins = begins; begins_back = begins_back }
  where
    to : (ws r : List Token) (x : B) → (empty v >>= f).derives ws r x → (f v).derives ws r x
    to ws r x (m, a, d, i) =
        subst (λ z. (f v).derives z r x) (sym d.0) (subst (λ z. (f z).derives m r x) d.1 i)

    from : (ws r : List Token) (x : B) → (f v).derives ws r x → (empty v >>= f).derives ws r x
    from ws r x i = (ws, v, (refl, refl), i)

    begins : (ws r : List Token) → (empty v >>= f).begins ws r → (f v).begins ws r
    begins ws r (inl e) = subst (λ z. (f v).begins ws z) e (h ws)
    begins ws r (inr (m, a, d, i)) =
        subst (λ z. (f v).begins z r) (sym d.0) (subst (λ z. (f z).begins m r) d.1 i)

    begins_back : (ws r : List Token) → (f v).begins ws r → (empty v >>= f).begins ws r
    begins_back ws r i = inr (ws, v, (refl, refl), i)
