-- Words derive a phrase: what holds from some depth on, and one lemma for each part of a rule.
use Rattle.std.proofs.Common.{◌≡◌, ℕ, zero, suc, ◌+◌, ◌≤◌, inl, inr, List, ◌∷◌, Option, Some, refl}
use Rattle.std.proofs.Common.{arith}
use Rattle.tptp_words.specs.Text.{Token}
use Rattle.tptp_phrases.specs.Phrase.{Phrase, empty, word, ◌>>=◌, ◌or◌, many, Row}

-- ---- from some depth on

pub record Eventually (P : ℕ → Type 0) : Type 0 where
  pub depth : ℕ
  pub holds : (n : ℕ) → depth ≤ n → P n

pub always : (P : ℕ → Type 0) → ((n : ℕ) → P n) → Eventually P
always P h = record { depth = 0; holds = λ n l. h n }

pub both : {P Q : ℕ → Type 0} → Eventually P → Eventually Q → Eventually (λ n. P n × Q n)
both {P} {Q} p q = record {
  depth = p.depth + q.depth;
  holds = λ n l. (p.holds n (omega arith), q.holds n (omega arith));
}

pub weaker : {P Q : ℕ → Type 0} → ((n : ℕ) → P n → Q n) → Eventually P → Eventually Q
weaker f p = record { depth = p.depth; holds = λ n l. f n (p.holds n l) }

-- what holds one level below
pub deeper : {P Q : ℕ → Type 0} → ((n : ℕ) → P n → Q (suc n)) → Eventually P → Eventually Q
deeper {P} {Q} f p = record { depth = suc p.depth; holds = go }
  where
    go : (n : ℕ) → suc p.depth ≤ n → Q n
    go zero l = absurd (omega arith)
    go (suc n) l = f n (p.holds n (omega arith))

-- ---- part by part

-- the words from ws up to rest derive a, in a form that shows the phrase
pub record Has {A : Type 0} (p : Phrase A) (ws rest : List Token) (a : A) : Type 0 where
  pub it : p.derives ws rest a

pub seq : {A B : Type 0} (p : Phrase A) (f : A → Phrase B) {ws rest : List Token}
    (mid : List Token) (a : A) {b : B} → Has p ws mid a → Has (f a) mid rest b
    → Has (p >>= f) ws rest b
unfolding ◌>>=◌
seq p f mid a h k = record { it = (mid, a, h.it, k.it) }

pub give : {A : Type 0} (a : A) (ws : List Token) → Has (empty a) ws ws a
unfolding empty
give a ws = record { it = (refl, refl) }

pub take : {A : Type 0} (f : Token → Option A) (w : Token) (rest : List Token) {a : A}
    → f w ≡ Some a → Has (word f) (w ∷ rest) rest a
unfolding word
take f w rest h = record { it = (w, refl, h) }

pub one : {A : Type 0} (p q : Phrase A) {ws rest : List Token} {a : A}
    → Has p ws rest a → Has (p or q) ws rest a
unfolding ◌or◌
one p q h = record { it = inl h.it }

pub other : {A : Type 0} (p q : Phrase A) {ws rest : List Token} {a : A}
    → Has q ws rest a → Has (p or q) ws rest a
unfolding ◌or◌
other p q h = record { it = inr h.it }

pub rows : {A : Type 0} (p : Phrase A) (ws rest : List Token) (items : List A)
    → Row p ws rest items → Has (many p) ws rest items
unfolding many
rows p ws rest items h = record { it = h }
