-- Phrases of a grammar over words, and how rules are put together. A phrase lies between two places
-- of a list of words: `ws` is what is left at the first place, and `rest` what is left at the
-- second. Every place between is allowed; nothing here looks ahead.
use Rattle.std.specs.Prelude.{◌≡◌, ℕ, zero, suc, Bool, true, false, ◌⊎◌, List, [], ◌∷◌, ◌++◌}
use Rattle.std.specs.Prelude.{Option, Some, None}
use Rattle.tptp_words.specs.Text.{Token}

pub record Phrase (T : Type 0) : Type 1 where
  -- the words from ws up to rest derive the value
  pub derives : List Token → List Token → T → Type 0
  -- the words from ws up to rest begin such a phrase
  pub begins : List Token → List Token → Type 0

-- no words, which stand for v
unfoldable pub empty : {T : Type 0} → T → Phrase T
empty v = record { derives = λ ws rest t. (ws ≡ rest) × (t ≡ v); begins = λ ws rest. ws ≡ rest }

-- no phrase at all
unfoldable pub nothing : {T : Type 0} → Phrase T
nothing = record { derives = λ ws rest t. ⊥; begins = λ ws rest. ws ≡ rest }

-- One word, of which f says what it stands for, where it may stand here. A word begins itself, and
-- so does no word.
unfoldable pub word : {T : Type 0} → (Token → Option T) → Phrase T
word {T} f = record {
  derives = λ ws rest t. (w : Token) × (ws ≡ w ∷ rest) × (f w ≡ Some t);
  begins = λ ws rest. (ws ≡ rest) ⊎ ((w : Token) × (t : T) × (ws ≡ w ∷ rest) × (f w ≡ Some t));
}

-- A sequence. Words begin it where they begin its first part, or where they are a whole first part
-- followed by words that begin the rest.
infixl 10 ◌>>=◌
unfoldable pub ◌>>=◌ : {A B : Type 0} → Phrase A → (A → Phrase B) → Phrase B
◌>>=◌ {A} {B} p f = record {
  derives = λ ws rest b.
      (mid : List Token) × (a : A) × p.derives ws mid a × (f a).derives mid rest b;
  begins = λ ws rest.
      p.begins ws rest
      ⊎ ((mid : List Token) × (a : A) × p.derives ws mid a × (f a).begins mid rest);
}

infixl 10 ◌>>◌
abbrev pub ◌>>◌ : {A B : Type 0} → Phrase A → Phrase B → Phrase B
p >> q = p >>= (λ _. q)

-- A choice. Words begin it where they begin one of the alternatives.
infixr 9 ◌or◌
unfoldable pub ◌or◌ : {A : Type 0} → Phrase A → Phrase A → Phrase A
p or q = record {
  derives = λ ws rest a. p.derives ws rest a ⊎ q.derives ws rest a;
  begins = λ ws rest. p.begins ws rest ⊎ q.begins ws rest;
}

-- the words from ws up to rest are one item after another, which derive the values
abbrev pub Row : {A : Type 0} → Phrase A → List Token → List Token → List A → Type 0
Row p ws rest [] = ws ≡ rest
Row p ws rest (a ∷ more) = (mid : List Token) × p.derives ws mid a × Row p mid rest more

-- A repetition. Words begin it where there are none, or where they are whole items followed by
-- words that begin one more.
unfoldable pub many : {A : Type 0} → Phrase A → Phrase (List A)
many {A} p = record {
  derives = Row p;
  begins = λ ws rest.
      (ws ≡ rest)
      ⊎ ((mid : List Token) × (front : List A) × Row p ws mid front × p.begins mid rest);
}

-- ---- any words with brackets that match

-- how many brackets are open behind a word, by whether it opens or closes one; none where it closes
-- a bracket and none is open
abbrev pub open_behind : Bool → Bool → ℕ → Option ℕ
open_behind true closes open_before = Some (suc open_before)
open_behind false true zero = None
open_behind false true (suc open_before) = Some open_before
open_behind false false open_before = Some open_before

-- how many brackets are open behind the words; none where a word closed what was not open
abbrev pub open_after : (Token → Bool) → (Token → Bool) → Option ℕ → List Token → Option ℕ
open_after opens closes None ws = None
open_after opens closes (Some n) [] = Some n
open_after opens closes (Some n) (w ∷ ws) =
    open_after opens closes (open_behind (opens w) (closes w) n) ws

-- One or more words in which each closing bracket closes an earlier opening one and each opening
-- one is closed. Words begin it where each closing bracket closes an earlier opening one.
unfoldable pub balanced : (Token → Bool) → (Token → Bool) → Phrase (Unit {0})
balanced opens closes = record {
  derives = λ ws rest t.
      (w : Token) × (front : List Token) × (ws ≡ w ∷ (front ++ rest))
      × (open_after opens closes (Some 0) (w ∷ front) ≡ Some 0);
  begins = λ ws rest.
      (front : List Token) × (n : ℕ) × (ws ≡ front ++ rest)
      × (open_after opens closes (Some 0) front ≡ Some n);
}

-- ---- variants and levels

-- A variant of a grammar: how many levels deeper words may nest, and which kind of stray words is
-- taken. A stray word is one that may not stand where it does, and is refused by a reason of its
-- own; a variant that takes its kind tells that reason.
pub record Variant (K : Type 0) : Type 0 where
  pub depth : ℕ
  pub stray : Option K

-- Where the kind of stray words is taken, such a word begins the phrase. Nothing derives it.
unfoldable pub stray : {K A : Type 0} → (Token → Option K) → Variant K → Phrase A
stray {K} kind v = record {
  derives = λ ws rest a. ⊥;
  begins = λ ws rest.
      (ws ≡ rest)
      ⊎ ((w : Token) × (k : K) × (ws ≡ w ∷ rest) × (kind w ≡ Some k) × (v.stray ≡ Some k));
}

-- the rule of a phrase that nests, by the variant and the phrases so many levels deeper
abbrev pub Rule : Type 0 → Type 0 → Type 1
Rule K A = Variant K → (ℕ → Phrase A) → Phrase A

-- the phrase k levels below a place that has n levels below it, where there are so many
unfoldable pub levels : {K A : Type 0} → Rule K A → Option K → ℕ → ℕ → Phrase A
levels rule kind zero k = nothing
levels rule kind (suc n) zero = nothing
levels rule kind (suc n) (suc zero) =
    rule (record { depth = n; stray = kind }) (levels rule kind n)
levels rule kind (suc n) (suc (suc k)) = levels rule kind n (suc k)

-- the phrase k levels deeper
abbrev pub deeper : {K A : Type 0} → Rule K A → Variant K → ℕ → Phrase A
deeper rule v k = levels rule v.stray v.depth k

-- the phrase of the rule
abbrev pub nested : {K A : Type 0} → Rule K A → Variant K → Phrase A
nested rule v = rule v (deeper rule v)
