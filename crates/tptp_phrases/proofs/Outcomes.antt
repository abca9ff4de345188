-- What a reader's outcome says of a phrase. The phrase is given in each variant of its grammar, and
-- the reader runs where b levels are left.
use Rattle.std.proofs.Common.{◌≡◌, ℕ, ◌+◌, ◌≤◌, ◌⊎◌, List, [], ◌∷◌, ◌++◌, Bool, true}
use Rattle.std.proofs.Common.{false, length, Option, Some, Ok, Err, refl}
use Rattle.std.specs.Prelude.{◌≢◌}
use Rattle.tptp_words.specs.Text.{Token, Placed}
use Rattle.tptp_phrases.specs.Phrase.{Phrase, Variant}
use Rattle.tptp_words.specs.Scanning.{Left}
use Rattle.tptp_phrases.specs.Readers.{seen, Cause, Syntax, TooDeep, Stray, Outcome, Reader}
use Rattle.tptp_phrases.specs.Readers.{goes_on}

-- the words do not begin with one that c passes
pub record Stops (c : Token → Bool) (ws : List Token) : Type 0 where
  pub stops : goes_on c ws ≡ false

abbrev pub never : Token → Bool
never w = false

pub stops_never : (ws : List Token) → Stops never ws
stops_never [] = record { stops = refl }
stops_never (w ∷ ws) = record { stops = refl }

-- The value v was read, and rest is left. Words that c passes may go on with the phrase.
pub record Read {K A : Type 0} (p : Variant K → Phrase A) (c : Token → Bool) (b : ℕ)
    (ws : List Token) (v : A) (rest : List Token) : Type 0 where
  pub derives : (i : Variant K) → b ≤ i.depth → (p i).derives ws rest v
  pub inside : length rest ≤ length ws
  pub within : (i : Variant K) (r : List Token) → (p i).begins ws r → length rest ≤ length r
  pub whole : (i : Variant K) (r : List Token) (x : A) → (p i).derives ws r x
      → length rest ≤ length r
  pub only : (i : Variant K) (r : List Token) (x : A) → (p i).derives ws r x → Stops c r
      → (r ≡ rest) × (x ≡ v)

-- the words are refused where rest is left, in each variant of N
pub record Refused {K A : Type 0} (p : Variant K → Phrase A) (c : Token → Bool) (b : ℕ)
    (N : Variant K → Type 0) (ws rest : List Token) : Type 0 where
  pub begun : (i : Variant K) → b ≤ i.depth → (p i).begins ws rest
  pub inside : length rest ≤ length ws
  pub within : (i : Variant K) (r : List Token) → N i → (p i).begins ws r
      → length rest ≤ length r
  pub whole : (i : Variant K) (r : List Token) (x : A) → N i → (p i).derives ws r x
      → length rest ≤ length r
  pub none : (i : Variant K) (r : List Token) (x : A) → N i → (p i).derives ws r x → Stops c r → ⊥

-- the next word goes on, in each variant of V that is deep enough
pub record Deeper {K A : Type 0} (p : Variant K → Phrase A) (b : ℕ) (V : Variant K → Type 0)
    (ws rest : List Token) : Type 0 where
  pub next : Token
  pub after : List Token
  pub is : rest ≡ next ∷ after
  pub enough : ℕ
  pub begun : (i : Variant K) → V i → b + enough ≤ i.depth → (p i).begins ws after

-- ---- sets of variants

abbrev pub Any : {K : Type 0} → Variant K → Type 0
Any i = Unit {0}

abbrev pub At : {K : Type 0} → ℕ → Variant K → Type 0
At b i = i.depth ≡ b

-- those that take stray words of the kind, and those that do not
abbrev pub Takes : {K : Type 0} → K → Variant K → Type 0
Takes k i = i.stray ≡ Some k

abbrev pub Leaves : {K : Type 0} → K → Variant K → Type 0
Leaves k i = i.stray ≢ Some k

-- ---- outcomes

abbrev pub Fails : {K A : Type 0} → (Variant K → Phrase A) → (Token → Bool) → ℕ → List Token
    → Cause K → List Token → Type 0
Fails p c b ws Syntax rest = Refused p c b Any ws rest
Fails p c b ws TooDeep rest = Refused p c b (At b) ws rest × Deeper p b Any ws rest
Fails p c b ws (Stray k) rest = Refused p c b (Leaves k) ws rest × Deeper p b (Takes k) ws rest

abbrev pub Parses : {K A : Type 0} → (Variant K → Phrase A) → (Token → Bool) → ℕ → List Token
    → Outcome K A → Type 0
Parses p c b ws (Ok x) = Read p c b ws x.0 (seen x.1)
Parses p c b ws (Err e) = Fails p c b ws e.0 (seen e.1)

-- the words of the second are left of the first
pub record IsLater (s t : Left) : Type 0 where
  pub front : List Placed
  pub words : s.words ≡ front ++ t.words
  pub fault : s.fault ≡ t.fault

abbrev pub left_of : {K A : Type 0} → Outcome K A → Left
left_of (Ok x) = x.1
left_of (Err e) = e.1

-- the reader reads the phrase
pub record Reading {K A : Type 0} (p : Variant K → Phrase A) (c : Token → Bool) (b : ℕ)
    (r : Reader K A) : Type 0 where
  pub at : (s : Left) → Parses p c b (seen s) (r s)
  pub later : (s : Left) → IsLater s (left_of (r s))

-- ---- what may follow, and what may come first

-- behind a phrase that words of c go on with, q may stand, and words of e go on with q
pub record Follows {K A : Type 0} (q : Variant K → Phrase A) (c e : Token → Bool) : Type 0 where
  pub begun : (i : Variant K) (m r : List Token) → (q i).begins m r → (m ≡ r) ⊎ Stops c m
  pub whole : (i : Variant K) (m r : List Token) (x : A) → (q i).derives m r x
      → (m ≡ r) ⊎ Stops c m
  pub over : (i : Variant K) (m r : List Token) (x : A) → (q i).derives m r x → Stops e r
      → Stops c m

-- the words begin with a stray word of the kind that the variant takes
pub record StrayAt {K : Type 0} (kind : Token → Option K) (i : Variant K) (ws : List Token)
    : Type 0 where
  pub next : Token
  pub after : List Token
  pub which : K
  pub is : ws ≡ next ∷ after
  pub of : kind next ≡ Some which
  pub taken : i.stray ≡ Some which

-- the words begin with a word of t, or with a stray word, or there are none up to r
abbrev pub First : {K : Type 0} → (Token → Bool) → (Token → Option K) → Variant K → List Token
    → List Token → Type 0
First t kind i ws r = (ws ≡ r) ⊎ (goes_on t ws ≡ true) ⊎ StrayAt kind i ws

-- p is never empty, and begins with a word of t, or with a stray word
pub record Starts {K A : Type 0} (p : Variant K → Phrase A) (t : Token → Bool)
    (kind : Token → Option K) : Type 0 where
  pub begun : (i : Variant K) (ws r : List Token) → (p i).begins ws r → First t kind i ws r
  pub whole : (i : Variant K) (ws r : List Token) (x : A) → (p i).derives ws r x
      → goes_on t ws ≡ true

-- each word of t begins p, in each variant that is deep enough, and so does each stray word
pub record Opens {K A : Type 0} (p : Variant K → Phrase A) (t : Token → Bool)
    (kind : Token → Option K) (enough : ℕ) : Type 0 where
  pub none : (i : Variant K) (ws : List Token) → (p i).begins ws ws
  pub one : (i : Variant K) (w : Token) (ws : List Token) → enough ≤ i.depth → t w ≡ true
      → (p i).begins (w ∷ ws) ws
  pub astray : (i : Variant K) (w : Token) (ws : List Token) (k : K) → enough ≤ i.depth
      → kind w ≡ Some k → i.stray ≡ Some k → (p i).begins (w ∷ ws) ws

-- nothing of p stands at ws, where words of c go on with it
pub record Dead {K A : Type 0} (p : Variant K → Phrase A) (c : Token → Bool) (ws : List Token)
    : Type 0 where
  pub begun : (i : Variant K) (r : List Token) → (p i).begins ws r → ws ≡ r
  pub whole : (i : Variant K) (r : List Token) (x : A) → (p i).derives ws r x → ws ≡ r
  pub none : (i : Variant K) (r : List Token) (x : A) → (p i).derives ws r x → Stops c r → ⊥

-- ---- tests of words

-- no word passes both
abbrev pub Apart : (Token → Bool) → (Token → Bool) → Type 0
Apart t c = (w : Token) → t w ≡ true → c w ≡ false

-- each word that passes c passes e
abbrev pub Within : (Token → Bool) → (Token → Bool) → Type 0
Within c e = (w : Token) → e w ≡ false → c w ≡ false

abbrev pub Inside : (Token → Bool) → (Token → Bool) → Type 0
Inside t e = (w : Token) → t w ≡ true → e w ≡ true

-- no stray word passes
abbrev pub StraysApart : {K : Type 0} → (Token → Option K) → (Token → Bool) → Type 0
StraysApart {K} kind c = (w : Token) (k : K) → kind w ≡ Some k → c w ≡ false
