-- The readers of the parts that several rules share read them.
use Rattle.std.proofs.Common.{ℕ, List, [], ◌∷◌, Bool, ◌||◌, length}
use Rattle.std.proofs.Common.{Option, arith}
use Rattle.std.specs.Prelude.{codes}
use Rattle.tptp_words.specs.Text.{Token}
use Rattle.tptp_words.specs.Words.{name, mark, dollar}
use Rattle.tptp_phrases.specs.Phrase.{Phrase, empty, word, ◌>>=◌, ◌>>◌, ◌or◌, many}
use Rattle.tptp_phrases.specs.Readers.{no_strays, takes, behind}
use Rattle.tptp_phrases.proofs.Outcomes.{Reading, Starts, Opens, Apart, Within, Inside, never}
use Rattle.tptp_phrases.proofs.Sequences.{reads_then, reads_give}
use Rattle.tptp_phrases.proofs.Forms.{Same, reads_same, starts_same, opens_same, factor, same_map}
use Rattle.tptp_phrases.proofs.Forms.{same_trans, same_assoc, same_then}
use Rattle.tptp_phrases.proofs.Firsts.{opens_word, opens_bind, starts_bind, follows_never, follows_empty}
use Rattle.tptp_phrases.proofs.Choices.{reads_word_then, reads_to_word, starts_word_then, reads_optional}
use Rattle.tptp_phrases.proofs.Repetition.{Repeats, reads_more, more_follows, more}
use Rattle.tptp_syntax.specs.declared.types.Bound.{Bound}
use Rattle.tptp_syntax.specs.Strays.{Stray}
use Rattle.tptp_syntax.specs.Grammar.{Kind, sign, listed, arguments, application, quantified}
use Rattle.tptp_syntax.specs.Descent.{Reads, sees, listed_at, arguments_at, application_at}
use Rattle.tptp_syntax.specs.Descent.{chain_at, pair_at, quantified_at, dollar_at, bracketed_at}
use Rattle.tptp_syntax.proofs.KnownWords.{within_second}
use Rattle.tptp_syntax.proofs.KnownWords.{within_self, inside_first}

-- words that may go on with a list of phrases that words of c go on with
abbrev pub or_comma : (Token → Bool) → Token → Bool
or_comma c w = sees (codes ",") w || c w

abbrev pub left : Token → Bool
left = sees (codes "(")

-- ---- items behind marks

-- a mark and an item, again and again
pub repeats_behind : {A : Type 0} (m : List ℕ) (p : Kind → Phrase A) (c e : Token → Bool) (b : ℕ)
    (r : Reads A) → Apart (sees m) c → Within c e → Inside (sees m) e → Reading p c b r
    → Repeats (λ i. sign m >> p i) (sees m) (sees m) no_strays c e b (behind (mark m) r)
repeats_behind m p c e b r a w i h = record {
  starts = starts_word_then (mark m) (λ i _. p i) no_strays;
  opens = λ i v ws t.
      (opens_bind (λ _. word (mark m)) (λ i _. p i) (sees m) no_strays 0 (opens_word (mark m))).one
      i v ws (omega arith) t;
  covers = within_self (sees m);
  covers_strays = λ v k t. cc t;
  apart = a;
  apart_strays = λ v k t. cc t;
  under = w;
  inside = i;
  reads = reads_word_then (mark m) (λ _. h);
}

module _ {A : Type 0} (p : Kind → Phrase A) (c : Token → Bool) (b : ℕ) (r : Reads A)
    (a : Apart (sees (codes ",")) c) (h : Reading p c b r) where
  pub after_commas : Repeats (λ i. sign (codes ",") >> p i) (sees (codes ",")) (sees (codes ","))
      no_strays c (or_comma c) b (behind (mark (codes ",")) r)
  after_commas =
      repeats_behind (codes ",") p c (or_comma c) b r a (within_second (sees (codes ",")) c)
      (inside_first (sees (codes ",")) c) h

  pub reads_listed : Reading (λ i. listed (p i)) (or_comma c) b (listed_at r)
  reads_listed =
      reads_then h (λ x. more_follows after_commas (λ rest. x ∷ rest))
      (λ x. reads_more after_commas (x ∷ []))

  pub reads_arguments : (e : Token → Bool) → Apart (sees (codes ")")) (or_comma c)
      → Reading (λ i. arguments (p i)) e b (arguments_at r)
  reads_arguments e k =
      reads_word_then (mark (codes "(")) (λ _.
      reads_to_word (mark (codes ")")) (λ _ xs _. empty xs) k reads_listed (λ xs.
      reads_word_then (mark (codes ")")) (λ _. reads_give xs e b)))

-- ---- a name, or a name and arguments

module _ {A T : Type 0} (make : List ℕ → List A → T) (p : Kind → Phrase A) where
  applied : List ℕ → Kind → Phrase T
  applied n i = arguments (p i) >>= λ xs. empty (make n xs)

  starts_applied : (n : List ℕ) → Starts (λ i. applied n i) left no_strays
  unfolding applied
  starts_applied n =
      starts_bind (λ i. arguments (p i)) (λ i xs. empty (make n xs)) left no_strays
      (starts_word_then (mark (codes "(")) _ no_strays)

  same_application : (i : Kind)
      → Same (word name >>= λ n. empty (make n []) or (arguments (p i) >>= λ xs. empty (make n xs)))
      (application make (p i))
  same_application i =
      factor (word name) (λ n. empty (make n [])) (λ n. arguments (p i) >>= λ xs. empty (make n xs))

  pub starts_application : (kind : Token → Option Stray)
      → Starts (λ i. application make (p i)) (takes name) kind
  starts_application kind =
      starts_same _ _ same_application (takes name) kind (starts_word_then name _ kind)

  pub opens_application : Opens (λ i. application make (p i)) (takes name) no_strays 0
  opens_application =
      opens_same _ _ same_application (takes name) no_strays 0
      (opens_bind (λ _. word name) _ (takes name) no_strays 0 (opens_word name))

  pub reads_application : (c e : Token → Bool) (b : ℕ) (r : Reads A) → Apart (sees (codes ",")) c
      → Apart (sees (codes ")")) (or_comma c) → Inside left e → Reading p c b r
      → Reading (λ i. application make (p i)) e b (application_at make r)
  unfolding applied
  reads_application c e b r k l m h =
      reads_same same_application (reads_word_then name (λ n.
      reads_optional (make n []) (starts_applied n) m
      (reads_then (reads_arguments p c b r k h never l) (λ xs. follows_never _ e)
      (λ xs. reads_give (make n xs) e b))))

-- ---- what stands behind a first part

module _ {A T : Type 0} (m : List ℕ) (make : List A → T) (p : Kind → Phrase A) (a : A) where
  abbrev pub chained : Kind → Phrase T
  chained i =
      sign m >> (p i >>= λ x. many (sign m >> p i) >>= λ rest. empty (make (a ∷ x ∷ rest)))

  pub starts_chained : Starts chained (sees m) no_strays
  starts_chained = starts_word_then (mark m) _ no_strays

  same_chained : (i : Kind)
      → Same ((sign m >> (p i >>= λ x. more (sign m >> p i) (a ∷ x ∷ []))) >>= λ all. empty (make all))
      (chained i)
  same_chained i =
      same_trans (same_assoc (sign m) _ (λ all. empty (make all)))
      (same_then (sign m) (λ _. same_trans (same_assoc (p i) _ (λ all. empty (make all)))
      (same_then (p i) (λ x. same_map (many (sign m >> p i)) (λ rest. a ∷ x ∷ rest) make))))

  pub reads_chained : (c e : Token → Bool) (b : ℕ) (r : Reads A) → Apart (sees m) c → Within c e
      → Inside (sees m) e → Reading p c b r → Reading chained e b (chain_at m make r a)
  reads_chained c e b r k w i h =
      let again = repeats_behind m p c e b r k w i h in
      reads_same same_chained
      (reads_then (reads_word_then (mark m) (λ _.
      reads_then h (λ x. more_follows again (λ rest. a ∷ x ∷ rest))
      (λ x. reads_more again (a ∷ x ∷ []))))
      (λ all. follows_empty (make all) e e (within_self e)) (λ all. reads_give (make all) e b))

module _ {A B T : Type 0} (m : List ℕ) (make : A → B → T) (p : Kind → Phrase B) (a : A) where
  abbrev pub paired : Kind → Phrase T
  paired i = sign m >> (p i >>= λ x. empty (make a x))

  pub starts_paired : Starts paired (sees m) no_strays
  starts_paired = starts_word_then (mark m) _ no_strays

  pub reads_paired : (c e : Token → Bool) (b : ℕ) (r : Reads B) → Within c e → Reading p c b r
      → Reading paired e b (pair_at m make r a)
  reads_paired c e b r w h =
      reads_word_then (mark m) (λ _.
      reads_then h (λ x. follows_empty (make a x) c e w) (λ x. reads_give (make a x) e b))

-- ---- binders

module _ {A T : Type 0} (m : List ℕ) (make : List Bound → A → T) (bound : Kind → Phrase Bound)
    (inside : Kind → ℕ → Phrase A) where
  abbrev pub binder : Kind → Phrase T
  binder i = quantified m make (bound i) (inside i)

  pub starts_binder : (kind : Token → Option Stray) → Starts binder (sees m) kind
  starts_binder kind = starts_word_then (mark m) _ kind

  pub opens_binder : Opens binder (sees m) no_strays 0
  opens_binder = opens_bind (λ _. word (mark m)) _ (sees m) no_strays 0 (opens_word (mark m))

  pub reads_binder : (c g e : Token → Bool) (b : ℕ) (r : Reads Bound) (q : ℕ → Reads A)
      → Apart (sees (codes ",")) c → Apart (sees (codes "]")) (or_comma c) → Within g e
      → Reading bound c b r → ((k : ℕ) → Reading (λ i. inside i k) g b (q k))
      → Reading binder e b (quantified_at m make r q)
  reads_binder c g e b r q k l w h n =
      reads_word_then (mark m) (λ _. reads_word_then (mark (codes "[")) (λ _.
      reads_to_word (mark (codes "]")) _ l (reads_listed bound c b r k h) (λ vs.
      reads_word_then (mark (codes "]")) (λ _. reads_word_then (mark (codes ":")) (λ _.
      reads_then (n (length vs)) (λ body. follows_empty (make vs body) g e w)
      (λ body. reads_give (make vs body) e b))))))

-- ---- brackets and single words

module _ {A : Type 0} (p : Kind → Phrase A) where
  abbrev pub bracketed : Kind → Phrase A
  bracketed i = sign (codes "(") >> (p i >>= λ a. sign (codes ")") >> empty a)

  pub starts_bracketed : (kind : Token → Option Stray) → Starts bracketed left kind
  starts_bracketed kind = starts_word_then (mark (codes "(")) _ kind

  pub opens_bracketed : Opens bracketed left no_strays 0
  opens_bracketed =
      opens_bind (λ _. word (mark (codes "("))) _ left no_strays 0 (opens_word (mark (codes "(")))

  pub reads_bracketed : (c e : Token → Bool) (b : ℕ) (r : Reads A) → Apart (sees (codes ")")) c
      → Reading p c b r → Reading bracketed e b (bracketed_at r)
  reads_bracketed c e b r k h =
      reads_word_then (mark (codes "(")) (λ _.
      reads_to_word (mark (codes ")")) (λ _ a _. empty a) k h (λ a.
      reads_word_then (mark (codes ")")) (λ _. reads_give a e b)))

module _ {A : Type 0} (m : List ℕ) (v : A) where
  abbrev pub fixed : Kind → Phrase A
  fixed i = word (dollar m) >> empty v

  pub starts_fixed : (kind : Token → Option Stray) → Starts fixed (takes (dollar m)) kind
  starts_fixed kind = starts_word_then (dollar m) _ kind

  pub opens_fixed : Opens fixed (takes (dollar m)) no_strays 0
  opens_fixed =
      opens_bind (λ _. word (dollar m)) _ (takes (dollar m)) no_strays 0 (opens_word (dollar m))

  pub reads_fixed : (c : Token → Bool) (b : ℕ) → Reading fixed c b (dollar_at m v)
  reads_fixed c b = reads_word_then (dollar m) (λ _. reads_give v c b)
