-- What holds of each value that a phrase derives, by how many words stand for it.
use Rattle.std.proofs.Common.{◌≡◌, ℕ, zero, suc, ◌+◌, ◌≤◌, inl, inr, List, [], ◌∷◌, ◌++◌, Bool}
use Rattle.std.proofs.Common.{length, map, sum, Option, Some, sym, ap, subst, arith, length-append}
use Rattle.std.specs.List.{AllByRecursion}
use Rattle.std.proofs.lemmas.List.Sums.{sum_by-cons}
use Rattle.tptp_words.specs.Text.{Token}
use Rattle.tptp_phrases.specs.Phrase.{Phrase, Variant, empty, nothing, word, ◌>>=◌, ◌or◌, Row, many}
use Rattle.tptp_phrases.specs.Phrase.{balanced, stray, Rule, levels, deeper, nested}

-- The words from ws up to rest are so many, this holds of a value for which so many words stand,
-- and the words that are left are of P.
pub record Taken {A : Type 0} (P : Token → Type 0) (Holds : ℕ → A → Type 0) (ws rest : List Token)
    (a : A) : Type 0 where
  pub count : ℕ
  pub is : length ws ≡ count + length rest
  pub left : AllByRecursion P rest
  pub holds : Holds count a

-- This holds of each value that the phrase derives from words of P, by how many words stand for it.
pub record Always {A : Type 0} (P : Token → Type 0) (p : Phrase A) (Holds : ℕ → A → Type 0) : Type 0
  where
    pub of : (ws rest : List Token) (a : A) → AllByRecursion P ws → p.derives ws rest a
        → Taken P Holds ws rest a

-- a property of values that are no larger than the number
pub record Sized {A : Type 0} (Holds : A → Type 0) (size : A → ℕ) (n : ℕ) (a : A) : Type 0 where
  pub holds : Holds a
  pub within : size a ≤ n

all_behind : (P : Token → Type 0) (front rest : List Token) → AllByRecursion P (front ++ rest)
    → AllByRecursion P rest
all_behind P [] rest all = all
all_behind P (w ∷ front) rest all = all_behind P front rest all.1

-- ---- one law for each way to put phrases together

module _ {P : Token → Type 0} where
  none_taken : {A : Type 0} {Holds : ℕ → A → Type 0} {ws rest : List Token} {v a : A}
      → AllByRecursion P ws → Holds 0 v → ws ≡ rest → a ≡ v → Taken P Holds ws rest a
  none_taken {Holds = Holds} {ws = ws} all h is same = record {
    count = 0;
    is = let e = ap length is in omega (arith, e);
    left = subst (AllByRecursion P) is all;
    holds = subst (Holds 0) (sym same) h;
  }

  pub always_empty : {A : Type 0} {Holds : ℕ → A → Type 0} (v : A) → Holds 0 v
      → Always P (empty v) Holds
  unfolding empty
  always_empty {Holds = Holds} v h =
      record { of = λ ws rest a all d. none_taken {Holds = Holds} all h d.0 d.1 }

  pub always_nothing : {A : Type 0} {Holds : ℕ → A → Type 0} → Always P nothing Holds
  unfolding nothing
  always_nothing = record { of = λ ws rest a all d. absurd d }

  pub always_word : {A : Type 0} {Holds : ℕ → A → Type 0} {f : Token → Option A}
      → ((w : Token) (a : A) → P w → f w ≡ Some a → Holds 1 a) → Always P (word f) Holds
  unfolding word
  always_word h = record {
    of = λ ws rest a all d.
        let both = subst (AllByRecursion P) d.1 all in
        let size = ap length d.1 in
        record {
          count = 1;
          is = omega (arith, size);
          left = both.1;
          holds = h d.0 a both.0 d.2;
        };
  }

  pub always_then : {A B : Type 0} {First : ℕ → A → Type 0} {Holds : ℕ → B → Type 0}
      {p : Phrase A} {f : A → Phrase B} → Always P p First
      → ((n : ℕ) (a : A) → First n a → Always P (f a) (λ m b. Holds (n + m) b))
      → Always P (p >>= f) Holds
  unfolding ◌>>=◌
  always_then h k = record {
    of = λ ws rest b all d.
        let first = h.of ws d.0 d.1 all d.2 in
        let second = (k first.count d.1 first.holds).of d.0 rest b first.left d.3 in
        let one = first.is in
        let two = second.is in
        record {
          count = first.count + second.count;
          is = omega (arith, one, two);
          left = second.left;
          holds = second.holds;
        };
  }

  pub always_or : {A : Type 0} {Holds : ℕ → A → Type 0} {p q : Phrase A} → Always P p Holds
      → Always P q Holds → Always P (p or q) Holds
  unfolding ◌or◌
  always_or h k = record {
    of = λ ws rest a all d. elim d [ inl x ↦ h.of ws rest a all x | inr x ↦ k.of ws rest a all x ];
  }

  -- the items of a row, one after another
  taken_row : {A : Type 0} (Holds : A → Type 0) (size : A → ℕ) (p : Phrase A)
      → Always P p (Sized Holds size) → (ws rest : List Token) (xs : List A)
      → AllByRecursion P ws → Row p ws rest xs
      → Taken P (Sized (AllByRecursion Holds) (λ xs. sum (map size xs))) ws rest xs
  taken_row Holds size p h ws rest [] all d = record {
    count = 0;
    is = let e = ap length d in omega (arith, e);
    left = subst (AllByRecursion P) d all;
    holds = record { holds = tt; within = omega arith };
  }
  taken_row Holds size p h ws rest (a ∷ xs) all d =
      let first = h.of ws d.0 a all d.1 in
      let others = taken_row Holds size p h d.0 rest xs first.left d.2 in
      let one = first.is in
      let two = others.is in
      let small = first.holds.within in
      let smaller = others.holds.within in
      let whole : sum (map size (a ∷ xs)) ≡ size a + sum (map size xs)
      = sum_by-cons (λ (n : ℕ). n) (size a) (map size xs) in
      record {
        count = first.count + others.count;
        is = omega (arith, one, two);
        left = others.left;
        holds = record {
          holds = (first.holds.holds, others.holds.holds);
          within = omega (arith, small, smaller, whole);
        };
      }

  pub always_many : {A : Type 0} {Holds : A → Type 0} {size : A → ℕ} {p : Phrase A}
      → Always P p (Sized Holds size)
      → Always P (many p) (Sized (AllByRecursion Holds) (λ xs. sum (map size xs)))
  unfolding many
  always_many {Holds = Holds} {size = size} {p = p} h =
      record { of = λ ws rest xs all d. taken_row Holds size p h ws rest xs all d }

  pub always_balanced : {Holds : ℕ → Unit {0} → Type 0} (opens closes : Token → Bool)
      → ((n : ℕ) → Holds n tt) → Always P (balanced opens closes) Holds
  unfolding balanced
  always_balanced opens closes h = record {
    of = λ ws rest a all d.
        let size = ap length d.2 in
        let parts = length-append d.1 rest in
        let these = subst (AllByRecursion P) d.2 all in
        record {
          count = suc (length d.1);
          is = omega (arith, size, parts);
          left = all_behind P d.1 rest these.1;
          holds = h (suc (length d.1));
        };
  }

  pub always_stray : {K A : Type 0} {Holds : ℕ → A → Type 0} (kind : Token → Option K)
      (v : Variant K) → Always P (stray kind v) Holds
  unfolding stray
  always_stray kind v = record { of = λ ws rest a all d. absurd d }

  -- what follows from what holds
  pub always_so : {A : Type 0} {First Holds : ℕ → A → Type 0} {p : Phrase A} → Always P p First
      → ((n : ℕ) (a : A) → First n a → Holds n a) → Always P p Holds
  always_so h so = record {
    of = λ ws rest a all d.
        let first = h.of ws rest a all d in
        record {
          count = first.count;
          is = first.is;
          left = first.left;
          holds = so first.count a first.holds;
        };
  }

-- ---- phrases that nest

-- what holds of each value of a rule where it holds of each value at deeper levels
abbrev pub AlwaysRule : {K A : Type 0} → (Token → Type 0) → Rule K A → (ℕ → A → Type 0) → Type 1
AlwaysRule {K} {A} P rule Holds =
    (v : Variant K) (inside : ℕ → Phrase A) → ((k : ℕ) → Always P (inside k) Holds)
    → Always P (rule v inside) Holds

module _ {K A : Type 0} {P : Token → Type 0} (rule : Rule K A) (Holds : ℕ → A → Type 0)
    (h : AlwaysRule P rule Holds) where
  always_levels : (kind : Option K) (n k : ℕ) → Always P (levels rule kind n k) Holds
  unfolding levels
  always_levels kind zero k = always_nothing
  always_levels kind (suc n) zero = always_nothing
  always_levels kind (suc n) (suc zero) =
      h (record { depth = n; stray = kind }) (levels rule kind n) (λ k. always_levels kind n k)
  always_levels kind (suc n) (suc (suc k)) = always_levels kind n (suc k)

  pub always_deeper : (v : Variant K) (k : ℕ) → Always P (deeper rule v k) Holds
  always_deeper v k = always_levels v.stray v.depth k

  pub always_nested : (v : Variant K) → Always P (nested rule v) Holds
  always_nested v = h v (deeper rule v) (always_deeper v)
