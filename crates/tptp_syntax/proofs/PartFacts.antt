-- What holds of the values of phrases over spelled words: of single words, and of the parts that
-- several rules share.
use Rattle.std.proofs.Common.{◌≡◌, ℕ, ◌+◌, ◌≤◌, List, [], ◌∷◌, length, map, sum, Option}
use Rattle.std.proofs.Common.{refl, arith}
use Rattle.std.proofs.lemmas.List.Sums.{sum_by-cons}
use Rattle.std.specs.Prelude.{codes}
use Rattle.std.specs.List.{AllByRecursion}
use Rattle.enc_base.specs.Names.{IsWritable}
use Rattle.tptp_words.specs.Text.{Token}
use Rattle.tptp_words.specs.Words.{name, variable}
use Rattle.tptp_phrases.specs.Phrase.{Phrase, empty, word, ◌>>=◌, ◌>>◌}
use Rattle.tptp_phrases.proofs.Always.{Always, Sized, always_empty, always_word, always_then}
use Rattle.tptp_phrases.proofs.Always.{always_or, always_many, always_so}
use Rattle.tptp_syntax.specs.declared.types.Bound.{Bound}
use Rattle.tptp_syntax.specs.Strays.{label}
use Rattle.tptp_syntax.specs.Grammar.{sign, listed, arguments, application, chain, pair, quantified}
use Rattle.tptp_syntax.proofs.WordFacts.{Spelled, name_writable, variable_writable, label_writable}

-- what holds of a phrase, with the size of what it derives
abbrev pub Gives : {A : Type 0} → Phrase A → (A → Type 0) → (A → ℕ) → Type 0
Gives p Holds size = Always Spelled p (Sized Holds size)

-- one word, whatever it stands for
abbrev pub OneWord : {A : Type 0} → ℕ → A → Type 0
OneWord n a = n ≡ 1

-- one word, which stands for a name
pub record OneName (n : ℕ) (name : List ℕ) : Type 0 where
  pub one : n ≡ 1
  pub writable : IsWritable name

pub one_word : {A : Type 0} (f : Token → Option A) → Always Spelled (word f) OneWord
one_word f = always_word (λ w a h e. refl)

pub one_name : Always Spelled (word name) OneName
one_name = always_word (λ w a h e. record { one = refl; writable = name_writable w a h e })

pub one_variable : Always Spelled (word variable) OneName
one_variable = always_word (λ w a h e. record { one = refl; writable = variable_writable w a h e })

pub one_label : Always Spelled (word label) OneName
one_label = always_word (λ w a h e. record { one = refl; writable = label_writable w a h e })

-- ---- parts that several rules share

-- the sum of the sizes
abbrev pub sizes : {A : Type 0} → (A → ℕ) → List A → ℕ
sizes size xs = sum (map size xs)

sizes-cons : {A : Type 0} (size : A → ℕ) (x : A) (xs : List A)
    → sizes size (x ∷ xs) ≡ size x + sizes size xs
sizes-cons size x xs = sum_by-cons (λ (n : ℕ). n) (size x) (map size xs)

module _ {A : Type 0} {Holds : A → Type 0} {size : A → ℕ} where
  -- behind some words
  pub behind : {p : Phrase A} (n : ℕ) → Gives p Holds size
      → Always Spelled p (λ m. Sized Holds size (n + m))
  behind n h = always_so h (λ m a s.
      let small = s.within in record { holds = s.holds; within = omega (arith, small) })

  pub gives_listed : (p : Phrase A) → Gives p Holds size
      → Gives (listed p) (AllByRecursion Holds) (sizes size)
  gives_listed p h =
      always_then h (λ n x one.
      always_then (always_many (always_then (one_word _) (λ k t e. behind k h))) (λ m xs others.
      always_empty (x ∷ xs)
      (let small = one.within in
      let smaller = others.within in
      let whole = sizes-cons size x xs in
      record { holds = (one.holds, others.holds); within = omega (arith, small, smaller, whole) })))

  pub gives_arguments : (p : Phrase A) → Gives p Holds size
      → Gives (arguments p) (AllByRecursion Holds) (sizes size)
  gives_arguments p h =
      always_then (one_word _) (λ k t before.
      always_then (gives_listed p h) (λ n xs all.
      always_then (one_word _) (λ l u after.
      always_empty xs
      (let small = all.within in
      record { holds = all.holds; within = omega (arith, small, before, after) }))))

  -- the value alone
  pub gives_alone : (p : Phrase A) → Gives p Holds size → Gives (p >>= λ a. empty a) Holds size
  gives_alone p h =
      always_then h (λ n a one.
      always_empty a (let small = one.within in
      record { holds = one.holds; within = omega (arith, small) }))

  pub gives_brackets : (p : Phrase A) → Gives p Holds size
      → Gives (sign (codes "(") >> (p >>= λ a. sign (codes ")") >> empty a)) Holds size
  gives_brackets p h =
      always_then (one_word _) (λ k t before.
      always_then h (λ n a one.
      always_then (one_word _) (λ l u after.
      always_empty a (let small = one.within in
      record { holds = one.holds; within = omega (arith, small) }))))

  -- a word that stands for one value
  pub gives_fixed : (f : Token → Option (Unit {0})) (a : A)
      → ((n : ℕ) → 1 ≤ n → Sized Holds size n a) → Gives (word f >> empty a) Holds size
  gives_fixed f a made =
      always_then (one_word f) (λ n t one.
      always_empty a (made (n + 0) (omega (arith, one))))

  -- a variable
  pub gives_variable : (make : List ℕ → A)
      → ((n : ℕ) (x : List ℕ) → IsWritable x → 1 ≤ n → Sized Holds size n (make x))
      → Gives (word variable >>= λ x. empty (make x)) Holds size
  gives_variable make made =
      always_then one_variable (λ n x one.
      let count = one.one in
      always_empty (make x) (made (n + 0) x one.writable (omega (arith, count))))

  module _ {T : Type 0} {Whole : T → Type 0} {weight : T → ℕ} where
    pub gives_application : (make : List ℕ → List A → T) (p : Phrase A) → Gives p Holds size
        → ((n : ℕ) (f : List ℕ) (xs : List A) → IsWritable f → AllByRecursion Holds xs
        → 1 + sizes size xs ≤ n → Sized Whole weight n (make f xs))
        → Gives (application make p) Whole weight
    gives_application make p h made =
        always_or
        (always_then one_name (λ n f one.
        let count = one.one in
        always_empty (make f []) (made (n + 0) f [] one.writable tt (omega (arith, count)))))
        (always_then one_name (λ n f one.
        always_then (gives_arguments p h) (λ m xs all.
        let count = one.one in
        let small = all.within in
        always_empty (make f xs)
        (made (n + (m + 0)) f xs one.writable all.holds (omega (arith, count, small))))))

    pub gives_chain : (m : List ℕ) (make : List A → T) (p : Phrase A) → Gives p Holds size
        → ((n : ℕ) (xs : List A) → AllByRecursion Holds xs → 2 ≤ length xs
        → 1 + sizes size xs ≤ n → Sized Whole weight n (make xs))
        → Gives (chain m make p) Whole weight
    gives_chain m make p h made =
        always_then h (λ n a first.
        always_then (one_word _) (λ k t mark.
        always_then h (λ l b second.
        always_then (always_many (always_then (one_word _) (λ k t e. behind k h))) (λ j xs others.
        let one = first.within in
        let two = second.within in
        let rest = others.within in
        let whole = sizes-cons size a (b ∷ xs) in
        let inner = sizes-cons size b xs in
        always_empty (make (a ∷ b ∷ xs))
        (made (n + (k + (l + (j + 0)))) (a ∷ b ∷ xs) (first.holds, (second.holds, others.holds))
        (omega arith) (omega (arith, one, two, rest, whole, inner, mark)))))))

  module _ {B T : Type 0} {Other : B → Type 0} {Whole : T → Type 0} {other_size : B → ℕ}
      {weight : T → ℕ} where
    pub gives_pair : (m : List ℕ) (make : A → B → T) (p : Phrase A) (q : Phrase B)
        → Gives p Holds size → Gives q Other other_size
        → ((n : ℕ) (a : A) (b : B) → Holds a → Other b → 1 + (size a + other_size b) ≤ n
        → Sized Whole weight n (make a b))
        → Gives (pair m make p q) Whole weight
    gives_pair m make p q h k made =
        always_then h (λ n a first.
        always_then (one_word _) (λ l t mark.
        always_then k (λ j b second.
        let one = first.within in
        let two = second.within in
        always_empty (make a b)
        (made (n + (l + (j + 0))) a b first.holds second.holds (omega (arith, one, two, mark))))))

module _ {B T : Type 0} {Holds : Bound → Type 0} {Other : B → Type 0} {Whole : T → Type 0}
    {size : Bound → ℕ} {other_size : B → ℕ} {weight : T → ℕ} where
  pub gives_quantified : (m : List ℕ) (make : List Bound → B → T) (p : Phrase Bound)
      (body : ℕ → Phrase B) → Gives p Holds size → ((k : ℕ) → Gives (body k) Other other_size)
      → ((n : ℕ) (xs : List Bound) (b : B) → AllByRecursion Holds xs → Other b
      → 1 + (sizes size xs + other_size b) ≤ n → Sized Whole weight n (make xs b))
      → Gives (quantified m make p body) Whole weight
  gives_quantified m make p body h k made =
      always_then (one_word _) (λ n t mark.
      always_then (one_word _) (λ o u before.
      always_then (gives_listed p h) (λ i xs bound.
      always_then (one_word _) (λ c v after.
      always_then (one_word _) (λ j w colon.
      always_then (k (length xs)) (λ l b scope.
      let few = bound.within in
      let small = scope.within in
      always_empty (make xs b)
      (made (n + (o + (i + (c + (j + (l + 0)))))) xs b bound.holds scope.holds
      (omega (arith, few, small, mark)))))))))
