-- What single words do to the place from which nesting is counted, and the parts that several rules
-- share.
use Rattle.std.proofs.Common.{◌≡◌, ℕ, suc, ◌+◌, ◌≤◌, List, [], ◌∷◌, length, true}
use Rattle.std.proofs.Common.{false, Some, None, is_some, refl, sym, ap, subst, arith}
use Rattle.std.proofs.Common.{◌∙◌, if◌then◌else◌}
use Rattle.std.specs.Prelude.{codes}
use Rattle.tptp_words.specs.declared.word.WordKind.TheVariants as kind
use Rattle.tptp_words.specs.Text.{Token}
use Rattle.tptp_words.specs.Words.{name, variable, dollar}
use Rattle.tptp_phrases.specs.Phrase.{Phrase, empty, word, ◌>>=◌, ◌>>◌}
use Rattle.tptp_phrases.proofs.Walks.{Machine, Walks, Steps, walks_empty, walks_word, walks_then}
use Rattle.tptp_phrases.proofs.Walks.{walks_or, walks_on, walks_via, walks_so}
use Rattle.tptp_phrases.proofs.WalkLevels.{walks_many}
use Rattle.tptp_syntax.specs.declared.types.Bound.{Bound}
use Rattle.tptp_syntax.specs.Grammar.{sign, listed, arguments, application, chain, pair, quantified}
use Rattle.tptp_syntax.specs.Nesting.{Bracket, Round, Square, Open, Place, Inside, counted}
use Rattle.tptp_syntax.specs.Nesting.{InNotes}
use Rattle.tptp_syntax.specs.Nesting.{count, nested_at, ends_scopes, nesting_at, behind}
use Rattle.tptp_syntax.specs.Nesting.{opens_notes}
use Rattle.tptp_syntax.proofs.KnownWords.{token, by_mark, by_dollar, by_variable, by_name}

-- the machine that counts nestings
abbrev pub nestings : Machine Place
nestings = record { number = nesting_at; next = behind }

-- a place inside brackets where no list waits for its colon
pub record Spot : Type 0 where
  pub bracket : Bracket
  pub commas : ℕ
  pub scopes : ℕ
  pub others : List Open

abbrev pub open_at : Spot → Open
open_at i =
    record { bracket = i.bracket; commas = i.commas; listed = None; scopes = i.scopes }

abbrev pub at : Spot → Place
at i = Inside (open_at i) i.others

abbrev pub height : Spot → ℕ
height i = counted i.bracket + i.scopes + count i.others

-- the place with so many open scopes, or so many commas
abbrev pub scoped : Spot → ℕ → Spot
scoped i n = record { bracket = i.bracket; commas = i.commas; scopes = n; others = i.others }

abbrev pub parted : Spot → ℕ → Spot
parted i n = record { bracket = i.bracket; commas = n; scopes = i.scopes; others = i.others }

-- behind a bracket that is opened
abbrev pub inside : Bracket → Spot → Spot
inside b i = record { bracket = b; commas = 0; scopes = 0; others = open_at i ∷ i.others }

-- behind so many commas
abbrev pub item : Spot → ℕ → Spot
item i n = record { bracket = i.bracket; commas = n; scopes = 0; others = i.others }

-- the place is left as it was, or with other open scopes
abbrev pub Same : {A : Type 0} → Spot → A → Place → Type 0
Same i a t = t ≡ at i

abbrev pub Trails : {A : Type 0} → Spot → A → Place → Type 0
Trails i a t = (n : ℕ) × (t ≡ at (scoped i n))

-- behind items with a comma between each two
abbrev pub Listed : {A : Type 0} → Spot → List A → Place → Type 0
Listed i xs t = (n y : ℕ) × (length xs ≡ suc n) × (t ≡ at (scoped (item i n) y))

-- the machine goes over the phrase of the depth
abbrev pub Nests : {A : Type 0} → ℕ → ℕ → ℕ → Place → (A → Place → Type 0) → (ℕ → Phrase A)
    → Type 0
Nests depth base least s Behind p = Walks nestings depth base least s Behind p

-- ---- single words

-- a word that ends no scope
pub steps_inside : (i : Spot) (most : ℕ) (w : Token) → height i ≤ most → ends_scopes w ≡ false
    → Steps nestings most (height i) (at i) (λ t. t ≡ behind (at i) w) w
steps_inside i most w room keeps = record {
  within = subst (λ z. z ≤ most) (sym number) room;
  reaches = subst (λ z. height i ≤ z) (sym number) (omega arith);
  behind = refl;
}
  where
    number : nesting_at (at i) w ≡ height i
    number =
        ap (λ z. nested_at (Inside (if z then record (open_at i) { scopes = 0 } else open_at i)
        i.others)) keeps

-- a word that ends scopes
pub steps_ending : (i : Spot) (most : ℕ) (w : Token) → height (scoped i 0) ≤ most
    → ends_scopes w ≡ true
    → Steps nestings most (height (scoped i 0)) (at i) (λ t. t ≡ behind (at i) w) w
steps_ending i most w room ends = record {
  within = subst (λ z. z ≤ most) (sym number) room;
  reaches = subst (λ z. height (scoped i 0) ≤ z) (sym number) (omega arith);
  behind = refl;
}
  where
    number : nesting_at (at i) w ≡ height (scoped i 0)
    number =
        ap (λ z. nested_at (Inside (if z then record (open_at i) { scopes = 0 } else open_at i)
        i.others)) ends

module _ {depth base : ℕ} where
  pub nests_sign : {least : ℕ} {s : Place} {P : Place → Type 0} (m : List ℕ)
      → Steps nestings (base + depth) least s P (token kind.Mark m)
      → Nests depth base least s (λ _ t. P t) (λ _. sign m)
  nests_sign {least} {s} {P} m h =
      walks_word (λ w a e.
      by_mark m (λ z. Steps nestings (base + depth) least s P z) h w (ap is_some e))

  -- the end of a rule
  pub ends : {A : Type 0} {Behind : A → Place → Type 0} {s : Place} (a : A) → Behind a s
      → Nests depth base 0 s Behind (λ _. empty a)
  ends a h = walks_empty a h

  -- what stands later in a sequence
  pub later : {A : Type 0} {Behind : A → Place → Type 0} {least : ℕ} {s : Place} {p : ℕ → Phrase A}
      → Nests depth base least s Behind p → Nests depth base 0 s Behind p
  later h = walks_so (omega arith) (λ a t holds. holds) h

  -- from a place that is known
  pub moved : {A : Type 0} {Behind : A → Place → Type 0} {least : ℕ} {s t : Place}
      {p : ℕ → Phrase A} → t ≡ s → Nests depth base least s Behind p
      → Nests depth base least t Behind p
  moved {Behind = Behind} {least = least} {p = p} e h =
      subst (λ z. Nests depth base least z Behind p) (sym e) h

  pub loosened : {A : Type 0} {least : ℕ} {i : Spot} {s : Place} {p : ℕ → Phrase A}
      → Nests depth base least s (Same i) p → Nests depth base least s (Trails i) p
  loosened {i = i} h = walks_so (omega arith) (λ a t e. (i.scopes, e)) h

  module _ (i : Spot) (room : height i ≤ base + depth) where
    pub nests_quiet : (m : List ℕ) → ends_scopes (token kind.Mark m) ≡ false
        → behind (at i) (token kind.Mark m) ≡ at i
        → Nests depth base (height i) (at i) (Same i) (λ _. sign m)
    nests_quiet m keeps stays =
        walks_so (omega arith) (λ a t e. e ∙ stays)
        (nests_sign m (steps_inside i (base + depth) (token kind.Mark m) room keeps))

    pub nests_name : Nests depth base (height i) (at i) (Same i) (λ _. word name)
    nests_name =
        walks_word (λ w a e.
        by_name (λ z. Steps nestings (base + depth) (height i) (at i) (λ t. t ≡ at i) z)
        (λ s. steps_inside i (base + depth) (token kind.Lower s) room refl)
        (λ s. steps_inside i (base + depth) (token kind.Quoted s) room refl) w (ap is_some e))

    pub nests_variable : Nests depth base (height i) (at i) (Same i) (λ _. word variable)
    nests_variable =
        walks_word (λ w a e.
        by_variable (λ z. Steps nestings (base + depth) (height i) (at i) (λ t. t ≡ at i) z)
        (λ s. steps_inside i (base + depth) (token kind.Upper s) room refl) w (ap is_some e))

    pub nests_dollar : (m : List ℕ)
        → Nests depth base (height i) (at i) (Same i) (λ _. word (dollar m))
    nests_dollar m =
        walks_word (λ w a e.
        by_dollar m (λ z. Steps nestings (base + depth) (height i) (at i) (λ t. t ≡ at i) z)
        (steps_inside i (base + depth) (token kind.Dollar m) room refl) w (ap is_some e))

    pub nests_open : Nests depth base (height i) (at i) (Same (inside Round i))
        (λ _. sign (codes "("))
    nests_open =
        nests_sign (codes "(")
        (steps_inside i (base + depth) (token kind.Mark (codes "(")) room refl)

  -- at a place of this height
  pub based : {A : Type 0} {Behind : A → Place → Type 0} {s : Place} {p : ℕ → Phrase A} (i : Spot)
      → height i ≡ base → Nests depth base (height i) s Behind p → Nests depth base base s Behind p
  based i e h = walks_so (omega (arith, e)) (λ a t holds. holds) h

  -- the closing bracket
  pub nests_close : (i : Spot) (n y : ℕ) → suc (height i) ≤ base + depth
      → Nests depth base 0 (at (scoped (item (inside Round i) n) y)) (Same i)
      (λ _. sign (codes ")"))
  nests_close i n y room =
      later (nests_sign (codes ")")
      (steps_ending (scoped (item (inside Round i) n) y) (base + depth)
      (token kind.Mark (codes ")")) (omega arith) refl))

-- ---- parts that several rules share

module _ {A : Type 0} {depth base least : ℕ} {p : ℕ → Phrase A} where
  -- items with commas between, directly inside a bracket that is not an entry's
  pub nests_listed : (i : Spot) → height (item i 0) ≤ least
      → ((n : ℕ) → opens_notes i.bracket n ≡ false)
      → ((n : ℕ) → Nests depth base least (at (item i n)) (Trails (item i n)) p)
      → Nests depth base least (at (item i 0)) (Listed i) (λ n. listed (p n))
  nests_listed i low no_notes h =
      walks_via (λ y. at (scoped (item i 0) y)) (h 0) (λ room x y.
      walks_then (walks_many Behind (more room) 0 _ (y, refl)) (λ xs t (z, e) _.
      ends (x ∷ xs) (0 + length xs, z, omega arith, e)))
    where
      Behind : ℕ → Place → Type 0
      Behind n t = (y : ℕ) × (t ≡ at (scoped (item i n) y))

      comma : (n y : ℕ) → least ≤ base + depth
          → Nests depth base 0 (at (scoped (item i n) y)) (Same (item i (suc n)))
          (λ _. sign (codes ","))
      comma n y room =
          walks_so (omega arith)
          (λ a t e. e ∙ ap (λ z. if z then InNotes 0 else at (item i (suc n))) (no_notes n))
          (nests_sign (codes ",")
          (steps_ending (scoped (item i n) y) (base + depth) (token kind.Mark (codes ","))
          (omega arith) refl))

      more : least ≤ base + depth → (n : ℕ) (s : Place) → Behind n s
          → Nests depth base 0 s (λ _ t. Behind (suc n) t) (λ d. sign (codes ",") >> p d)
      more room n s (y, e) =
          subst (λ z. Nests depth base 0 z (λ _ t. Behind (suc n) t)
          (λ d. sign (codes ",") >> p d)) (sym e)
          (walks_on (at (item i (suc n))) (comma n y room) (λ _ _. later (h (suc n))))

  -- a phrase that stands in round brackets
  module _ (i : Spot) (room : height i ≤ base + depth) (low : suc (height i) ≤ least)
      (h : (n : ℕ) → Nests depth base least (at (item (inside Round i) n))
      (Trails (item (inside Round i) n)) p) where
    pub nests_arguments : Nests depth base (height i) (at i) (Same i) (λ n. arguments (p n))
    nests_arguments =
        walks_on (at (inside Round i)) (nests_open i room) (λ _ _.
        later (walks_then (nests_listed (inside Round i) (omega arith) (λ n. refl) h)
        (λ xs t (n, y, _, e) deep.
        moved e (walks_on (at i) (nests_close i n y (omega arith)) (λ _ _. ends xs refl)))))

    pub nests_application : {T : Type 0} (make : List ℕ → List A → T)
        → Nests depth base (height i) (at i) (Same i) (λ n. application make (p n))
    nests_application make =
        walks_or (walks_on (at i) (nests_name i room) (λ _ n. ends (make n []) refl))
        (walks_on (at i) (nests_name i room) (λ _ n.
        walks_on (at i) (later nests_arguments) (λ _ xs. ends (make n xs) refl)))

    pub nests_bracketed : Nests depth base (height i) (at i) (Same i)
        (λ n. sign (codes "(") >> (p n >>= λ a. sign (codes ")") >> empty a))
    nests_bracketed =
        walks_on (at (inside Round i)) (nests_open i room) (λ _ _.
        later (walks_via (λ y. at (scoped (inside Round i) y)) (h 0) (λ deep a y.
        walks_on (at i) (nests_close i 0 y (omega arith)) (λ _ _. ends a refl))))

  -- parts with the mark between each two, which leads back to where the first part stands
  pub nests_chain : {T X : Type 0} (s : Place) (u : X → Place) (m : List ℕ) (make : List A → T)
      → Nests depth base least s (λ _ t. (x : X) × (t ≡ u x)) p
      → (least ≤ base + depth → (x : X) → Nests depth base 0 (u x) (λ _ t. t ≡ s) (λ _. sign m))
      → Nests depth base least s (λ _ t. (x : X) × (t ≡ u x)) (λ n. chain m make (p n))
  nests_chain {X = X} s u m make h back =
      walks_via u h (λ room a x. walks_on s (back room x) (λ _ _.
      walks_via u (later h) (λ _ b y.
      walks_then (walks_many Behind (more room) 0 (u y) (y, refl)) (λ xs t holds _.
      ends (make (a ∷ b ∷ xs)) holds))))
    where
      Behind : ℕ → Place → Type 0
      Behind n t = (x : X) × (t ≡ u x)

      more : least ≤ base + depth → (n : ℕ) (t : Place) → Behind n t
          → Nests depth base 0 t (λ _ r. Behind (suc n) r) (λ d. sign m >> p d)
      more room n t (x, e) = moved e (walks_on s (back room x) (λ _ _. later h))

module _ {A B T : Type 0} {depth base least : ℕ} {p : ℕ → Phrase A} {q : ℕ → Phrase B} where
  -- two parts that leave the place as it was, and a mark that does
  pub nests_pair : (i : Spot) (m : List ℕ) (make : A → B → T) → height i ≤ least
      → ends_scopes (token kind.Mark m) ≡ false → behind (at i) (token kind.Mark m) ≡ at i
      → Nests depth base least (at i) (Same i) p → Nests depth base least (at i) (Same i) q
      → Nests depth base least (at i) (Same i) (λ n. pair m make (p n) (q n))
  nests_pair i m make low keeps stays h k =
      walks_on (at i) h (λ room a. walks_on (at i)
      (later (nests_quiet i (omega arith) m keeps stays)) (λ _ _.
      walks_on (at i) (later k) (λ _ b. ends (make a b) refl)))

-- a quantified unit or type
module _ {A T : Type 0} {depth base : ℕ} {bound : ℕ → Phrase Bound}
    (body : ℕ → ℕ → Phrase A) (i : Spot) (e : height i ≡ base)
    (h : (n : ℕ) → Nests depth base base (at (item (inside Square i) n))
    (Trails (item (inside Square i) n)) bound)
    (k : (n : ℕ) (j : Spot) → height j ≡ base + suc n
    → Nests depth base (base + suc n) (at j) (Trails j) (λ d. body d (suc n))) where
  -- where the list has closed, its colon opens the scope of the variables
  nests_scope : (make : List Bound → A → T) (xs : List Bound) (n y : ℕ) → length xs ≡ suc n
      → Nests depth base 0 (at (scoped (item (inside Square i) n) y)) (Trails i)
      (λ d. sign (codes "]") >> (sign (codes ":") >> (body d (length xs) >>= λ scope.
      empty (make xs scope))))
  nests_scope make xs n y size =
      walks_on closed (later (nests_sign (codes "]")
      (steps_ending (scoped (item (inside Square i) n) y) (base + depth)
      (token kind.Mark (codes "]")) (omega arith) refl))) (λ _ _.
      walks_on (at deep) (nests_sign (codes ":") colon) (λ _ _.
      walks_via (λ z. at (scoped i z))
      (later (subst (λ z. Nests depth base (base + suc n) (at deep) (Trails deep) (λ d. body d z))
      (sym size) (k n deep (omega (arith, e))))) (λ _ scope z. ends (make xs scope) (z, refl))))
    where
      closed : Place
      closed = Inside (record (open_at i) { listed = Some (suc n) }) i.others

      deep : Spot
      deep = scoped i (i.scopes + suc n)

      colon : Steps nestings (base + depth) 0 closed (λ t. t ≡ at deep)
          (token kind.Mark (codes ":"))
      colon = record { within = omega (arith, e); reaches = omega arith; behind = refl }

  pub nests_quantified : (m : List ℕ) (make : List Bound → A → T)
      → ends_scopes (token kind.Mark m) ≡ false → behind (at i) (token kind.Mark m) ≡ at i
      → Nests depth base (height i) (at i) (Trails i)
      (λ d. quantified m make (bound d) (body d))
  nests_quantified m make keeps stays =
      walks_on (at i) (nests_quiet i (omega (arith, e)) m keeps stays) (λ room _.
      walks_on (at (inside Square i)) (later (nests_sign (codes "[")
      (steps_inside i (base + depth) (token kind.Mark (codes "[")) room refl))) (λ _ _.
      walks_then (later (nests_listed (inside Square i) (omega (arith, e)) (λ n. refl) h))
      (λ xs t (n, y, size, f) _. moved f (nests_scope make xs n y size))))
