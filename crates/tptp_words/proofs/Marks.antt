-- The mark at the front of a text is found, and it is the longest.
use Rattle.std.proofs.Common.{◌≡◌, ℕ, zero, suc, ◌≤◌, ◌⊎◌, inl, inr, Bool, true, false, ◌||◌, ◌&&◌}
use Rattle.std.proofs.Common.{◌==◌, if◌then◌else◌, List, [], ◌∷◌, ◌++◌, length, take, drop}
use Rattle.std.proofs.Common.{slice_index, codes, refl, sym, ap, subst, arith, rules, lit≤, zero-le}
use Rattle.std.proofs.Common.{length-take}
use Rattle.std.proofs.Math.Nat.{le_refl, le_trans}
use Rattle.std.proofs.lemmas.List.{take-append-drop}
use Rattle.std.proofs.lemmas.Bool.{eqb-true}
use Rattle.tptp_words.specs.declared.word.WordKind.TheVariants.{Mark}
use Rattle.tptp_words.specs.declared.piece.Piece.TheVariants as piece
use Rattle.tptp_words.specs.Text.{OneOf, marks}
use Rattle.tptp_words.specs.Scanning.{less_len, is_in, mark_len, mark_of, mark_at}
use Rattle.tptp_words.proofs.NumberCuts.{Takes}

abbrev pub Each : (List ℕ → Type 0) → List (List ℕ) → Type 0
Each P [] = Unit {0}
Each P (m ∷ ms) = P m × Each P ms

pub one_of_each : (P : List ℕ → Type 0) (s : List ℕ) (ms : List (List ℕ)) → Each P ms → OneOf s ms
    → P s
one_of_each P s [] h o = absurd o
one_of_each P s (m ∷ ms) h (inl e) = subst P (sym e) h.0
one_of_each P s (m ∷ ms) h (inr o) = one_of_each P s ms h.1 o

-- ---- what is spelled is found

-- a mark of at least the length of this one
abbrev pub MarkOver : List ℕ → Type 0
MarkOver m = (rest : List ℕ) → (n : ℕ) × (mark_at (m ++ rest) ≡ piece.Word Mark n) × (length m ≤ n)

abbrev Marked : ℕ → ℕ → Type 0
Marked found m = (n : ℕ) × (mark_of found ≡ piece.Word Mark n) × (m ≤ n)

two_or_one : (v : Bool) → Marked (if v then 2 else 1) 1
two_or_one true = (2, refl, lit≤ tt)
two_or_one false = (1, refl, le_refl 1)

three_or_two : (v : Bool) → Marked (if v then 3 else 2) 2
three_or_two true = (3, refl, lit≤ tt)
three_or_two false = (2, refl, le_refl 2)

each_mark : Each MarkOver marks
unfolding mark_at
each_mark = (
  (λ rest. (1, refl, le_refl 1)),
  (
    (λ rest. (1, refl, le_refl 1)),
    (
      (λ rest. (1, refl, le_refl 1)),
      (
        (λ rest. (1, refl, le_refl 1)),
        (
          (λ rest. (1, refl, le_refl 1)),
          (
            (λ rest. (1, refl, le_refl 1)),
            (
              (λ rest. (1, refl, le_refl 1)),
              (
                (λ rest. two_or_one (slice_index rest 0 == 62)),
                (
                  (λ rest. (2, refl, le_refl 2)),
                  (
                    (λ rest. two_or_one (slice_index rest 0 == 38 || slice_index rest 0 == 124)),
                    (
                      (λ rest. (1, refl, le_refl 1)),
                      (
                        (λ rest. (1, refl, le_refl 1)),
                        (
                          (λ rest. (2, refl, le_refl 2)),
                          (
                            (λ rest. three_or_two (slice_index rest 0 == 62)),
                            (
                              (λ rest. (3, refl, le_refl 3)),
                              (
                                (λ rest. (3, refl, le_refl 3)),
                                (
                                  (λ rest. (2, refl, le_refl 2)),
                                  (
                                    (λ rest. (2, refl, le_refl 2)),
                                    (
                                      (λ rest. two_or_one (slice_index rest 0 == 61 || slice_index rest 0 == 62)),
                                      (
                                        (λ rest. (1, refl, le_refl 1)),
                                        (
                                          (λ rest. (2, refl, le_refl 2)),
                                          (
                                            (λ rest. (1, refl, le_refl 1)),
                                            (
                                              (λ rest. (1, refl, le_refl 1)),
                                              tt,
                                            ),
                                          ),
                                        ),
                                      ),
                                    ),
                                  ),
                                ),
                              ),
                            ),
                          ),
                        ),
                      ),
                    ),
                  ),
                ),
              ),
            ),
          ),
        ),
      ),
    ),
  ),
)

pub mark_over : (s : List ℕ) → OneOf s marks → MarkOver s
mark_over s o = one_of_each MarkOver s marks each_mark o

-- ---- what is found is spelled

abbrev Found : ℕ → ℕ → ℕ → ℕ → Type 0
Found b c d n = (n ≡ 0) ⊎ OneOf (take n (b ∷ c ∷ d ∷ [])) marks

abbrev EachByte : List ℕ → Type 0
EachByte [] = Unit {0}
EachByte (m ∷ ms) = OneOf (m ∷ []) marks × EachByte ms

one_in : (ms : List ℕ) (b : ℕ) → EachByte ms → is_in ms b ≡ true → OneOf (b ∷ []) marks
one_in [] b h e = absurd (cc e)
one_in (m ∷ ms) b h e = go (λ i. one_in ms b h.1 i) (b == m) refl e
  where
    go : (is_in ms b ≡ true → OneOf (b ∷ []) marks) → (v : Bool) → (b == m) ≡ v
        → (v || is_in ms b) ≡ true → OneOf (b ∷ []) marks
    go later true f i = subst (λ z. OneOf (z ∷ []) marks) (sym (eqb-true b m f)) h.0
    go later false f i = later i

single : (b : ℕ) → is_in (codes "()[],.:&|?>*") b ≡ true → OneOf (b ∷ []) marks
single b e = one_in (codes "()[],.:&|?>*") b (search rules) e

at_bytes : (b c d i j k n : ℕ) → b ≡ i → c ≡ j → d ≡ k → Found i j k n → Found b c d n
at_bytes b c d i j k n e f g h =
    subst (λ z. Found z c d n) (sym e)
    (subst (λ z. Found i z d n) (sym f) (subst (λ z. Found i j z n) (sym g) h))

less_found : (b c d : ℕ) → b ≡ 60 → Found b c d (less_len c d)
less_found b c d e = go (c == 61) (d == 62) (c == 126) refl refl refl
  where
    go : (v w x : Bool) → (c == 61) ≡ v → (d == 62) ≡ w → (c == 126) ≡ x
        → Found b c d (if v then (if w then 3 else 2) else if x && w then 3 else 0)
    go true true x f g h =
        at_bytes b c d 60 61 62 3 e (eqb-true c 61 f) (eqb-true d 62 g) (inr (search rules))
    go true false x f g h = at_bytes b c d 60 61 d 2 e (eqb-true c 61 f) refl (inr (search rules))
    go false true true f g h =
        at_bytes b c d 60 126 62 3 e (eqb-true c 126 h) (eqb-true d 62 g) (inr (search rules))
    go false true false f g h = inl refl
    go false false true f g h = inl refl
    go false false false f g h = inl refl

-- a mark of one byte, or of two where the second byte is one of these
pair_found : (b c d first one two : ℕ) → b ≡ first → OneOf (first ∷ []) marks
    → OneOf (first ∷ one ∷ []) marks → OneOf (first ∷ two ∷ []) marks
    → Found b c d (if c == one || c == two then 2 else 1)
pair_found b c d first one two e single left right = go (c == one) (c == two) refl refl
  where
    go : (v w : Bool) → (c == one) ≡ v → (c == two) ≡ w → Found b c d (if v || w then 2 else 1)
    go true w f g = at_bytes b c d first one d 2 e (eqb-true c one f) refl (inr left)
    go false true f g = at_bytes b c d first two d 2 e (eqb-true c two g) refl (inr right)
    go false false f g = at_bytes b c d first c d 1 e refl refl (inr single)

equals_found : (b c d : ℕ) → b ≡ 61 → Found b c d (if c == 62 then 2 else 1)
equals_found b c d e = go (c == 62) refl
  where
    go : (v : Bool) → (c == 62) ≡ v → Found b c d (if v then 2 else 1)
    go true f = at_bytes b c d 61 62 d 2 e (eqb-true c 62 f) refl (inr (search rules))
    go false f = at_bytes b c d 61 c d 1 e refl refl (inr (search rules))

mark_found : (b c d : ℕ) → Found b c d (mark_len b c d)
mark_found b c d =
    go (b == 60) (b == 33) (b == 61) (b == 126)
    (is_in (codes "()[],.:&|?>*") b) refl refl refl refl refl
  where
    go : (v w x y z : Bool) → (b == 60) ≡ v → (b == 33) ≡ w → (b == 61) ≡ x → (b == 126) ≡ y
        → is_in (codes "()[],.:&|?>*") b ≡ z
        → Found b c d (if v then less_len c d
        else if w then (if c == 61 || c == 62 then 2 else 1)
        else if x then (if c == 62 then 2 else 1)
        else if y then (if c == 38 || c == 124 then 2 else 1)
        else if z then 1 else 0)
    go true w x y z e f g h i = less_found b c d (eqb-true b 60 e)
    go false true x y z e f g h i =
        pair_found b c d 33 61 62 (eqb-true b 33 f) (search rules) (search rules) (search rules)
    go false false true y z e f g h i = equals_found b c d (eqb-true b 61 g)
    go false false false true z e f g h i =
        pair_found b c d 126 38 124 (eqb-true b 126 h) (search rules) (search rules) (search rules)
    go false false false false true e f g h i = inr (single b i)
    go false false false false false e f g h i = inl refl

-- ---- it lies within the text

abbrev cascade : Bool → Bool → Bool → Bool → Bool → ℕ → ℕ → ℕ → ℕ → ℕ
cascade v w x y z a b c d =
    if v then a else if w then b else if x then c else if y then d else if z then 1 else 0

cascade_within : (k : ℕ) (v w x y z : Bool) (a b c d : ℕ) → a ≤ k → b ≤ k → c ≤ k → d ≤ k → 1 ≤ k
    → cascade v w x y z a b c d ≤ k
cascade_within k true w x y z a b c d e f g h i = e
cascade_within k false true x y z a b c d e f g h i = f
cascade_within k false false true y z a b c d e f g h i = g
cascade_within k false false false true z a b c d e f g h i = h
cascade_within k false false false false true a b c d e f g h i = i
cascade_within k false false false false false a b c d e f g h i = zero-le

less_within : (k : ℕ) (v w x : Bool) → 2 ≤ k → (w ≡ true → 3 ≤ k)
    → (if v then (if w then 3 else 2) else if x && w then 3 else 0) ≤ k
less_within k true true x two three = three refl
less_within k true false x two three = two
less_within k false true true two three = three refl
less_within k false true false two three = zero-le
less_within k false false true two three = zero-le
less_within k false false false two three = zero-le

pair_within : (v : Bool) → (if v then 2 else 1) ≤ 2
pair_within true = le_refl 2
pair_within false = lit≤ tt

three_within : (b c d : ℕ) → mark_len b c d ≤ 3
three_within b c d = cascade_within 3 (b == 60) (b == 33) (b == 61) (b == 126) _ _ _ _ _
    (less_within 3 (c == 61) (d == 62) (c == 126) (lit≤ tt) (λ e. le_refl 3))
    (le_trans (pair_within _) (lit≤ tt)) (le_trans (pair_within _) (lit≤ tt))
    (le_trans (pair_within _) (lit≤ tt)) (lit≤ tt)

two_within : (b c : ℕ) → mark_len b c 0 ≤ 2
two_within b c = cascade_within 2 (b == 60) (b == 33) (b == 61) (b == 126) _ _ _ _ _
    (less_within 2 (c == 61) false (c == 126) (le_refl 2) (λ e. cc e))
    (pair_within _) (pair_within _) (pair_within _) (lit≤ tt)

one_within : (b : ℕ) → mark_len b 0 0 ≤ 1
one_within b = cascade_within 1 (b == 60) (b == 33) (b == 61) (b == 126) _ 0 1 1 1
    zero-le (le_refl 1) (le_refl 1) (le_refl 1) (le_refl 1)

taken : (text : List ℕ) (b c d n : ℕ) → Found b c d n → n ≤ length text
    → take n (b ∷ c ∷ d ∷ []) ≡ take n text → Takes text (mark_of n)
taken text b c d n f within same = go (n == 0) refl f
  where
    go : (v : Bool) → (n == 0) ≡ v → Found b c d n
        → Takes text (if v then piece.Bad 0 else piece.Word Mark n)
    go true e f = refl
    go false e (inl none) = absurd (cc (e, ap (λ m. m == 0) none))
    go false e (inr there) = record {
      front = take n text;
      rest = drop n text;
      is = sym (take-append-drop n text);
      size = simp length-take (omega (arith, within));
      holds = subst (λ z. OneOf z marks) same there;
    }

take_two : (b c : ℕ) (n : ℕ) → n ≤ 2 → take n (b ∷ c ∷ 0 ∷ []) ≡ take n (b ∷ c ∷ [])
take_two b c zero h = refl
take_two b c (suc zero) h = refl
take_two b c (suc (suc zero)) h = refl
take_two b c (suc (suc (suc n))) h = absurd (omega (arith, h))

take_one : (b : ℕ) (n : ℕ) → n ≤ 1 → take n (b ∷ 0 ∷ 0 ∷ []) ≡ take n (b ∷ [])
take_one b zero h = refl
take_one b (suc zero) h = refl
take_one b (suc (suc n)) h = absurd (omega (arith, h))

take_three : (b c d : ℕ) (text : List ℕ) (n : ℕ) → n ≤ 3
    → take n (b ∷ c ∷ d ∷ []) ≡ take n (b ∷ c ∷ d ∷ text)
take_three b c d text zero h = refl
take_three b c d text (suc zero) h = refl
take_three b c d text (suc (suc zero)) h = refl
take_three b c d text (suc (suc (suc zero))) h = refl
take_three b c d text (suc (suc (suc (suc n)))) h = absurd (omega (arith, h))

pub mark_takes : (text : List ℕ) → Takes text (mark_at text)
unfolding mark_at
mark_takes [] = refl
mark_takes (b ∷ []) =
    taken (b ∷ []) b 0 0 (mark_len b 0 0) (mark_found b 0 0) (one_within b)
    (take_one b _ (one_within b))
mark_takes (b ∷ c ∷ []) =
    taken (b ∷ c ∷ []) b c 0 (mark_len b c 0) (mark_found b c 0) (two_within b c)
    (take_two b c _ (two_within b c))
mark_takes (b ∷ c ∷ d ∷ text) =
    let within = three_within b c d in
    taken (b ∷ c ∷ d ∷ text) b c d (mark_len b c d) (mark_found b c d) (omega (arith, within))
    (take_three b c d text _ within)
