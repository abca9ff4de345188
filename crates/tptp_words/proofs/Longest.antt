-- Words go through a machine, and a byte at which it dies ends the longest word. More than words
-- goes through, so a word that ends so is followed by what no word goes on with.
use Rattle.std.proofs.Common.{◌≡◌, ℕ, ◌≤◌, ◌⊎◌, inl, inr, Bool, true, false, ◌||◌, ◌&&◌, ◌==◌}
use Rattle.std.proofs.Common.{if◌then◌else◌, List, [], ◌∷◌, ◌++◌, length, refl, sym, ◌∙◌, ap, subst}
use Rattle.std.proofs.Common.{arith}
use Rattle.std.proofs.lemmas.Bool.{and_parts}
use Rattle.std.proofs.lemmas.Bool.Decides.{nat_tests}
use Rattle.std.specs.Char.{is_ascii_lowercase, is_ascii_uppercase, is_ascii_digit}
use Rattle.tptp_words.specs.declared.word.WordKind.{WordKind}
use Rattle.tptp_words.specs.declared.word.WordKind.TheVariants.{Lower, Upper, Quoted, Distinct}
use Rattle.tptp_words.specs.declared.word.WordKind.TheVariants.{Dollar, System, Number, Mark}
use Rattle.tptp_words.specs.Text.{Token, is_name, single_quote, double_quote, backslash}
use Rattle.tptp_words.specs.Text.{dollar_sign}
use Rattle.tptp_words.specs.Text.{point, slash, AllPass, IsNameFrom, OneOf, marks, escaped}
use Rattle.tptp_words.specs.Text.{in_quotes}
use Rattle.tptp_words.specs.Text.{IsDigits, IsSign, IsFraction, IsExponent, IsTail, Spells}
use Rattle.tptp_words.specs.Text.{IsLongest}
use Rattle.tptp_words.proofs.Passes.{pass_weaker, pass_append}

pub data State : Type 0 where
  Begin Name Digits Money Single Double SingleEscape DoubleEscape : State
  Bang Tilde Equals Less Done Dead : State

abbrev pub is_letter : ℕ → Bool
is_letter b = is_ascii_lowercase b || is_ascii_uppercase b

abbrev pub is_signed : ℕ → Bool
is_signed b = is_ascii_digit b || b == 43 || b == 45

abbrev pub is_number : ℕ → Bool
is_number b = is_signed b || b == point || b == slash || b == 69 || b == 101

abbrev pub or_die : Bool → State → State
or_die true q = q
or_die false q = Dead

abbrev pub begun_by : Bool → Bool → ℕ → State
begun_by letter signed b =
    if letter then Name
    else if signed then Digits
    else if b == dollar_sign then Money
    else if b == single_quote then Single
    else if b == double_quote then Double
    else if b == 33 then Bang
    else if b == 126 then Tilde
    else if b == 61 then Equals
    else if b == 60 then Less
    else Done

-- where a byte leads
abbrev pub step : State → ℕ → State
step Begin b = begun_by (is_letter b) (is_signed b) b
step Name b = or_die (is_name b) Name
step Digits b = or_die (is_number b) Digits
step Money b = if is_name b then Name else or_die (b == dollar_sign) Money
step Single b =
    if b == single_quote then Done else if b == backslash then SingleEscape else Single
step Double b =
    if b == double_quote then Done else if b == backslash then DoubleEscape else Double
step SingleEscape b = Single
step DoubleEscape b = Double
step Bang b = or_die (b == 61 || b == 62) Done
step Tilde b = or_die (b == 38 || b == 124) Done
step Equals b = or_die (b == 62) Done
step Less b = or_die (b == 61 || b == 62 || b == 126) Less
step Done b = Dead
step Dead b = Dead

abbrev pub run : State → List ℕ → State
run q [] = q
run q (b ∷ bs) = run (step q b) bs

abbrev pub lives : State → Bool
lives Dead = false
lives _ = true

run-append : (q : State) (u v : List ℕ) → run q (u ++ v) ≡ run (run q u) v
run-append q [] v = refl
run-append q (b ∷ u) v = run-append (step q b) u v

run-dead : (u : List ℕ) → run Dead u ≡ Dead
run-dead [] = refl
run-dead (b ∷ u) = run-dead u

-- the machine dies at the first of the bytes, if there is one
abbrev pub Ends : State → List ℕ → Type 0
Ends q [] = Unit {0}
Ends q (b ∷ bs) = step q b ≡ Dead

longer : (q : State) (u rest s after : List ℕ) → u ++ rest ≡ s ++ after → Ends (run q u) rest
    → lives (run q s) ≡ true → length s ≤ length u
longer q u rest [] after e d l = omega arith
longer q [] [] (b ∷ s) after e d l = absurd (cc e)
longer q [] (c ∷ rest) (b ∷ s) after e d l =
    let same : b ≡ c = cc e in
    let k : run (step q b) s ≡ Dead = ap (λ z. run (step q z) s) same ∙ ap (λ r. run r s) d
    ∙ run-dead s in
    absurd (cc (sym l ∙ ap lives k))
longer q (c ∷ u) rest (b ∷ s) after e d l =
    let same : b ≡ c = cc e in
    let tails : u ++ rest ≡ s ++ after = cc e in
    let r = longer (step q c) u rest s after tails d
    (subst (λ z. lives (run (step q z) s) ≡ true) same l) in
    omega arith

-- ---- every spelled word goes through

name_run : (bs : List ℕ) → AllPass is_name bs → run Name bs ≡ Name
name_run [] h = refl
name_run (b ∷ bs) h = ap (λ v. run (or_die v Name) bs) h.0 ∙ name_run bs h.1

number_run : (bs : List ℕ) → AllPass is_number bs → run Digits bs ≡ Digits
number_run [] h = refl
number_run (b ∷ bs) h = ap (λ v. run (or_die v Digits) bs) h.0 ∙ number_run bs h.1

or-true : (v : Bool) → (v || true) ≡ true
or-true true = refl
or-true false = refl

lower_first : (b : ℕ) → is_ascii_lowercase b ≡ true → step Begin b ≡ Name
lower_first b e = ap (λ v. begun_by (v || is_ascii_uppercase b) (is_signed b) b) e

upper_first : (b : ℕ) → is_ascii_uppercase b ≡ true → step Begin b ≡ Name
upper_first b e =
    ap (λ v. begun_by v (is_signed b) b)
    (ap (λ w. is_ascii_lowercase b || w) e ∙ or-true (is_ascii_lowercase b))

lower_name : (b : ℕ) → is_ascii_lowercase b ≡ true → is_name b ≡ true
lower_name b e = grind (arith, nat_tests)

pub lower_run : (s : List ℕ) → IsNameFrom is_ascii_lowercase s → run Begin s ≡ Name
lower_run [] h = absurd h
lower_run (b ∷ bs) h = ap (λ q. run q bs) (lower_first b h.0) ∙ name_run bs h.1

pub upper_run : (s : List ℕ) → IsNameFrom is_ascii_uppercase s → run Begin s ≡ Name
upper_run [] h = absurd h
upper_run (b ∷ bs) h = ap (λ q. run q bs) (upper_first b h.0) ∙ name_run bs h.1

money_run : (s : List ℕ) → IsNameFrom is_ascii_lowercase s → run Money s ≡ Name
money_run [] h = absurd h
money_run (b ∷ bs) h =
    ap (λ v. run (if v then Name else or_die (b == dollar_sign) Money) bs) (lower_name b h.0)
    ∙ name_run bs h.1

single_run : (bs : List ℕ) → run Single (escaped single_quote bs ++ single_quote ∷ []) ≡ Done
single_run [] = refl
single_run (b ∷ bs) = go (b == single_quote) (b == backslash) refl refl (single_run bs)
  where
    rest : List ℕ
    rest = escaped single_quote bs ++ single_quote ∷ []

    go : (v w : Bool) → (b == single_quote) ≡ v → (b == backslash) ≡ w → run Single rest ≡ Done
        → run Single ((if v || w then backslash ∷ b ∷ escaped single_quote bs
        else b ∷ escaped single_quote bs) ++ single_quote ∷ []) ≡ Done
    go true w e f k = k
    go false true e f k = k
    go false false e f k =
        ap (λ x. run (if x then Done else if b == backslash then SingleEscape else Single) rest) e
        ∙ ap (λ x. run (if x then SingleEscape else Single) rest) f ∙ k

double_run : (bs : List ℕ) → run Double (escaped double_quote bs ++ double_quote ∷ []) ≡ Done
double_run [] = refl
double_run (b ∷ bs) = go (b == double_quote) (b == backslash) refl refl (double_run bs)
  where
    rest : List ℕ
    rest = escaped double_quote bs ++ double_quote ∷ []

    go : (v w : Bool) → (b == double_quote) ≡ v → (b == backslash) ≡ w → run Double rest ≡ Done
        → run Double ((if v || w then backslash ∷ b ∷ escaped double_quote bs
        else b ∷ escaped double_quote bs) ++ double_quote ∷ []) ≡ Done
    go true w e f k = k
    go false true e f k = k
    go false false e f k =
        ap (λ x. run (if x then Done else if b == backslash then DoubleEscape else Double) rest) e
        ∙ ap (λ x. run (if x then DoubleEscape else Double) rest) f ∙ k

pub quoted_run : (bs : List ℕ) → run Begin (in_quotes single_quote bs) ≡ Done
quoted_run bs = single_run bs

pub distinct_run : (bs : List ℕ) → run Begin (in_quotes double_quote bs) ≡ Done
distinct_run bs = double_run bs

digit_number : (b : ℕ) → is_ascii_digit b ≡ true → is_number b ≡ true
digit_number b e =
    ap (λ v. ((v || b == 43) || b == 45) || b == point || b == slash || b == 69 || b == 101) e

digits_pass : (ds : List ℕ) → IsDigits ds → AllPass is_number ds
digits_pass ds h = pass_weaker is_ascii_digit is_number digit_number ds h.0

sign_pass : (s : List ℕ) → IsSign s → AllPass is_number s
sign_pass s (inl e) = subst (AllPass is_number) (sym e) tt
sign_pass s (inr (inl e)) = subst (AllPass is_number) (sym e) (refl, tt)
sign_pass s (inr (inr e)) = subst (AllPass is_number) (sym e) (refl, tt)

fraction_pass : (s : List ℕ) → IsFraction s → AllPass is_number s
fraction_pass s (inl e) = subst (AllPass is_number) (sym e) tt
fraction_pass s (inr (ds, h, e)) = subst (AllPass is_number) (sym e) (refl, digits_pass ds h)

exponent_pass : (s : List ℕ) → IsExponent s → AllPass is_number s
exponent_pass s (inl e) = subst (AllPass is_number) (sym e) tt
exponent_pass s (inr (b, sign, ds, which, i, h, e)) =
    subst (AllPass is_number) (sym e)
    (letter b which, pass_append is_number sign ds (sign_pass sign i) (digits_pass ds h))
  where
    letter : (b : ℕ) → (b ≡ 69) ⊎ (b ≡ 101) → is_number b ≡ true
    letter b (inl k) = ap is_number k
    letter b (inr k) = ap is_number k

tail_pass : (s : List ℕ) → IsTail s → AllPass is_number s
tail_pass s (inl (ds, h, e)) = subst (AllPass is_number) (sym e) (refl, digits_pass ds h)
tail_pass s (inr (fraction, exponent, f, x, e)) =
    subst (AllPass is_number) (sym e)
    (pass_append is_number fraction exponent (fraction_pass fraction f) (exponent_pass exponent x))

signed_not_letter : (b : ℕ) → is_signed b ≡ true → is_letter b ≡ false
signed_not_letter b e = grind (arith, nat_tests)

signed_first : (b : ℕ) → is_signed b ≡ true → step Begin b ≡ Digits
signed_first b e =
    ap (λ v. begun_by v (is_signed b) b) (signed_not_letter b e) ∙ ap (λ v. begun_by false v b) e

digit_signed : (b : ℕ) → is_ascii_digit b ≡ true → is_signed b ≡ true
digit_signed b e = ap (λ v. (v || b == 43) || b == 45) e

pub digits_run : (ds : List ℕ) → IsDigits ds → run Begin ds ≡ Digits
digits_run [] h = absurd (cc h.1)
digits_run (b ∷ ds) h =
    ap (λ q. run q ds) (signed_first b (digit_signed b h.0.0))
    ∙ number_run ds (pass_weaker is_ascii_digit is_number digit_number ds h.0.1)

number_first : (s ds tail : List ℕ) → IsSign s → IsDigits ds → IsTail tail
    → run Begin (s ++ ds ++ tail) ≡ Digits
number_first s ds tail (inl e) h i =
    ap (λ z. run Begin (z ++ ds ++ tail)) e ∙ run-append Begin ds tail
    ∙ ap (λ q. run q tail) (digits_run ds h) ∙ number_run tail (tail_pass tail i)
number_first s ds tail (inr (inl e)) h i =
    ap (λ z. run Begin (z ++ ds ++ tail)) e
    ∙ number_run (ds ++ tail) (pass_append is_number ds tail (digits_pass ds h) (tail_pass tail i))
number_first s ds tail (inr (inr e)) h i =
    ap (λ z. run Begin (z ++ ds ++ tail)) e
    ∙ number_run (ds ++ tail) (pass_append is_number ds tail (digits_pass ds h) (tail_pass tail i))

pub number_ends : (s : List ℕ) → Spells Number s → run Begin s ≡ Digits
number_ends s (sign, ds, tail, i, h, t, e) = ap (run Begin) e ∙ number_first sign ds tail i h t

pub dollar_run : (s : List ℕ) → Spells Dollar s → run Begin s ≡ Name
dollar_run s (n, p, e) = ap (run Begin) e ∙ money_run n p

pub system_run : (s : List ℕ) → Spells System s → run Begin s ≡ Name
system_run s (n, p, e) = ap (run Begin) e ∙ money_run n p

abbrev all_live : List (List ℕ) → Bool
all_live [] = true
all_live (m ∷ ms) = lives (run Begin m) && all_live ms

one_lives : (s : List ℕ) (ms : List (List ℕ)) → all_live ms ≡ true → OneOf s ms
    → lives (run Begin s) ≡ true
one_lives s [] h o = absurd o
one_lives s (m ∷ ms) h (inl e) = ap (λ z. lives (run Begin z)) e ∙ (and_parts _ _ h).0
one_lives s (m ∷ ms) h (inr o) = one_lives s ms (and_parts _ _ h).1 o

pub spelled_lives : (kind : WordKind) (s : List ℕ) → Spells kind s → lives (run Begin s) ≡ true
spelled_lives Lower s h = ap lives (lower_run s h)
spelled_lives Upper s h = ap lives (upper_run s h)
spelled_lives Quoted s (bs, p, n, e) =
    ap (λ z. lives (run Begin z)) e ∙ ap lives (single_run bs)
spelled_lives Distinct s (bs, p, e) =
    ap (λ z. lives (run Begin z)) e ∙ ap lives (double_run bs)
spelled_lives Dollar s h = ap lives (dollar_run s h)
spelled_lives System s h = ap lives (system_run s h)
spelled_lives Number s h = ap lives (number_ends s h)
spelled_lives Mark s h = one_lives s marks refl h

-- a spelled word at whose end the machine dies is the longest
pub longest : (w : Token) (rest : List ℕ) → Spells w.kind w.spelling
    → Ends (run Begin w.spelling) rest → IsLongest (w.spelling ++ rest) w rest
longest w rest h d = record {
  is = refl;
  spells = h;
  longest = λ other s after e i.
      longer Begin w.spelling rest s after e d (spelled_lives other s i);
}
