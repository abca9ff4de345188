-- The digits of a number are a number word, which stands for that number.
use Rattle.std.proofs.Common.{◌≡◌, ℕ, suc, ◌+◌, ◌*◌, ◌-◌, ◌/◌, ◌%◌, ◌<◌, ◌≤◌, Bool, true, false}
use Rattle.std.proofs.Common.{◌&&◌, if◌then◌else◌, List, [], ◌∷◌, ◌++◌, length, Option, Some, None}
use Rattle.std.proofs.Common.{refl, sym, ap, ◌∙◌, arith}
use Rattle.std.specs.Prelude.{◌^◌, leb, ltb}
use Rattle.std.specs.List.{list_all}
use Rattle.std.specs.Fmt.{decimal}
use Rattle.std.specs.Char.{is_ascii_digit}
use Rattle.std.proofs.lemmas.Fmt.{decimal_by_steps, length-decimal-le}
use Rattle.std.proofs.lemmas.Bool.{le-leb, lt-ltb}
use Rattle.std.proofs.lemmas.Bool.Decides.{nat_tests}
use Rattle.tptp_words.specs.Text.{AllPass, IsDigits, some_bytes}
use Rattle.fof_text.specs.Written.{number_word}
use Rattle.model_tables.specs.Grammar.{decimal_from, below_limit, short_number, number_of, number}

is_digit : (k : ℕ) → k < 10 → is_ascii_digit (48 + k) ≡ true
is_digit k l = grind (arith, nat_tests)

pass_last : (p : ℕ → Bool) (bs : List ℕ) (b : ℕ) → AllPass p bs → p b ≡ true
    → AllPass p (bs ++ b ∷ [])
pass_last p [] b h e = (e, tt)
pass_last p (c ∷ bs) b h e = (h.0, pass_last p bs b h.1 e)

some_last : (bs : List ℕ) (b : ℕ) → some_bytes (bs ++ b ∷ []) ≡ true
some_last [] b = refl
some_last (c ∷ bs) b = refl

pub decimal_digits : (n : ℕ) → n < 2 ^ 64 → IsDigits (decimal n)
decimal_digits = decimal_by_steps (λ n ds. IsDigits ds) (λ n l. ((is_digit n l, tt), refl))
    (λ n ds l h. (
      pass_last is_ascii_digit ds (48 + n % 10) h.0 (is_digit (n % 10) (omega arith)),
      some_last ds (48 + n % 10),
    ))

decimal_from-last : (m : ℕ) (ds : List ℕ) (d : ℕ)
    → decimal_from m (ds ++ d ∷ []) ≡ decimal_from m ds * 10 + (d - 48)
decimal_from-last m [] d = refl
decimal_from-last m (c ∷ ds) d = decimal_from-last (m * 10 + (c - 48)) ds d

decimal_value : (n : ℕ) → n < 2 ^ 64 → decimal_from 0 (decimal n) ≡ n
decimal_value = decimal_by_steps (λ n ds. decimal_from 0 ds ≡ n) (λ n l. omega arith)
    (λ n ds l h.
    let last = decimal_from-last 0 ds (48 + n % 10) in
    let value : decimal_from 0 ds * 10 + ((48 + n % 10) - 48) ≡ n = omega (arith, h) in
    last ∙ value)

all_of : (p : ℕ → Bool) (bs : List ℕ) → AllPass p bs → list_all p bs ≡ true
all_of p [] h = refl
all_of p (b ∷ bs) h = go (p b) (list_all p bs) h.0 (all_of p bs h.1)
  where
    go : (v w : Bool) → v ≡ true → w ≡ true → (v && w) ≡ true
    go true w e f = f
    go false w e f = e

short : (ds : List ℕ) (n : ℕ) → some_bytes ds ≡ true → length ds ≤ 10 → decimal_from 0 ds ≡ n
    → n < 2 ^ 32 → short_number ds ≡ Some n
short [] n some few value small = absurd (cc some)
short (d ∷ ds) n some few value small =
    ap (λ v. if v then below_limit (decimal_from 0 (d ∷ ds)) else None)
    (le-leb (length (d ∷ ds)) 10 few)
    ∙ ap below_limit value
    ∙ ap (λ v. if v then Some n else None) (lt-ltb n (2 ^ 32) small)

-- a number of 32 bits
pub number_says : (n : ℕ) → n < 2 ^ 32 → number (number_word (decimal n)) ≡ Some n
number_says n small =
    let fits : n < 2 ^ 64 = omega arith in
    let digits = decimal_digits n fits in
    ap (λ v. number_of (if v then Some (decimal n) else None))
    (all_of is_ascii_digit (decimal n) digits.0)
    ∙ short (decimal n) n digits.1 (length-decimal-le 10 n (omega arith) (omega arith) fits)
    (decimal_value n fits) small
