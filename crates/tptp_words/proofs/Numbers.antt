-- The number at the front of a text is found, and it is the longest.
use Rattle.std.proofs.Common.{◌≡◌, ℕ, ◌+◌, ◌≤◌, ◌⊎◌, inl, inr, true, false, ◌==◌, if◌then◌else◌}
use Rattle.std.proofs.Common.{List, [], ◌∷◌, ◌++◌, length, drop, refl, sym, ◌∙◌, ap, subst, arith}
use Rattle.std.proofs.Common.{append_assoc, append-nil, length-append}
use Rattle.std.proofs.lemmas.Bool.Decides.{nat_tests}
use Rattle.std.specs.Char.{is_ascii_digit}
use Rattle.tptp_words.specs.declared.word.WordKind.TheVariants.{Number}
use Rattle.tptp_words.specs.declared.piece.Piece.TheVariants as piece
use Rattle.tptp_words.specs.Text.{IsDigits, IsSign, IsExponent, IsTail, slash, point}
use Rattle.tptp_words.specs.Scanning.{is_sign, sign_len, digits_len, with_digits, part_len, is_e}
use Rattle.tptp_words.specs.Scanning.{exponent_of, exponent_len, decimal_len, tail_len, number_of}
use Rattle.tptp_words.specs.Scanning.{number_with, number_at}
use Rattle.tptp_words.proofs.Passes.{drop-front, drop-twice, prefix_len-over, some_length}

-- ---- what is spelled is found

digits_over : (ds rest : List ℕ) → IsDigits ds
    → digits_len (ds ++ rest) ≡ length ds + digits_len rest
digits_over ds rest h = prefix_len-over is_ascii_digit ds rest h.0

pub not_zero : (n : ℕ) → 1 ≤ n → (n == 0) ≡ false
not_zero n h = grind (arith, nat_tests)

with_some : (before count : ℕ) → 1 ≤ count → with_digits before count ≡ before + count
with_some before count h = ap (λ v. if v then 0 else before + count) (not_zero count h)

digit_no_sign : (d : ℕ) → is_ascii_digit d ≡ true → is_sign d ≡ false
digit_no_sign d e = grind (arith, nat_tests)

sign_len-digits : (ds rest : List ℕ) → IsDigits ds → sign_len (ds ++ rest) ≡ 0
sign_len-digits [] rest h = absurd (cc h.1)
sign_len-digits (d ∷ ds) rest h = ap (λ v. if v then 1 else 0) (digit_no_sign d h.0.0)

sign_len-over : (sign ds rest : List ℕ) → IsSign sign → IsDigits ds
    → sign_len (sign ++ (ds ++ rest)) ≡ length sign
sign_len-over sign ds rest (inl e) h =
    subst (λ z. sign_len (z ++ (ds ++ rest)) ≡ length z) (sym e) (sign_len-digits ds rest h)
sign_len-over sign ds rest (inr (inl e)) h =
    subst (λ z. sign_len (z ++ (ds ++ rest)) ≡ length z) (sym e) refl
sign_len-over sign ds rest (inr (inr e)) h =
    subst (λ z. sign_len (z ++ (ds ++ rest)) ≡ length z) (sym e) refl

point_over : (ds rest : List ℕ) → IsDigits ds
    → part_len point (point ∷ (ds ++ rest)) ≡ 1 + (length ds + digits_len rest)
unfolding part_len
point_over ds rest h =
    ap (λ n. with_digits 1 n) (digits_over ds rest h)
    ∙ with_some 1 (length ds + digits_len rest)
    (let some = some_length ds h.1 in omega (arith, some))

slash_over : (ds rest : List ℕ) → IsDigits ds
    → part_len slash (slash ∷ (ds ++ rest)) ≡ 1 + (length ds + digits_len rest)
unfolding part_len
slash_over ds rest h =
    ap (λ n. with_digits 1 n) (digits_over ds rest h)
    ∙ with_some 1 (length ds + digits_len rest)
    (let some = some_length ds h.1 in omega (arith, some))

exponent_over : (e : ℕ) (sign ds rest : List ℕ) → is_e e ≡ true → IsSign sign → IsDigits ds
    → length (e ∷ (sign ++ ds)) ≤ exponent_len (e ∷ (sign ++ (ds ++ rest)))
unfolding exponent_len
exponent_over e sign ds rest i s h =
    let text : List ℕ = e ∷ (sign ++ (ds ++ rest)) in
    let sized : sign_len (sign ++ (ds ++ rest)) ≡ length sign = sign_len-over sign ds rest s h in
    let left : drop (1 + length sign) text ≡ ds ++ rest
    = drop-front text (e ∷ sign) (ds ++ rest) (1 + length sign) refl (omega arith) in
    let some = some_length ds h.1 in
    let found : exponent_len text ≡ 1 + length sign + (length ds + digits_len rest) =
    ap (λ v. if v then exponent_of (sign_len (drop 1 text)) text else 0) i
    ∙ ap (λ n. exponent_of n text) sized
    ∙ ap (λ z. with_digits (1 + length sign) (digits_len z)) left
    ∙ ap (λ n. with_digits (1 + length sign) n) (digits_over ds rest h)
    ∙ with_some (1 + length sign) (length ds + digits_len rest) (omega (arith, some)) in
    let all : length (sign ++ ds) ≡ length sign + length ds = length-append sign ds in
    omega (arith, found, all)

-- an exponent in front is found, behind digits and behind a fraction
record Exponent (exponent rest : List ℕ) : Type 0 where
  pub stops : digits_len (exponent ++ rest) ≡ 0
  pub found : length exponent ≤ exponent_len (exponent ++ rest)
  pub alone : tail_len (exponent ++ rest) ≡ exponent_len (exponent ++ rest)

exponent_found : (e : ℕ) (sign ds rest : List ℕ) → is_e e ≡ true → IsSign sign → IsDigits ds
    → length (e ∷ (sign ++ ds)) ≤ exponent_len (e ∷ ((sign ++ ds) ++ rest))
exponent_found e sign ds rest i s h =
    subst (λ z. length (e ∷ (sign ++ ds)) ≤ exponent_len (e ∷ z)) (sym (append_assoc sign ds rest))
    (exponent_over e sign ds rest i s h)

exponent_there : (e : ℕ) (sign ds rest : List ℕ) → (e ≡ 69) ⊎ (e ≡ 101) → IsSign sign
    → IsDigits ds → Exponent (e ∷ (sign ++ ds)) rest
unfolding tail_len part_len
exponent_there e sign ds rest (inl i) s h =
    subst (λ z. Exponent (z ∷ (sign ++ ds)) rest) (sym i)
    (record { stops = refl; found = exponent_found 69 sign ds rest refl s h; alone = omega arith })
exponent_there e sign ds rest (inr i) s h =
    subst (λ z. Exponent (z ∷ (sign ++ ds)) rest) (sym i)
    (record { stops = refl; found = exponent_found 101 sign ds rest refl s h; alone = omega arith })

-- what follows a number's first digits is found, and begins with no digit
record Follows (tail rest : List ℕ) : Type 0 where
  pub stops : digits_len (tail ++ rest) ≡ 0
  pub found : length tail ≤ tail_len (tail ++ rest)

exponent_follows : (exponent rest : List ℕ) → Exponent exponent rest → Follows exponent rest
exponent_follows exponent rest h =
    record { stops = h.stops; found = omega (arith, h.found, h.alone) }

ratio_follows : (ds rest : List ℕ) → IsDigits ds → Follows (slash ∷ ds) rest
unfolding tail_len
ratio_follows ds rest h = record {
  stops = refl;
  found =
      let text : List ℕ = slash ∷ (ds ++ rest) in
      let over = slash_over ds rest h in
      let some = not_zero (part_len slash text) (omega (arith, over)) in
      let is : tail_len text ≡ part_len slash text =
      ap (λ v. if v then decimal_len (part_len point text) text else part_len slash text) some in
      omega (arith, over, is);
}

point_is : (text : List ℕ) → tail_len (point ∷ text)
    ≡ part_len point (point ∷ text) + exponent_len
    (drop (part_len point (point ∷ text)) (point ∷ text))
unfolding tail_len part_len
point_is text = refl

-- a fraction, and then an exponent or none
decimal_found : (ds exponent rest : List ℕ) → IsDigits ds
    → (exponent ≡ []) ⊎ Exponent exponent rest
    → length (point ∷ (ds ++ exponent)) ≤ tail_len (point ∷ (ds ++ (exponent ++ rest)))
decimal_found ds exponent rest h (inl e) =
    subst (λ z. length (point ∷ (ds ++ z)) ≤ tail_len (point ∷ (ds ++ (z ++ rest)))) (sym e)
    (let over = point_over ds rest h in
    let is = point_is (ds ++ rest) in
    let short : length (ds ++ []) ≡ length ds = ap length (append-nil ds) in
    omega (arith, over, is, short))
decimal_found ds exponent rest h (inr x) =
    let text : List ℕ = point ∷ (ds ++ (exponent ++ rest)) in
    let over : part_len point text ≡ 1 + length ds
    = point_over ds (exponent ++ rest) h ∙ (let stops = x.stops in omega (arith, stops)) in
    let left : drop (part_len point text) text ≡ exponent ++ rest =
    drop-front text (point ∷ ds) (exponent ++ rest) (part_len point text) refl
    (omega (arith, over)) in
    let is = point_is (ds ++ (exponent ++ rest)) in
    let more : exponent_len (drop (part_len point text) text) ≡ exponent_len (exponent ++ rest)
    = ap exponent_len left in
    let all : length (ds ++ exponent) ≡ length ds + length exponent = length-append ds exponent in
    omega (arith, over, is, more, x.found, all)

point_follows : (ds exponent rest : List ℕ) → IsDigits ds
    → (exponent ≡ []) ⊎ Exponent exponent rest → Follows (point ∷ (ds ++ exponent)) rest
point_follows ds exponent rest h x = record {
  stops = refl;
  found = subst (λ z. length (point ∷ (ds ++ exponent)) ≤ tail_len (point ∷ z))
      (sym (append_assoc ds exponent rest)) (decimal_found ds exponent rest h x);
}

exponent_or_none : (exponent rest : List ℕ) → IsExponent exponent
    → (exponent ≡ []) ⊎ Exponent exponent rest
exponent_or_none exponent rest (inl e) = inl e
exponent_or_none exponent rest (inr (e, sign, ds, which, s, h, is)) =
    inr (subst (λ z. Exponent z rest) (sym is) (exponent_there e sign ds rest which s h))

tail_or_none : (tail rest : List ℕ) → IsTail tail → (tail ≡ []) ⊎ Follows tail rest
tail_or_none tail rest (inl (ds, h, is)) =
    inr (subst (λ z. Follows z rest) (sym is) (ratio_follows ds rest h))
tail_or_none tail rest (inr (fraction, exponent, inl e, x, is)) =
    go (exponent_or_none exponent rest x)
  where
    same : tail ≡ exponent
    same = is ∙ ap (λ z. z ++ exponent) e

    go : (exponent ≡ []) ⊎ Exponent exponent rest → (tail ≡ []) ⊎ Follows tail rest
    go (inl k) = inl (same ∙ k)
    go (inr k) = inr (subst (λ z. Follows z rest) (sym same) (exponent_follows exponent rest k))
tail_or_none tail rest (inr (fraction, exponent, inr (ds, h, e), x, is)) =
    inr (subst (λ z. Follows z rest) (sym (is ∙ ap (λ z. z ++ exponent) e))
    (point_follows ds exponent rest h (exponent_or_none exponent rest x)))

-- a number of at least so many bytes
abbrev pub AtLeast : List ℕ → ℕ → Type 0
AtLeast text m = (n : ℕ) × (number_at text ≡ piece.Word Number n) × (m ≤ n)

number_is : (text : List ℕ) (sign count : ℕ) → sign_len text ≡ sign
    → digits_len (drop sign text) ≡ count → 1 ≤ count
    → number_at text ≡ piece.Word Number (sign + count + tail_len (drop (sign + count) text))
unfolding number_at
number_is text sign count s d h =
    ap (λ n. number_with n text) s ∙ ap (λ n. number_of sign n text) d
    ∙ ap (λ v. if v then piece.Bad 0
    else piece.Word Number (sign + count + tail_len (drop (sign + count) text))) (not_zero count h)

pub number_over : (sign ds tail rest : List ℕ) → IsSign sign → IsDigits ds → IsTail tail
    → AtLeast (sign ++ (ds ++ (tail ++ rest))) (length sign + length ds + length tail)
number_over sign ds tail rest s h t = go (tail_or_none tail rest t)
  where
    text : List ℕ
    text = sign ++ (ds ++ (tail ++ rest))

    count : ℕ
    count = length ds + digits_len (tail ++ rest)

    some : 1 ≤ count
    some = let k = some_length ds h.1 in omega (arith, k)

    counted : digits_len (drop (length sign) text) ≡ count
    counted = ap digits_len (drop-front text sign (ds ++ (tail ++ rest)) (length sign) refl refl)
        ∙ digits_over ds (tail ++ rest) h

    is : number_at text
        ≡ piece.Word Number (length sign + count + tail_len (drop (length sign + count) text))
    is = number_is text (length sign) count (sign_len-over sign ds (tail ++ rest) s h) counted some

    go : (tail ≡ []) ⊎ Follows tail rest
        → AtLeast text (length sign + length ds + length tail)
    go (inl e) = (_, is, (let none : length tail ≡ 0 = ap length e in omega (arith, none)))
    go (inr f) =
        let same : length sign + count ≡ length sign + length ds
        = (let stops = f.stops in omega (arith, stops)) in
        let left : drop (length sign + count) text ≡ tail ++ rest =
        ap (λ n. drop n text) same
        ∙ drop-twice text sign (ds ++ (tail ++ rest)) ds (tail ++ rest) refl refl in
        let more : tail_len (drop (length sign + count) text) ≡ tail_len (tail ++ rest)
        = ap tail_len left in
        (_, is, omega (arith, f.found, more, f.stops))
