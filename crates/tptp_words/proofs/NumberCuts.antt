-- What is taken for a number at the front of a text spells one.
use Rattle.std.proofs.Common.{◌≡◌, ℕ, ◌+◌, ◌⊎◌, inl, inr, Bool, true, false, ◌||◌, ◌==◌}
use Rattle.std.proofs.Common.{if◌then◌else◌, List, [], ◌∷◌, ◌++◌, length, drop, refl, sym, ◌∙◌, ap}
use Rattle.std.proofs.Common.{subst, arith, append_assoc, length-append}
use Rattle.std.proofs.lemmas.Bool.{eqb-true}
use Rattle.std.specs.Char.{is_ascii_digit}
use Rattle.tptp_words.specs.declared.word.WordKind.TheVariants.{Number}
use Rattle.tptp_words.specs.declared.piece.Piece.{Piece}
use Rattle.tptp_words.specs.declared.piece.Piece.TheVariants as piece
use Rattle.tptp_words.specs.Text.{AllPass, IsDigits, IsSign, IsFraction, IsExponent, IsTail, Spells}
use Rattle.tptp_words.specs.Text.{slash, point}
use Rattle.tptp_words.specs.Scanning.{sign_len, digits_len, with_digits, part_len, is_e}
use Rattle.tptp_words.specs.Scanning.{exponent_of, exponent_len, decimal_len, tail_len, number_of}
use Rattle.tptp_words.specs.Scanning.{number_at}
use Rattle.tptp_words.proofs.Passes.{Cut, drop-front, drop-twice, cut_passing, some_by_length}

-- a piece that is a word, or the first byte, which begins none
abbrev pub Takes : List ℕ → Piece → Type 0
Takes text piece.End = ⊥
Takes text (piece.Gap n) = ⊥
Takes text (piece.Word kind n) = Cut (Spells kind) text n
Takes text (piece.Bad n) = n ≡ 0
Takes text piece.Open = ⊥

nothing : (P : List ℕ → Type 0) (text : List ℕ) → P [] → Cut P text 0
nothing P text h = record { front = []; rest = text; is = refl; size = refl; holds = h }

cut_sign : (text : List ℕ) → Cut IsSign text (sign_len text)
cut_sign [] = nothing IsSign [] (inl refl)
cut_sign (b ∷ text) = go (b == 43) (b == 45) refl refl
  where
    go : (v w : Bool) → (b == 43) ≡ v → (b == 45) ≡ w
        → Cut IsSign (b ∷ text) (if v || w then 1 else 0)
    go true w e f = record {
      front = b ∷ [];
      rest = text;
      is = refl;
      size = refl;
      holds = inr (inl (ap (λ z. z ∷ []) (eqb-true b 43 e)));
    }
    go false true e f = record {
      front = b ∷ [];
      rest = text;
      is = refl;
      size = refl;
      holds = inr (inr (ap (λ z. z ∷ []) (eqb-true b 45 f)));
    }
    go false false e f = nothing IsSign (b ∷ text) (inl refl)

-- nothing, or this byte and digits
abbrev IsPart : ℕ → List ℕ → Type 0
IsPart byte s = (s ≡ []) ⊎ ((ds : List ℕ) × IsDigits ds × (s ≡ byte ∷ ds))

cut_part : (byte : ℕ) → (0 == byte) ≡ false → (text : List ℕ)
    → Cut (IsPart byte) text (part_len byte text)
unfolding part_len
cut_part byte differs [] =
    subst (λ v. Cut (IsPart byte) [] (if v then with_digits 1 (digits_len []) else 0)) (sym differs)
    (nothing (IsPart byte) [] (inl refl))
cut_part byte differs (b ∷ rest) = go (b == byte) refl
  where
    counted : (b == byte) ≡ true → (v : Bool) → (digits_len rest == 0) ≡ v
        → Cut (IsPart byte) (b ∷ rest) (if v then 0 else 1 + digits_len rest)
    counted e true f = nothing (IsPart byte) (b ∷ rest) (inl refl)
    counted e false f =
        let c = cut_passing is_ascii_digit rest in
        record {
          front = b ∷ c.front;
          rest = c.rest;
          is = ap (λ z. b ∷ z) c.is;
          size = omega (arith, c.size);
          holds = inr (
            c.front,
            (c.holds, some_by_length c.front (digits_len rest) c.size f),
            ap (λ z. z ∷ c.front) (eqb-true b byte e),
          );
        }

    go : (v : Bool) → (b == byte) ≡ v
        → Cut (IsPart byte) (b ∷ rest) (if v then with_digits 1 (digits_len rest) else 0)
    go true e = counted e (digits_len rest == 0) refl
    go false e = nothing (IsPart byte) (b ∷ rest) (inl refl)

e_is : (b : ℕ) → is_e b ≡ true → (b ≡ 69) ⊎ (b ≡ 101)
e_is b e = go (b == 69) (b == 101) refl refl e
  where
    go : (v w : Bool) → (b == 69) ≡ v → (b == 101) ≡ w → (v || w) ≡ true → (b ≡ 69) ⊎ (b ≡ 101)
    go true w f g h = inl (eqb-true b 69 f)
    go false true f g h = inr (eqb-true b 101 g)
    go false false f g h = absurd (cc h)

cut_exponent : (text : List ℕ) → Cut IsExponent text (exponent_len text)
unfolding exponent_len
cut_exponent [] = nothing IsExponent [] (inl refl)
cut_exponent (b ∷ text) = go (is_e b) refl
  where
    s : Cut IsSign text (sign_len text)
    s = cut_sign text

    c : Cut (AllPass is_ascii_digit) s.rest (digits_len s.rest)
    c = cut_passing is_ascii_digit s.rest

    left : drop (1 + sign_len text) (b ∷ text) ≡ s.rest
    left = drop-front (b ∷ text) (b ∷ s.front) s.rest (1 + sign_len text) (ap (λ z. b ∷ z) s.is)
        (omega (arith, s.size))

    counted : is_e b ≡ true → (v : Bool) → (digits_len s.rest == 0) ≡ v
        → Cut IsExponent (b ∷ text) (if v then 0 else 1 + sign_len text + digits_len s.rest)
    counted e true f = nothing IsExponent (b ∷ text) (inl refl)
    counted e false f = record {
      front = b ∷ (s.front ++ c.front);
      rest = c.rest;
      is = ap (λ z. b ∷ z)
          (s.is ∙ ap (λ z. s.front ++ z) c.is ∙ sym (append_assoc s.front c.front c.rest));
      size = let all = length-append s.front c.front in omega (arith, s.size, c.size, all);
      holds = inr (
        b,
        s.front,
        c.front,
        e_is b e,
        s.holds,
        (c.holds, some_by_length c.front (digits_len s.rest) c.size f),
        refl,
      );
    }

    go : (v : Bool) → is_e b ≡ v
        → Cut IsExponent (b ∷ text) (if v then exponent_of (sign_len text) (b ∷ text) else 0)
    go true e = subst (λ z. Cut IsExponent (b ∷ text)
        (with_digits (1 + sign_len text) (digits_len z)))
        (sym left) (counted e (digits_len s.rest == 0) refl)
    go false e = nothing IsExponent (b ∷ text) (inl refl)

cut_tail : (text : List ℕ) → Cut IsTail text (tail_len text)
unfolding tail_len
cut_tail text = go (part_len slash text == 0) refl
  where
    r : Cut (IsPart slash) text (part_len slash text)
    r = cut_part slash refl text

    f : Cut IsFraction text (part_len point text)
    f = cut_part point refl text

    x : Cut IsExponent f.rest (exponent_len f.rest)
    x = cut_exponent f.rest

    left : drop (part_len point text) text ≡ f.rest
    left = drop-front text f.front f.rest (part_len point text) f.is f.size

    decimal : Cut IsTail text (part_len point text + exponent_len f.rest)
    decimal = record {
      front = f.front ++ x.front;
      rest = x.rest;
      is = f.is ∙ ap (λ z. f.front ++ z) x.is ∙ sym (append_assoc f.front x.front x.rest);
      size = let all = length-append f.front x.front in omega (arith, f.size, x.size, all);
      holds = inr (f.front, x.front, f.holds, x.holds, refl);
    }

    ratio : (part_len slash text == 0) ≡ false → IsPart slash r.front → IsTail r.front
    ratio e (inl none) =
        let k : part_len slash text ≡ 0 = sym r.size ∙ ap length none in
        absurd (cc (e, ap (λ m. m == 0) k))
    ratio e (inr there) = inl there

    go : (v : Bool) → (part_len slash text == 0) ≡ v
        → Cut IsTail text (if v then decimal_len (part_len point text) text
        else part_len slash text)
    go true e =
        subst (λ z. Cut IsTail text (part_len point text + exponent_len z)) (sym left) decimal
    go false e = record {
      front = r.front;
      rest = r.rest;
      is = r.is;
      size = r.size;
      holds = ratio e r.holds;
    }

pub number_takes : (text : List ℕ) → Takes text (number_at text)
unfolding number_at
number_takes text = subst (λ z. Takes text (number_of (sign_len text) (digits_len z) text))
    (sym left)
    (go (digits_len s.rest == 0) refl)
  where
    s : Cut IsSign text (sign_len text)
    s = cut_sign text

    c : Cut (AllPass is_ascii_digit) s.rest (digits_len s.rest)
    c = cut_passing is_ascii_digit s.rest

    t : Cut IsTail c.rest (tail_len c.rest)
    t = cut_tail c.rest

    left : drop (sign_len text) text ≡ s.rest
    left = drop-front text s.front s.rest (sign_len text) s.is s.size

    behind : drop (sign_len text + digits_len s.rest) text ≡ c.rest
    behind = ap (λ n. drop n text) (omega (arith, s.size, c.size))
        ∙ drop-twice text s.front s.rest c.front c.rest s.is c.is

    found : (digits_len s.rest == 0) ≡ false
        → Cut (Spells Number) text (sign_len text + digits_len s.rest + tail_len c.rest)
    found e = record {
      front = (s.front ++ c.front) ++ t.front;
      rest = t.rest;
      is = s.is ∙ ap (λ z. s.front ++ z) (c.is ∙ ap (λ z. c.front ++ z) t.is)
          ∙ sym (append_assoc s.front c.front (t.front ++ t.rest))
          ∙ sym (append_assoc (s.front ++ c.front) t.front t.rest);
      size =
          let all = length-append (s.front ++ c.front) t.front in
          let two = length-append s.front c.front in
          omega (arith, s.size, c.size, t.size, all, two);
      holds = (
        s.front,
        c.front,
        t.front,
        s.holds,
        (c.holds, some_by_length c.front (digits_len s.rest) c.size e),
        t.holds,
        refl,
      );
    }

    go : (v : Bool) → (digits_len s.rest == 0) ≡ v
        → Takes text (if v then piece.Bad 0 else piece.Word Number
        (sign_len text + digits_len s.rest
        + tail_len (drop (sign_len text + digits_len s.rest) text)))
    go true e = refl
    go false e = subst (λ z. Cut (Spells Number) text
        (sign_len text + digits_len s.rest + tail_len z)) (sym behind) (found e)
