-- The words that are written are spelled, and name what they are written for.
use Rattle.std.proofs.Common.{◌≡◌, ℕ, ◌+◌, ◌%◌, ◌<◌, inl, inr, Bool, true, false, ◌||◌, ◌==◌}
use Rattle.std.proofs.Common.{if◌then◌else◌, List, [], ◌∷◌, ◌++◌, Option, Some, None, refl, sym}
use Rattle.std.proofs.Common.{◌∙◌, ap, subst, arith}
use Rattle.std.specs.Prelude.{◌^◌, codes}
use Rattle.std.specs.List.{list_all}
use Rattle.std.specs.Fmt.{decimal}
use Rattle.std.specs.Char.{is_ascii_lowercase, is_ascii_digit}
use Rattle.std.proofs.lemmas.Fmt.{decimal_by_steps}
use Rattle.std.proofs.lemmas.Bool.{and_parts}
use Rattle.std.proofs.lemmas.Bool.Decides.{nat_tests}
use Rattle.enc_base.specs.Names.{IsWritable}
use Rattle.tptp_words.specs.declared.word.WordKind.{WordKind}
use Rattle.tptp_words.specs.declared.word.WordKind.TheVariants.{Lower, Upper, Quoted, Distinct}
use Rattle.tptp_words.specs.declared.word.WordKind.TheVariants.{Dollar, System, Number, Mark}
use Rattle.tptp_words.specs.Text.{Token, is_blank, is_name, AllPass, IsNameFrom, IsDigits}
use Rattle.tptp_words.specs.Text.{in_quotes, escaped}
use Rattle.tptp_words.specs.Words.{same, unescaped, name, variable}
use Rattle.tptp_syntax.specs.Strays.{label}
use Rattle.tptp_words.specs.Layout.{written}
use Rattle.tptp_words.proofs.Longest.{Name, Digits, Tilde, Done, or_die, Ends, lower_run, upper_run}
use Rattle.tptp_words.proofs.Longest.{quoted_run, digits_run}
use Rattle.tptp_words.proofs.ReadBack as back
pub use Rattle.tptp_syntax.proofs.WritableNames.{some_bytes-writable, passes-writable}
use Rattle.fof_text.specs.Written.{Writer, is_lower, name_word, label_word, variable_name}
use Rattle.fof_text.specs.Written.{variable_word, before, after, before_of, after_of, is_between}

-- ---- gaps

pub blank_before : (w : Token) → AllPass is_blank (before w)
blank_before w = go w.kind w.spelling
  where
    choose : (v : Bool) → AllPass is_blank (if v then codes " " else [])
    choose true = (refl, tt)
    choose false = tt

    go : (k : WordKind) (s : List ℕ) → AllPass is_blank (before_of k s)
    go Lower s = tt
    go Upper s = tt
    go Quoted s = tt
    go Distinct s = tt
    go Dollar s = tt
    go System s = tt
    go Number s = tt
    go Mark s = choose (is_between s)

pub blank_after : (w : Token) → AllPass is_blank (after w)
blank_after w = go w.kind w.spelling
  where
    choose : (v u : Bool) → AllPass is_blank (if v then codes " " else if u then codes "\n" else [])
    choose true u = (refl, tt)
    choose false true = (refl, tt)
    choose false false = tt

    go : (k : WordKind) (s : List ℕ) → AllPass is_blank (after_of k s)
    go Lower s = tt
    go Upper s = tt
    go Quoted s = tt
    go Distinct s = tt
    go Dollar s = tt
    go System s = tt
    go Number s = tt
    go Mark s = choose (is_between s || same s (codes ":")) (same s (codes "."))

-- ---- names

pub all_pass : (p : ℕ → Bool) (bs : List ℕ) → list_all p bs ≡ true → AllPass p bs
all_pass p [] h = tt
all_pass p (b ∷ bs) h = let hs = and_parts _ _ h in (hs.0, all_pass p bs hs.1)

lower_spelled : (n : List ℕ) → is_lower n ≡ true → IsNameFrom is_ascii_lowercase n
lower_spelled [] h = absurd (cc h)
lower_spelled (b ∷ bs) h = let hs = and_parts _ _ h in (hs.0, all_pass is_name bs hs.1)

unescapes : (bs rest : List ℕ) → unescaped 39 false (escaped 39 bs ++ 39 ∷ rest) ≡ bs
unescapes [] rest = refl
unescapes (b ∷ bs) rest = go (b == 39) (b == 92) refl refl (unescapes bs rest)
  where
    go : (v w : Bool) → (b == 39) ≡ v → (b == 92) ≡ w
        → unescaped 39 false (escaped 39 bs ++ 39 ∷ rest) ≡ bs
        → unescaped 39 false ((if v || w then 92 ∷ b ∷ escaped 39 bs
        else b ∷ escaped 39 bs) ++ 39 ∷ rest) ≡ b ∷ bs
    go true w e f k = ap (λ z. b ∷ z) k
    go false true e f k = ap (λ z. b ∷ z) k
    go false false e f k =
        ap (λ x. if x then unescaped 39 true (escaped 39 bs ++ 39 ∷ rest) else if b == 39 then []
        else b ∷ unescaped 39 false (escaped 39 bs ++ 39 ∷ rest)) f
        ∙ ap (λ x. if x then [] else b ∷ unescaped 39 false (escaped 39 bs ++ 39 ∷ rest)) e
        ∙ ap (λ z. b ∷ z) k

-- where a word may end: at bytes that end names and numbers
pub record Stops (bs : List ℕ) : Type 0 where
  pub name : Ends Name bs
  pub digits : Ends Digits bs
  pub done : Ends Done bs

pub done_ends : (bs : List ℕ) → Ends Done bs
done_ends [] = tt
done_ends (b ∷ bs) = refl

-- the words read back
abbrev pub Joined : List Token → Type 0
Joined = back.Joined before after blank_before blank_after

abbrev pub text : List Token → List ℕ
text = written before after

-- words that this writer writes are joined to what follows, where names may end there, and a `~` may stand before them
pub record Joins (w : Writer) : Type 0 where
  pub joined : (rest : List Token) → Joined rest → Stops (text rest) → Joined (w rest)
  pub begins : (rest : List Token) → Ends Tilde (text (w rest))

-- a word that stands for this name
pub record Names (w : Token) (n : List ℕ) (reads : Token → Option (List ℕ)) : Type 0 where
  pub joins : Joins (λ rest. w ∷ rest)
  pub says : reads w ≡ Some n

lower_no_mark : (b : ℕ) → is_ascii_lowercase b ≡ true → (b == 38 || b == 124) ≡ false
lower_no_mark b e = grind (arith, nat_tests)

lower_begins : (n bs : List ℕ) → IsNameFrom is_ascii_lowercase n → Ends Tilde (n ++ bs)
lower_begins [] bs h = absurd h
lower_begins (b ∷ n) bs h = ap (λ v. or_die v Done) (lower_no_mark b h.0)

digit_no_mark : (b : ℕ) → is_ascii_digit b ≡ true → (b == 38 || b == 124) ≡ false
digit_no_mark b e = grind (arith, nat_tests)

digits_begin : (n bs : List ℕ) → IsDigits n → Ends Tilde (n ++ bs)
digits_begin [] bs h = absurd (cc h.1)
digits_begin (b ∷ n) bs h = ap (λ v. or_die v Done) (digit_no_mark b h.0.0)

lower_joins : (n : List ℕ) → IsNameFrom is_ascii_lowercase n
    → Joins (λ rest. record { kind = Lower; spelling = n } ∷ rest)
lower_joins n h = record {
  joined = λ rest j s. (h, subst (λ q. Ends q (text rest)) (sym (lower_run n h)) s.name, j);
  begins = λ rest. lower_begins n (text rest) h;
}

quoted_joins : (n : List ℕ) → IsWritable n
    → Joins (λ rest. record { kind = Quoted; spelling = in_quotes 39 n } ∷ rest)
quoted_joins n h = record {
  joined = λ rest j s. (
    (n, passes-writable n h, some_bytes-writable n h, refl),
    subst (λ q. Ends q (text rest))
        (sym (quoted_run n)) s.done,
    j,
  );
  begins = λ rest. refl;
}

pub name_is : (n : List ℕ) → IsWritable n → Names (name_word n) n name
name_is n h = go (is_lower n) refl
  where
    go : (v : Bool) → is_lower n ≡ v
        → Names (if v then record { kind = Lower; spelling = n }
        else record { kind = Quoted; spelling = in_quotes 39 n }) n name
    go true e = record { joins = lower_joins n (lower_spelled n e); says = refl }
    go false e = record { joins = quoted_joins n h; says = ap (λ z. Some z) (unescapes n []) }

append_nil : (xs : List ℕ) → xs ++ [] ≡ xs
append_nil [] = refl
append_nil (x ∷ xs) = ap (λ z. x ∷ z) (append_nil xs)

number_joins : (n : List ℕ) → IsDigits n
    → Joins (λ rest. record { kind = Number; spelling = n } ∷ rest)
number_joins n h = record {
  joined = λ rest j s. (
    (
      [],
      n,
      [],
      inl refl,
      h,
      inr ([], [], inl refl, inl refl, refl),
      sym
          (append_nil n),
    ),
    subst (λ q. Ends q (text rest)) (sym (digits_run n h)) s.digits,
    j,
  );
  begins = λ rest. digits_begin n (text rest) h;
}

pub label_is : (n : List ℕ) → IsWritable n → Names (label_word n) n label
label_is n h = go (is_lower n) (list_all is_ascii_digit n) refl refl
  where
    go : (v w : Bool) → is_lower n ≡ v → list_all is_ascii_digit n ≡ w
        → Names (if v then record { kind = Lower; spelling = n }
        else if w then record { kind = Number; spelling = n }
        else record { kind = Quoted; spelling = in_quotes 39 n }) n label
    go true w e f = record { joins = lower_joins n (lower_spelled n e); says = refl }
    go false true e f = record {
      joins = number_joins n (all_pass is_ascii_digit n f, some_bytes-writable n h);
      says =
          ap (λ v. if v then Some n else None) f;
    }
    go false false e f = record {
      joins = quoted_joins n h;
      says =
          ap (λ z. Some z) (unescapes n []);
    }

-- ---- variables

digit_is_name : (k : ℕ) → k < 10 → is_name (48 + k) ≡ true
digit_is_name k l = grind (arith, nat_tests)

pass_last : (p : ℕ → Bool) (bs : List ℕ) (b : ℕ) → AllPass p bs → p b ≡ true
    → AllPass p (bs ++ b ∷ [])
pass_last p [] b h e = (e, tt)
pass_last p (c ∷ bs) b h e = (h.0, pass_last p bs b h.1 e)

decimal_name : (d : ℕ) → d < 2 ^ 64 → AllPass is_name (decimal d)
decimal_name = decimal_by_steps (λ n ds. AllPass is_name ds) (λ n l. (digit_is_name n l, tt))
    (λ n ds l h. pass_last is_name ds (48 + n % 10) h (digit_is_name (n % 10) (omega arith)))

pub variable_is : (d : ℕ) → d < 2 ^ 64 → Names (variable_word d) (variable_name d) variable
variable_is d l = record {
  joins = record {
    joined = λ rest j s. (
      (refl, decimal_name d l),
      subst (λ q. Ends q (text rest))
          (sym (upper_run (variable_name d) (refl, decimal_name d l))) s.name,
      j,
    );
    begins = λ rest. refl;
  };
  says = refl;
}
