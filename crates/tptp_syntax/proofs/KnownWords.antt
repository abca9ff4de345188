-- What is known of a word that passes a test, and the tests that no word passes both.
use Rattle.std.proofs.Common.{◌≡◌, ℕ, List, [], ◌∷◌, Bool, true, false, ◌||◌, Option, Some, None}
use Rattle.std.proofs.Common.{is_some, refl, sym, subst, if◌then◌else◌, ◌==◌}
use Rattle.std.proofs.lemmas.Bool.{eqb-true}
use Rattle.tptp_words.specs.declared.word.WordKind.{WordKind}
use Rattle.tptp_words.specs.declared.word.WordKind.TheVariants as kind
use Rattle.tptp_words.specs.Text.{Token}
use Rattle.tptp_words.specs.Words.{same, only, name, name_of, variable, variable_of, mark, mark_of}
use Rattle.tptp_words.specs.Words.{keyword, keyword_of, dollar, dollar_of}
use Rattle.tptp_phrases.specs.Readers.{takes}
use Rattle.tptp_phrases.proofs.Outcomes.{Apart, Inside, Within, StraysApart}
use Rattle.std.specs.Prelude.{codes}
use Rattle.tptp_syntax.specs.declared.language.Connective.{Connective}
use Rattle.tptp_syntax.specs.declared.language.Connective.TheVariants as c
use Rattle.tptp_syntax.specs.Strays.{Stray, connective, connective_of, only_if}

abbrev pub token : WordKind → List ℕ → Token
token k s = record { kind = k; spelling = s }

pub same_texts : (s m : List ℕ) → same s m ≡ true → s ≡ m
same_texts [] [] e = refl
same_texts [] (b ∷ m) e = cc e
same_texts (a ∷ s) [] e = cc e
same_texts (a ∷ s) (b ∷ m) e = go (a == b) refl (same_texts s m) e
  where
    go : (t : Bool) → (a == b) ≡ t → (same s m ≡ true → s ≡ m)
        → (if t then same s m else false) ≡ true → a ∷ s ≡ b ∷ m
    go false k f h = cc h
    go true k f h = let first = eqb-true a b k in let rest = f h in cc (first, rest)

only_true : (b : Bool) → is_some (only b) ≡ true → b ≡ true
only_true true e = refl
only_true false e = cc e

-- ---- words of a test, by what they are

pub by_mark : (m : List ℕ) (P : Token → Type 0) → P (token kind.Mark m) → (w : Token)
    → takes (mark m) w ≡ true → P w
by_mark m P h w e = go w.kind w.spelling e
  where
    go : (k : WordKind) (s : List ℕ) → is_some (mark_of m k s) ≡ true → P (token k s)
    go kind.Mark s e =
        subst (λ z. P (token kind.Mark z)) (sym (same_texts s m (only_true (same s m) e))) h
    go _ s e = absurd (cc e)

pub by_dollar : (m : List ℕ) (P : Token → Type 0) → P (token kind.Dollar m) → (w : Token)
    → takes (dollar m) w ≡ true → P w
by_dollar m P h w e = go w.kind w.spelling e
  where
    go : (k : WordKind) (s : List ℕ) → is_some (dollar_of m k s) ≡ true → P (token k s)
    go kind.Dollar s e =
        subst (λ z. P (token kind.Dollar z)) (sym (same_texts s m (only_true (same s m) e))) h
    go _ s e = absurd (cc e)

pub by_keyword : (m : List ℕ) (P : Token → Type 0) → P (token kind.Lower m) → (w : Token)
    → takes (keyword m) w ≡ true → P w
by_keyword m P h w e = go w.kind w.spelling e
  where
    go : (k : WordKind) (s : List ℕ) → is_some (keyword_of m k s) ≡ true → P (token k s)
    go kind.Lower s e =
        subst (λ z. P (token kind.Lower z)) (sym (same_texts s m (only_true (same s m) e))) h
    go _ s e = absurd (cc e)

pub by_variable : (P : Token → Type 0) → ((s : List ℕ) → P (token kind.Upper s)) → (w : Token)
    → takes variable w ≡ true → P w
by_variable P h w e = go w.kind w.spelling e
  where
    go : (k : WordKind) (s : List ℕ) → is_some (variable_of k s) ≡ true → P (token k s)
    go kind.Upper s e = h s
    go _ s e = absurd (cc e)

pub by_name : (P : Token → Type 0) → ((s : List ℕ) → P (token kind.Lower s))
    → ((s : List ℕ) → P (token kind.Quoted s)) → (w : Token) → takes name w ≡ true → P w
by_name P h q w e = go w.kind w.spelling e
  where
    go : (k : WordKind) (s : List ℕ) → is_some (name_of k s) ≡ true → P (token k s)
    go kind.Lower s e = h s
    go kind.Quoted s e = q s
    go _ s e = absurd (cc e)

pub by_connective : (P : Token → Type 0) → P (token kind.Mark (codes "=>"))
    → P (token kind.Mark (codes "<=")) → P (token kind.Mark (codes "<=>"))
    → P (token kind.Mark (codes "<~>")) → P (token kind.Mark (codes "~&"))
    → P (token kind.Mark (codes "~|")) → (w : Token) → takes connective w ≡ true → P w
by_connective P implies if_ iff xor nand nor w e = go w.kind w.spelling e
  where
    is : (s m : List ℕ) → P (token kind.Mark m) → same s m ≡ true → P (token kind.Mark s)
    is s m h k = subst (λ z. P (token kind.Mark z)) (sym (same_texts s m k)) h

    one : (s : List ℕ) (b : Bool) (x : Option Connective) (c : Connective) (m : List ℕ)
        → same s m ≡ b → P (token kind.Mark m) → is_some (if b then Some c else x) ≡ true
        → (is_some x ≡ true → P (token kind.Mark s)) → P (token kind.Mark s)
    one s true x c m e h k f = is s m h e
    one s false x c m e h k f = f k

    last : (s : List ℕ) (b : Bool) (c : Connective) (m : List ℕ) → same s m ≡ b
        → P (token kind.Mark m) → is_some (only_if b c) ≡ true → P (token kind.Mark s)
    last s true c m e h k = is s m h e
    last s false c m e h k = absurd (cc k)

    go : (k : WordKind) (s : List ℕ) → is_some (connective_of k s) ≡ true → P (token k s)
    go kind.Mark s e =
        one s (same s (codes "=>")) _ c.Implies (codes "=>") refl implies e (λ e.
        one s (same s (codes "<=")) _ c.If (codes "<=") refl if_ e (λ e.
        one s (same s (codes "<=>")) _ c.Iff (codes "<=>") refl iff e (λ e.
        one s (same s (codes "<~>")) _ c.Xor (codes "<~>") refl xor e (λ e.
        one s (same s (codes "~&")) _ c.Nand (codes "~&") refl nand e (λ e.
        last s (same s (codes "~|")) c.Nor (codes "~|") refl nor e)))))
    go _ s e = absurd (cc e)

-- ---- tests

pub mark_apart : (m : List ℕ) (c : Token → Bool) → c (token kind.Mark m) ≡ false
    → Apart (takes (mark m)) c
mark_apart m c h = by_mark m (λ w. c w ≡ false) h

pub mark_inside : (m : List ℕ) (c : Token → Bool) → c (token kind.Mark m) ≡ true
    → Inside (takes (mark m)) c
mark_inside m c h = by_mark m (λ w. c w ≡ true) h

pub dollar_apart : (m : List ℕ) (c : Token → Bool) → c (token kind.Dollar m) ≡ false
    → Apart (takes (dollar m)) c
dollar_apart m c h = by_dollar m (λ w. c w ≡ false) h

pub variable_apart : (c : Token → Bool) → ((s : List ℕ) → c (token kind.Upper s) ≡ false)
    → Apart (takes variable) c
variable_apart c h = by_variable (λ w. c w ≡ false) h

pub name_apart : (c : Token → Bool) → ((s : List ℕ) → c (token kind.Lower s) ≡ false)
    → ((s : List ℕ) → c (token kind.Quoted s) ≡ false) → Apart (takes name) c
name_apart c h q = by_name (λ w. c w ≡ false) h q

pub strays_apart : (kind : Token → Option Stray) (t : Token → Bool)
    → ((w : Token) → t w ≡ true → kind w ≡ None) → StraysApart kind t
strays_apart kind t h w k e = go (t w) refl
  where
    go : (b : Bool) → t w ≡ b → t w ≡ false
    go false j = j
    go true j = let none = h w j in absurd (cc (none, e))

-- ---- alternatives of tests

pub or_none : (a b : Bool) → (a || b) ≡ false → (a ≡ false) × (b ≡ false)
or_none true b e = absurd (cc e)
or_none false b e = (refl, e)

pub or_one : (a b : Bool) → a ≡ true → (a || b) ≡ true
or_one true b e = refl
or_one false b e = cc e

pub or_other : (a b : Bool) → b ≡ true → (a || b) ≡ true
or_other true b e = refl
or_other false b e = e

pub within_second : (t c : Token → Bool) → Within c (λ w. t w || c w)
within_second t c w h = (or_none (t w) (c w) h).1

pub within_first : (t c : Token → Bool) → Within t (λ w. t w || c w)
within_first t c w h = (or_none (t w) (c w) h).0

pub within_self : (c : Token → Bool) → Within c c
within_self c w h = h

pub inside_first : (t c : Token → Bool) → Inside t (λ w. t w || c w)
inside_first t c w h = or_one (t w) (c w) h

pub apart_or : (t u c : Token → Bool) → Apart t c → Apart u c → Apart (λ w. t w || u w) c
apart_or t u c h k w e = go (t w) refl e
  where
    go : (b : Bool) → t w ≡ b → (b || u w) ≡ true → c w ≡ false
    go true j e = h w j
    go false j e = k w e

pub inside_or : (t u c : Token → Bool) → Inside t c → Inside u c → Inside (λ w. t w || u w) c
inside_or t u c h k w e = go (t w) refl e
  where
    go : (b : Bool) → t w ≡ b → (b || u w) ≡ true → c w ≡ true
    go true j e = h w j
    go false j e = k w e
