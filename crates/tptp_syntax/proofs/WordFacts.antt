-- Names, variables and labels of spelled words can be written.
use Rattle.std.proofs.Common.{◌≡◌, ℕ, ◌≤◌, Bool, true, false, ◌&&◌, ◌==◌, if◌then◌else◌}
use Rattle.std.proofs.Common.{List, [], ◌∷◌, ◌++◌, length, Some, None, refl, sym, ap, subst}
use Rattle.std.proofs.Common.{arith, ◌∙◌}
use Rattle.std.proofs.lemmas.Bool.Decides.{nat_tests}
use Rattle.std.specs.Char.{is_ascii_lowercase, is_ascii_uppercase, is_ascii_digit}
use Rattle.std.specs.List.{list_all}
use Rattle.enc_base.specs.Names.{IsWritable}
use Rattle.tptp_words.specs.declared.word.WordKind.{WordKind}
use Rattle.tptp_words.specs.declared.word.WordKind.TheVariants as kind
use Rattle.tptp_words.specs.Text.{Token, AllPass, IsNameFrom, is_name, is_printable, some_bytes}
use Rattle.tptp_words.specs.Text.{Spells, single_quote, backslash, escaped}
use Rattle.tptp_words.specs.Words.{unescaped, content, name_of, name, variable_of, variable}
use Rattle.tptp_words.specs.Words.{digits_of}
use Rattle.tptp_words.proofs.Passes.{pass_weaker}
use Rattle.tptp_words.proofs.Lists.{spelled_some}
use Rattle.tptp_syntax.proofs.WritableNames.{IsWritable-passes}
use Rattle.tptp_syntax.specs.Strays.{label_of, label}

-- the word is spelled as its kind wants it
abbrev pub Spelled : Token → Type 0
Spelled w = Spells w.kind w.spelling

-- ---- bytes

printable_name : (b : ℕ) → is_name b ≡ true → is_printable b ≡ true
printable_name b e = grind (arith, nat_tests)

printable_lowercase : (b : ℕ) → is_ascii_lowercase b ≡ true → is_printable b ≡ true
printable_lowercase b e = grind (arith, nat_tests)

printable_uppercase : (b : ℕ) → is_ascii_uppercase b ≡ true → is_printable b ≡ true
printable_uppercase b e = grind (arith, nat_tests)

printable_digit : (b : ℕ) → is_ascii_digit b ≡ true → is_printable b ≡ true
printable_digit b e = grind (arith, nat_tests)

-- ---- spellings

name_from : (p : ℕ → Bool) → ((b : ℕ) → p b ≡ true → is_printable b ≡ true) → (s : List ℕ)
    → IsNameFrom p s → IsWritable s
name_from p first [] h = absurd h
name_from p first (b ∷ bs) h =
    IsWritable-passes (b ∷ bs) refl
    (first b h.0, pass_weaker is_name is_printable printable_name bs h.1)

-- what is escaped is read back up to the closing quote
unescaped-escaped : (s rest : List ℕ)
    → unescaped single_quote false (escaped single_quote s ++ single_quote ∷ rest) ≡ s
unescaped-escaped [] rest = refl
unescaped-escaped (b ∷ s) rest =
    step (b == single_quote) (b == backslash) refl refl (unescaped-escaped s rest)
  where
    step : (quote slash : Bool) → (b == single_quote) ≡ quote → (b == backslash) ≡ slash
        → unescaped single_quote false (escaped single_quote s ++ single_quote ∷ rest) ≡ s
        → unescaped single_quote false (escaped single_quote (b ∷ s) ++ single_quote ∷ rest)
        ≡ b ∷ s
    step true slash e d others = rw e (ap (λ z. b ∷ z) others)
    step false true e d others = rw e (rw d (ap (λ z. b ∷ z) others))
    step false false e d others = rw e (rw d (rw d (rw e (ap (λ z. b ∷ z) others))))

some_by : (s : List ℕ) → 1 ≤ length s → some_bytes s ≡ true
some_by [] h = absurd (omega arith)
some_by (b ∷ s) h = refl

both_true : (a b : Bool) → (a && b) ≡ true → (a ≡ true) × (b ≡ true)
both_true true b e = (refl, e)
both_true false b e = absurd (cc e)

digits_pass : (s : List ℕ) → list_all is_ascii_digit s ≡ true → AllPass is_printable s
digits_pass [] e = tt
digits_pass (b ∷ s) e =
    let both = both_true (is_ascii_digit b) (list_all is_ascii_digit s) e in
    (printable_digit b both.0, digits_pass s both.1)

-- ---- what words stand for

named : (k : WordKind) (s n : List ℕ) → Spells k s → name_of k s ≡ Some n → IsWritable n
named kind.Lower s n h e =
    subst IsWritable (cc e) (name_from is_ascii_lowercase printable_lowercase s h)
named kind.Quoted s n (inner, pass, some, is) e =
    let was : content s ≡ inner = ap content is ∙ unescaped-escaped inner [] in
    let same : content s ≡ n = cc e in
    subst IsWritable (sym was ∙ same) (IsWritable-passes inner some pass)
named _ s n h e = absurd (cc e)

pub name_writable : (w : Token) (n : List ℕ) → Spelled w → name w ≡ Some n → IsWritable n
name_writable w n h e = named w.kind w.spelling n h e

upper : (k : WordKind) (s n : List ℕ) → Spells k s → variable_of k s ≡ Some n → IsWritable n
upper kind.Upper s n h e =
    subst IsWritable (cc e) (name_from is_ascii_uppercase printable_uppercase s h)
upper _ s n h e = absurd (cc e)

pub variable_writable : (w : Token) (n : List ℕ) → Spelled w → variable w ≡ Some n → IsWritable n
variable_writable w n h e = upper w.kind w.spelling n h e

digits : (s n : List ℕ) → 1 ≤ length s → digits_of kind.Number s ≡ Some n → IsWritable n
digits s n h e = by_test (list_all is_ascii_digit s) refl e
  where
    by_test : (t : Bool) → list_all is_ascii_digit s ≡ t → (if t then Some s else None) ≡ Some n
        → IsWritable n
    by_test true pass e =
        subst IsWritable (cc e) (IsWritable-passes s (some_by s h) (digits_pass s pass))
    by_test false pass e = absurd (cc e)

labelled : (k : WordKind) (s n : List ℕ) → Spells k s → label_of k s ≡ Some n → IsWritable n
labelled kind.Number s n h e = digits s n (spelled_some kind.Number s h) e
labelled kind.Lower s n h e = named kind.Lower s n h e
labelled kind.Quoted s n h e = named kind.Quoted s n h e
labelled _ s n h e = absurd (cc e)

pub label_writable : (w : Token) (n : List ℕ) → Spelled w → label w ≡ Some n → IsWritable n
label_writable w n h e = labelled w.kind w.spelling n h e
