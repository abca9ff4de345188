-- What verdicts promise one another, and what they say of an answer.
use Rattle.std.proofs.Common.{◌≡◌, ◌≢◌, ℕ, ◌≤◌, ◌<◌, ◌⊎◌, inl, inr, List, [], ◌++◌, length}
use Rattle.std.proofs.Common.{None, Result, Ok, Err, refl, sym, ◌∙◌, subst, ap, arith}
use Rattle.std.specs.Prelude.{IfOk, IfErr}
use Rattle.tptp_words.specs.Text.{Token, IsText}
use Rattle.tptp_words.specs.Scanning.{Left}
use Rattle.tptp_phrases.specs.Readers.{Outcome, seen}
use Rattle.tptp_syntax.specs.declared.entry.File.{File}
use Rattle.tptp_syntax.specs.declared.error.ReadError.{ReadError}
use Rattle.tptp_syntax.specs.declared.error.ReadError.TheVariants as r
use Rattle.tptp_syntax.specs.Strays.{Stray}
use Rattle.tptp_syntax.specs.Descent.{file_at}
use Rattle.tptp_syntax.specs.Ahead.{fault_first}
use Rattle.tptp_syntax.specs.Answers.{answer, unless_stopped}
use Rattle.tptp_syntax.specs.Files.{strict, SpellsWithin, BeginWithin, IsRefused, Verdict, most_bytes}
use Rattle.tptp_syntax.specs.Files.{most_nesting}
use Rattle.tptp_syntax.proofs.WholeFile.{Ends, read_ends, no_words}
use Rattle.tptp_syntax.proofs.GrammarFronts.{closed_file}
use Rattle.tptp_syntax.proofs.OneAnswer.{answered}

-- the answer where the reader ended and no error stands next
pub read_answer : (total : ℕ) (s : Left) (f : File) (u : Left) → file_at most_nesting s ≡ Ok (f, u)
    → fault_first u.words u.fault ≡ None → answer total (file_at most_nesting s) ≡ Ok f
read_answer total s f u e h =
    let ends : seen u ≡ [] = subst (λ (o : Outcome Stray File). Ends o) e (read_ends most_nesting s) in
    let none : u.fault ≡ None =
    sym (ap (λ z. fault_first z u.fault) (no_words u.words ends)) ∙ h in
    ap (answer total) e ∙ ap (λ z. unless_stopped f z) none

-- ---- at most one verdict

-- a text with a verdict is too long, or has words
abbrev Decided : List ℕ → Result File ReadError → Type 0
Decided text a =
    ((length text ≤ most_bytes) × ((s : Left) × IsText (length text) text s.words s.fault))
    ⊎ ((most_bytes < length text) × (a ≡ Err (r.TooLong (length text))))

refused_decided : (text : List ℕ) (a : Result File ReadError) (e : ReadError)
    → length text ≤ most_bytes → IsRefused text e → Decided text a
refused_decided text a e fits h =
    inl (fits, (record { words = h.front ++ h.rest; fault = h.fault }, h.is_text))

decided : (text : List ℕ) (a : Result File ReadError) → Verdict text a → Decided text a
decided text (Ok f) h = inl (h.0, (record { words = h.1.0; fault = None }, h.1.1))
decided text (Err r.Memory) h = absurd h
decided text (Err (r.TooLong bytes)) h = inr (h.0, ap (λ n. Err (r.TooLong n)) h.1)
decided text (Err (r.BadByte at)) h = refused_decided text _ (r.BadByte at) h.0 h.1
decided text (Err (r.Unclosed at)) h = refused_decided text _ (r.Unclosed at) h.0 h.1
decided text (Err (r.Syntax at)) h = refused_decided text _ (r.Syntax at) h.0 h.1
decided text (Err (r.TooDeep at)) h = refused_decided text _ (r.TooDeep at) h.0 h.1
decided text (Err (r.Language at)) h = refused_decided text _ (r.Language at) h.0 h.1
decided text (Err (r.Role at)) h = refused_decided text _ (r.Role at) h.0 h.1
decided text (Err (r.Number at)) h = refused_decided text _ (r.Number at) h.0 h.1
decided text (Err (r.DistinctObject at)) h = refused_decided text _ (r.DistinctObject at) h.0 h.1
decided text (Err (r.Include at)) h = refused_decided text _ (r.Include at) h.0 h.1

pub one_verdict : (text : List ℕ) (a b : Result File ReadError) → Verdict text a → Verdict text b
    → a ≡ b
one_verdict text a b h k = go (decided text a h) (decided text b k)
  where
    go : Decided text a → Decided text b → a ≡ b
    go (inl x) (inl y) =
        sym (answered text x.1.0 x.1.1 a x.0 h) ∙ answered text x.1.0 x.1.1 b x.0 k
    go (inr x) (inr y) = x.1 ∙ sym y.1
    go (inl x) (inr y) = let l = x.0 in let m = y.0 in absurd (omega arith)
    go (inr x) (inl y) = let l = x.0 in let m = y.0 in absurd (omega arith)

pub fronts_begin : (n : ℕ) (front ws rest : List Token) → BeginWithin n (front ++ (ws ++ rest)) rest
    → BeginWithin n (front ++ (ws ++ rest)) (ws ++ rest)
fronts_begin n front ws rest b =
    (closed_file (strict n)).begun (front ++ (ws ++ rest)) (ws ++ rest) rest b (front, refl)
    (ws, refl)

-- ---- what is said of an answer

pub exact_of : (text : List ℕ) (a : Result File ReadError) → (a ≢ Err r.Memory → Verdict text a)
    → IfOk a (λ f. SpellsWithin most_nesting text f)
exact_of text (Ok f) h = (h (λ e. cc e)).1
exact_of text (Err e) h = tt

pub kept_of : (text : List ℕ) (a : Result File ReadError) → (a ≢ Err r.Memory → Verdict text a)
    → (f : File) → length text ≤ most_bytes → SpellsWithin most_nesting text f → a ≢ Err r.Memory
    → a ≡ Ok f
kept_of text a h f fits d m = one_verdict text a (Ok f) (h m) (fits, d)

pub refused_of : (text : List ℕ) (a : Result File ReadError) → (a ≢ Err r.Memory → Verdict text a)
    → IfErr a (λ e. e ≢ r.Memory → length text ≤ most_bytes → IsRefused text e)
refused_of text (Ok f) h = tt
refused_of text (Err r.Memory) h = λ m fits. absurd (m refl)
refused_of text (Err (r.TooLong bytes)) h =
    λ m fits. let v = (h (λ e. cc e)).0 in absurd (omega arith)
refused_of text (Err (r.BadByte at)) h = λ m fits. (h (λ e. cc e)).1
refused_of text (Err (r.Unclosed at)) h = λ m fits. (h (λ e. cc e)).1
refused_of text (Err (r.Syntax at)) h = λ m fits. (h (λ e. cc e)).1
refused_of text (Err (r.TooDeep at)) h = λ m fits. (h (λ e. cc e)).1
refused_of text (Err (r.Language at)) h = λ m fits. (h (λ e. cc e)).1
refused_of text (Err (r.Role at)) h = λ m fits. (h (λ e. cc e)).1
refused_of text (Err (r.Number at)) h = λ m fits. (h (λ e. cc e)).1
refused_of text (Err (r.DistinctObject at)) h = λ m fits. (h (λ e. cc e)).1
refused_of text (Err (r.Include at)) h = λ m fits. (h (λ e. cc e)).1
