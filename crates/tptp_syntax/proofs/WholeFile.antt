-- What the reader of files says of a text.
use Rattle.std.proofs.Common.{◌≡◌, ℕ, zero, suc, ◌+◌, ◌≤◌, ◌<◌, inr, List, [], ◌∷◌, ◌++◌}
use Rattle.std.proofs.Common.{length, Option, Some, None, Ok, Err, refl, sym, ◌∙◌, subst, ap}
use Rattle.std.proofs.Common.{arith, false}
use Rattle.std.proofs.Math.Nat.{le_refl}
use Rattle.tptp_words.specs.declared.word.WordError.{WordError}
use Rattle.tptp_words.specs.declared.word.WordError.TheVariants as w
use Rattle.tptp_words.specs.Text.{Token, Placed, tokens, IsText}
use Rattle.tptp_words.specs.Scanning.{Left}
use Rattle.tptp_phrases.specs.Phrase.{empty, ◌>>=◌, many}
use Rattle.tptp_phrases.specs.Readers.{Cause, Syntax, TooDeep, Stray, Outcome, seen, goes_on}
use Rattle.tptp_phrases.specs.Readers.{and_then, seq, give, many_from, many_at}
use Rattle.tptp_phrases.proofs.Outcomes.{Parses, Read, Refused, Fails, Any, At, Leaves}
use Rattle.tptp_phrases.proofs.Outcomes.{IsLater, left_of}
use Rattle.tptp_phrases.proofs.Repetition.{shorter_read}
use Rattle.tptp_phrases.proofs.Choices.{chosen}
use Rattle.tptp_syntax.specs.declared.entry.Entry.{Entry}
use Rattle.tptp_syntax.specs.declared.entry.File.{File}
use Rattle.tptp_syntax.specs.declared.error.ReadError.{ReadError}
use Rattle.tptp_syntax.specs.declared.error.ReadError.TheVariants as r
use Rattle.tptp_syntax.specs.Strays as stray
use Rattle.tptp_syntax.specs.Grammar.{Kind, entry, file}
use Rattle.tptp_syntax.specs.Descent.{Reads, any_word, entry_at, file_at}
use Rattle.tptp_syntax.specs.Files.{strict, taking, BeginWithin}
use Rattle.tptp_syntax.specs.Files.{RefusedAt, IsRefused, Verdict}
use Rattle.tptp_syntax.specs.Files.{most_bytes, most_nesting, IsStrayOf}
use Rattle.tptp_syntax.specs.Answers.{refused_at, stopped_by, refusal, unless_stopped, answer}
use Rattle.tptp_syntax.proofs.EntryRules.{entries, reads_file}

-- ---- a file is read to the end of the words

is_empty : (ws : List Token) → length ws ≤ 0 → ws ≡ []
is_empty [] h = refl
is_empty (w ∷ ws) h = absurd (omega arith)

abbrev pub Ends : {A : Type 0} → Outcome stray.Stray A → Type 0
Ends (Ok x) = seen x.1 ≡ []
Ends (Err e) = Unit {0}

module _ (b : ℕ) where
  next_ends : (ws : List Token) (o : Outcome stray.Stray Entry)
      (q : Entry → Reads (List Entry)) → Parses entry (λ _. false) b ws o
      → ((a : Entry) (u : Left) → length (seen u) < length ws → Ends (q a u))
      → Ends (and_then o q)
  next_ends ws (Ok x) q h k =
      k x.0 x.1 (shorter_read _ _ _ _ _ _ _ _ (entries b) ws (seen x.1) x.0 h)
  next_ends ws (Err e) q h k = tt

  many_ends : (turns : ℕ) (found : List Entry) (s : Left) → length (seen s) ≤ turns
      → Ends (many_from any_word (entry_at b) turns found s)
  unfolding many_from seq give
  many_ends zero found s h = is_empty (seen s) h
  many_ends (suc turns) found s h =
      chosen Ends any_word (seq (entry_at b) (λ a. many_from any_word (entry_at b) turns (found ++ a ∷ [])))
      (give found) s
      (λ g. next_ends (seen s) (entry_at b s)
      (λ a. many_from any_word (entry_at b) turns (found ++ a ∷ [])) ((entries b).reads.at s)
      (λ a u l. many_ends turns (found ++ a ∷ []) u (omega arith)))
      (λ g. none (seen s) g)
    where
      none : (ws : List Token) → goes_on any_word ws ≡ false → ws ≡ []
      none [] g = refl
      none (w ∷ ws) g = cc g

seen_words : (ws : List Placed) → length (tokens ws) ≤ length ws
seen_words [] = le_refl 0
seen_words (w ∷ ws) = let less = seen_words ws in omega arith

pub read_ends : (b : ℕ) (s : Left) → Ends (file_at b s)
unfolding file_at seq give many_at
read_ends b s =
    go (many_from any_word (entry_at b) (length s.words) [] s)
    (many_ends b (length s.words) [] s (seen_words s.words))
  where
    go : (o : Outcome stray.Stray (List Entry)) → Ends o
        → Ends {A = File} (and_then o (λ es t. Ok (record { entries = es }, t)))
    go (Ok x) h = h
    go (Err e) h = tt

-- ---- the answer for a text

-- what is left of a text behind a front
short : (w : Token) (after rest : List Token) → rest ≡ w ∷ after → length rest ≤ length after → ⊥
short w after rest e h =
    let k : length (w ∷ after) ≤ length after = subst (λ z. length z ≤ length after) e h in
    omega arith

pub whole_begins : (i : Kind) (ws rest : List Token) (f : File) → (file i).derives ws rest f
    → (file i).begins ws rest
unfolding file ◌>>=◌ empty many
whole_begins i ws rest f (m, es, row, e) = inr (m, es, row, e.0)

pub no_words : (ws : List Placed) → tokens ws ≡ [] → ws ≡ []
no_words [] e = refl
no_words (w ∷ ws) e = cc e

module _ (total : ℕ) (ws : List Token) where
  -- a word at which the words begin no file within the limit
  module _ (w : Placed) (after : List Placed) (N : Kind → Type 0)
      (h : Refused file any_word most_nesting N ws (w.token ∷ tokens after)) where
    pub not_begun : (i : Kind) → N i → (file i).begins ws (tokens after) → ⊥
    not_begun i n b = short w.token (tokens after) (w.token ∷ tokens after) refl (h.within i (tokens after) n b)

  -- a stray word of the kind, and none that the grammar takes
  astray : (k : stray.Stray) (next : Placed) (after : List Placed)
      → Fails file any_word most_nesting ws (Stray k) (next.token ∷ tokens after)
      → (BeginWithin most_nesting ws (tokens after) → ⊥) × IsStrayOf k ws (tokens after)
  astray k next after h = (
    none most_nesting,
    ((λ b. none b.0 b.1), (most_nesting + h.1.enough, taken)),
  )
    where
      none : (n : ℕ) → BeginWithin n ws (tokens after) → ⊥
      none n b = not_begun next after (Leaves k) h.0 (strict n) (λ e. cc e) b

      taken : (file (taking k (most_nesting + h.1.enough))).begins ws (tokens after)
      taken =
          let is = h.1.is in let same : tokens after ≡ h.1.after = cc is in
          subst (λ z. (file (taking k (most_nesting + h.1.enough))).begins ws z) (sym same)
          (h.1.begun (taking k (most_nesting + h.1.enough)) refl
          (le_refl (most_nesting + h.1.enough)))

  failed : (why : Cause stray.Stray) (rest : List Placed) (fault : Option WordError)
      → Fails file any_word most_nesting ws why (tokens rest)
      → RefusedAt total ws rest fault (refusal total why rest fault)
  failed why [] (Some (w.BadByte at)) h = refl
  failed why [] (Some (w.Unclosed at)) h = refl
  failed Syntax [] None h =
      (refl, λ f d. h.none (strict most_nesting) [] f tt d (record { stops = refl }))
  failed TooDeep [] None h = absurd (let k = h.1.is in cc k)
  failed (Stray k) [] None h = absurd (let k = h.1.is in cc k)
  failed Syntax (next ∷ after) fault h =
      let none : (i : Kind) → (file i).begins ws (tokens after) → ⊥ =
      λ i b. not_begun next after Any h i tt b in
      (none (strict most_nesting), (refl, λ b. none (strict b.0) b.1, λ k b. none (taking k b.0) b.1))
  failed (Stray stray.OfLanguage) (next ∷ after) fault h =
      let k = astray stray.OfLanguage next after h in (k.0, (refl, k.1))
  failed (Stray stray.OfRole) (next ∷ after) fault h =
      let k = astray stray.OfRole next after h in (k.0, (refl, k.1))
  failed (Stray stray.OfNumber) (next ∷ after) fault h =
      let k = astray stray.OfNumber next after h in (k.0, (refl, k.1))
  failed (Stray stray.OfDistinctObject) (next ∷ after) fault h =
      let k = astray stray.OfDistinctObject next after h in (k.0, (refl, k.1))
  failed (Stray stray.OfInclude) (next ∷ after) fault h =
      let k = astray stray.OfInclude next after h in (k.0, (refl, k.1))
  failed TooDeep (next ∷ after) fault h = (
    not_begun next after (At most_nesting) h.0 (strict most_nesting) refl,
    (refl, (most_nesting + h.1.enough, deeper)),
  )
    where
      deeper : BeginWithin (most_nesting + h.1.enough) ws (tokens after)
      deeper =
          let is = h.1.is in let same : tokens after ≡ h.1.after = cc is in
          subst (λ z. BeginWithin (most_nesting + h.1.enough) ws z) (sym same)
          (h.1.begun (strict (most_nesting + h.1.enough)) tt (le_refl (most_nesting + h.1.enough)))

-- why the words are refused, before them they begin a file
begun_before : (ws rest : List Token) (why : Cause stray.Stray)
    → Fails file any_word most_nesting ws why rest → BeginWithin most_nesting ws rest
begun_before ws rest Syntax h = h.begun (strict most_nesting) (le_refl most_nesting)
begun_before ws rest TooDeep h = h.0.begun (strict most_nesting) (le_refl most_nesting)
begun_before ws rest (Stray k) h = h.0.begun (strict most_nesting) (le_refl most_nesting)

module _ (text : List ℕ) (s : Left) (is_text : IsText (length text) text s.words s.fault)
    (fits : length text ≤ most_bytes) where
  -- the words that were taken, and those that are left
  split_text : (t : Left) → IsLater s t
      → (front : List Placed) × IsText (length text) text (front ++ t.words) t.fault
      × (s.words ≡ front ++ t.words)
  split_text t l = (
    l.front,
    subst (λ z. IsText (length text) text z t.fault) l.words
        (subst (λ z. IsText (length text) text s.words z) l.fault is_text),
    l.words,
  )

  refused_text : (t : Left) (e : ReadError) → IsLater s t
      → BeginWithin most_nesting (seen s) (seen t)
      → RefusedAt (length text) (seen s) t.words t.fault e → IsRefused text e
  refused_text t e l b r =
      let p = split_text t l in
      record {
        front = p.0;
        rest = t.words;
        fault = t.fault;
        is_text = p.1;
        begun = subst (λ z. BeginWithin most_nesting (tokens z) (seen t)) p.2 b;
        refused = subst (λ z. RefusedAt (length text) (tokens z) t.words t.fault e) p.2 r;
      }

  stopped_verdict : (t : Left) (e : WordError) → IsLater s t → t.words ≡ [] → t.fault ≡ Some e
      → BeginWithin most_nesting (seen s) (seen t) → Verdict text (Err (stopped_by e))
  stopped_verdict t (w.BadByte at) l none some b =
      (fits, refused_text t (r.BadByte at) l b (rw none (rw some refl)))
  stopped_verdict t (w.Unclosed at) l none some b =
      (fits, refused_text t (r.Unclosed at) l b (rw none (rw some refl)))

  read_verdict : (f : File) (t : Left) → IsLater s t → Read file any_word most_nesting (seen s) f (seen t)
      → seen t ≡ [] → (o : Option WordError) → t.fault ≡ o → Verdict text (unless_stopped f o)
  read_verdict f t l h none None e = (
    fits,
    (
      s.words,
      subst (λ z. IsText (length text) text s.words z) (l.fault ∙ e) is_text,
      subst (λ z. (file (strict most_nesting)).derives (seen s) z f) none
          (h.derives (strict most_nesting) (le_refl most_nesting)),
    ),
  )
  read_verdict f t l h none (Some x) e =
      stopped_verdict t x l (no_words t.words none) e
      (whole_begins (strict most_nesting) (seen s) (seen t) f
      (h.derives (strict most_nesting) (le_refl most_nesting)))

  -- an error of a word stands at a word, and the others at the end
  failed_verdict : (why : Cause stray.Stray) (t : Left) → IsLater s t
      → Fails file any_word most_nesting (seen s) why (seen t) → (ws : List Placed)
      → t.words ≡ ws → (o : Option WordError) → t.fault ≡ o
      → Verdict text (Err (refusal (length text) why ws o))
  failed_verdict why t l h [] i (Some x) j =
      stopped_verdict t x l i j (begun_before (seen s) (seen t) why h)
  failed_verdict why t l h [] i None j = (
    fits,
    refused_text t (r.Syntax (length text)) l (begun_before (seen s) (seen t) why h)
        (subst (λ z. RefusedAt (length text) (seen s) t.words t.fault z)
        (ap (λ z. refusal (length text) why z t.fault) i ∙ ap (λ z. refusal (length text) why [] z) j)
        (failed (length text) (seen s) why t.words t.fault h)),
  )
  failed_verdict why t l h (next ∷ after) i o j =
      word_verdict why next.from (refused_text t (refused_at why next.from) l
      (begun_before (seen s) (seen t) why h)
      (subst (λ z. RefusedAt (length text) (seen s) t.words t.fault z)
      (ap (λ z. refusal (length text) why z t.fault) i)
      (failed (length text) (seen s) why t.words t.fault h)))
    where
      word_verdict : (why : Cause stray.Stray) (at : ℕ) → IsRefused text (refused_at why at)
          → Verdict text (Err (refused_at why at))
      word_verdict Syntax at h = (fits, h)
      word_verdict TooDeep at h = (fits, h)
      word_verdict (Stray stray.OfLanguage) at h = (fits, h)
      word_verdict (Stray stray.OfRole) at h = (fits, h)
      word_verdict (Stray stray.OfNumber) at h = (fits, h)
      word_verdict (Stray stray.OfDistinctObject) at h = (fits, h)
      word_verdict (Stray stray.OfInclude) at h = (fits, h)

  outcome_verdict : (o : Outcome stray.Stray File) → Parses file any_word most_nesting (seen s) o
      → IsLater s (left_of o) → Ends o → Verdict text (answer (length text) o)
  outcome_verdict (Ok x) h l e = read_verdict x.0 x.1 l h e x.1.fault refl
  outcome_verdict (Err x) h l e = failed_verdict x.0 x.1 l h x.1.words refl x.1.fault refl

  -- the verdict is what the reader of files gives
  pub verdict : Verdict text (answer (length text) (file_at most_nesting s))
  verdict =
      outcome_verdict (file_at most_nesting s) ((reads_file most_nesting).at s)
      ((reads_file most_nesting).later s) (read_ends most_nesting s)
