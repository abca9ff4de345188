-- A text has at most one verdict: that of the reader of files.
use Rattle.std.proofs.Common.{◌≡◌, ◌≢◌, ℕ, suc, ◌+◌, ◌≤◌, ◌<◌, ◌⊎◌, inl, inr, List, [], ◌∷◌}
use Rattle.std.proofs.Common.{◌++◌, length, Option, Some, None, Result, Ok, Err, refl, sym, ◌∙◌, subst}
use Rattle.std.proofs.Common.{ap, arith, length-append, append_assoc}
use Rattle.std.proofs.Math.Nat.{le_refl}
use Rattle.tptp_words.specs.declared.word.WordError.{WordError}
use Rattle.tptp_words.specs.declared.word.WordError.TheVariants as w
use Rattle.tptp_words.specs.Text.{Token, Placed, tokens, IsText}
use Rattle.tptp_words.specs.Scanning.{Left}
use Rattle.tptp_words.proofs.OneText.{one_text}
use Rattle.tptp_phrases.specs.Readers.{Cause, Syntax, TooDeep, Stray, Outcome, seen}
use Rattle.tptp_phrases.proofs.Outcomes.{Parses, Fails, Any, Leaves}
use Rattle.tptp_phrases.proofs.Outcomes.{Stops, IsLater, left_of}
use Rattle.tptp_phrases.proofs.Fronts.{Front, ordered}
use Rattle.tptp_syntax.specs.declared.entry.File.{File}
use Rattle.tptp_syntax.specs.declared.error.ReadError.{ReadError}
use Rattle.tptp_syntax.specs.declared.error.ReadError.TheVariants as r
use Rattle.tptp_syntax.specs.Strays as stray
use Rattle.tptp_syntax.specs.Grammar.{Kind, file}
use Rattle.tptp_syntax.specs.Descent.{any_word, file_at}
use Rattle.tptp_syntax.specs.Files.{strict, taking, DeriveWithin, Derive, SpellsWithin, Spells}
use Rattle.tptp_syntax.specs.Files.{BeginWithin, Begin, BeginTaking, IsStrayOf, WordRefused, RefusedAt}
use Rattle.tptp_syntax.specs.Files.{IsRefused, Verdict, most_bytes, most_nesting}
use Rattle.tptp_syntax.specs.Answers.{refused_at, refusal, unless_stopped, answer}
use Rattle.tptp_syntax.proofs.EntryRules.{reads_file}
use Rattle.tptp_syntax.proofs.WholeFile.{Ends, read_ends, not_begun, whole_begins}
use Rattle.tptp_syntax.proofs.GrammarFronts.{closed_file}

-- ---- at most one file

no_stop : Stops any_word []
no_stop = record { stops = refl }

-- no file is derived where the words are refused
none_derived : (n : ℕ) (ws rest : List Token) (why : Cause stray.Stray) (f : File)
    → Fails file any_word n ws why rest → DeriveWithin n ws f → ⊥
none_derived n ws rest Syntax f h d = h.none (strict n) [] f tt d no_stop
none_derived n ws rest TooDeep f h d = h.0.none (strict n) [] f refl d no_stop
none_derived n ws rest (Stray k) f h d = h.0.none (strict n) [] f (λ e. cc e) d no_stop

one_of : (n : ℕ) (ws : List Token) (o : Outcome stray.Stray File) (f g : File)
    → Parses file any_word n ws o → DeriveWithin n ws f → Derive ws g → f ≡ g
one_of n ws (Ok x) f g h d e =
    (h.only (strict n) [] f d no_stop).1 ∙ sym (h.only (strict e.0) [] g e.1 no_stop).1
one_of n ws (Err x) f g h d e = absurd (none_derived n ws (seen x.1) x.0 f h d)

abbrev placed : List Token → List Placed
placed [] = []
placed (w ∷ ws) = record { token = w; from = 0 } ∷ placed ws

placed_tokens : (ws : List Token) → tokens (placed ws) ≡ ws
placed_tokens [] = refl
placed_tokens (w ∷ ws) = ap (λ z. w ∷ z) (placed_tokens ws)

-- words derive at most one file
pub one_file_of : (ws : List Token) (f g : File) → Derive ws f → Derive ws g → f ≡ g
one_file_of ws f g d e =
    let s : Left = record { words = placed ws; fault = None } in
    one_of d.0 ws (file_at d.0 s) f g
    (subst (λ z. Parses file any_word d.0 z (file_at d.0 s)) (placed_tokens ws)
    ((reads_file d.0).at s)) d.1 e

-- a text spells at most one file
pub one_file : (text : List ℕ) (f g : File) → Spells text f → Spells text g → f ≡ g
one_file text f g (ws, a, d) (vs, b, e) =
    let same = (one_text (length text) text ws vs None None a b).0 in
    one_file_of (tokens ws) f g d (subst (λ z. Derive (tokens z) g) (sym same) e)

-- ---- at most one place

same_tails : (u v a b : List Placed) → u ++ a ≡ v ++ b → length a ≡ length b → a ≡ b
same_tails [] [] a b e l = e
same_tails [] (x ∷ v) a b e l =
    let k : length a ≡ suc (length v + length b) = ap length e ∙ ap suc (length-append v b) in
    absurd (omega arith)
same_tails (x ∷ u) [] a b e l =
    let k : suc (length u + length a) ≡ length b = sym (ap suc (length-append u a)) ∙ ap length e in
    absurd (omega arith)
same_tails (x ∷ u) (y ∷ v) a b e l = same_tails u v a b (cc e) l

tokens_length : (ws : List Placed) → length (tokens ws) ≡ length ws
tokens_length [] = refl
tokens_length (w ∷ ws) = ap suc (tokens_length ws)

tokens_front : (front rest : List Placed) → tokens (front ++ rest) ≡ tokens front ++ tokens rest
tokens_front [] rest = refl
tokens_front (w ∷ front) rest = ap (λ z. w.token ∷ z) (tokens_front front rest)

module _ (s : Left) (o : Outcome stray.Stray File)
    (h : Parses file any_word most_nesting (seen s) o) (later : IsLater s (left_of o)) where
  -- what is read begins a file
  begun_there : BeginWithin most_nesting (seen s) (seen (left_of o))
  begun_there = go o h
    where
      go : (o : Outcome stray.Stray File) → Parses file any_word most_nesting (seen s) o
          → BeginWithin most_nesting (seen s) (seen (left_of o))
      go (Ok x) h =
          whole_begins (strict most_nesting) (seen s) (seen x.1) x.0
          (h.derives (strict most_nesting) (le_refl most_nesting))
      go (Err (Syntax, t)) h = h.begun (strict most_nesting) (le_refl most_nesting)
      go (Err (TooDeep, t)) h = h.0.begun (strict most_nesting) (le_refl most_nesting)
      go (Err (Stray k, t)) h = h.0.begun (strict most_nesting) (le_refl most_nesting)

  -- and no longer front does
  no_longer : (ws : List Token) → BeginWithin most_nesting (seen s) ws
      → length (seen (left_of o)) ≤ length ws
  no_longer ws b = go o h
    where
      go : (o : Outcome stray.Stray File) → Parses file any_word most_nesting (seen s) o
          → length (seen (left_of o)) ≤ length ws
      go (Ok x) h = h.within (strict most_nesting) ws b
      go (Err (Syntax, t)) h = h.within (strict most_nesting) ws tt b
      go (Err (TooDeep, t)) h = h.0.within (strict most_nesting) ws refl b
      go (Err (Stray k, t)) h = h.0.within (strict most_nesting) ws (λ e. cc e) b

  seen_front : Front (seen s) (seen (left_of o))
  seen_front =
      (tokens later.front, ap tokens later.words ∙ tokens_front later.front (left_of o).words)

  -- words that begin no file are not passed
  not_passed : (ws : List Token) → Front (seen s) ws
      → (BeginWithin most_nesting (seen s) ws → ⊥) → length ws < length (seen (left_of o))
  not_passed ws f none =
      elim (ordered (seen s) ws (seen (left_of o)) f seen_front) [
        | inl before ↦ absurd (begun_before before)
        | inr behind ↦ shorter behind
      ]
    where
      begun_before : Front ws (seen (left_of o)) → ⊥
      begun_before before =
          none ((closed_file (strict most_nesting)).begun (seen s) ws (seen (left_of o)) begun_there
          f before)

      shorter : Front (seen (left_of o)) ws → length ws < length (seen (left_of o))
      shorter ([], e) =
          absurd (none ((closed_file (strict most_nesting)).begun (seen s) ws (seen (left_of o))
          begun_there f ([], sym e)))
      shorter (w ∷ front, e) =
          let l : length (seen (left_of o)) ≡ suc (length front + length ws) =
          ap length e ∙ ap suc (length-append front ws) in omega arith

  -- a refused place is where the reader stops
  module _ (front rest : List Placed) (is : s.words ≡ front ++ rest)
      (begun : BeginWithin most_nesting (seen s) (tokens rest)) where
    same_end : length (left_of o).words ≡ length rest → (left_of o).words ≡ rest
    same_end l = same_tails later.front front (left_of o).words rest (sym later.words ∙ is) l

    at_end : rest ≡ [] → (left_of o).words ≡ rest
    at_end e =
        let less = no_longer (tokens rest) begun in
        let a = tokens_length rest in let b = tokens_length (left_of o).words in
        let c : length rest ≡ 0 = ap length e in
        same_end (lengths less a b c)
      where
        lengths : length (seen (left_of o)) ≤ length (tokens rest)
            → length (tokens rest) ≡ length rest
            → length (seen (left_of o)) ≡ length (left_of o).words → length rest ≡ 0
            → length (left_of o).words ≡ length rest
        lengths less a b c = omega arith

    at_word : (next : Placed) (after : List Placed) → rest ≡ next ∷ after
        → (BeginWithin most_nesting (seen s) (tokens after) → ⊥) → (left_of o).words ≡ rest
    at_word next after e none =
        same_end (lengths (no_longer (tokens rest) begun)
        (not_passed (tokens after) (tokens (front ++ next ∷ []), split) none) (tokens_length rest)
        (tokens_length (left_of o).words) (tokens_length after) (ap length e))
      where
        split : seen s ≡ tokens (front ++ next ∷ []) ++ tokens after
        split =
            ap tokens (is ∙ ap (λ z. front ++ z) e ∙ sym (append_assoc front (next ∷ []) after))
            ∙ tokens_front (front ++ next ∷ []) after

        lengths : length (seen (left_of o)) ≤ length (tokens rest)
            → length (tokens after) < length (seen (left_of o))
            → length (tokens rest) ≡ length rest
            → length (seen (left_of o)) ≡ length (left_of o).words
            → length (tokens after) ≡ length after → length rest ≡ suc (length after)
            → length (left_of o).words ≡ length rest
        lengths less more a b c d = omega arith

-- ---- at most one number

-- the kind of stray words that a word stands for, or another
same_kind : (k l : stray.Stray) → (k ≡ l) ⊎ (Some l ≢ Some k)
same_kind stray.OfLanguage stray.OfLanguage = inl refl
same_kind stray.OfRole stray.OfRole = inl refl
same_kind stray.OfNumber stray.OfNumber = inl refl
same_kind stray.OfDistinctObject stray.OfDistinctObject = inl refl
same_kind stray.OfInclude stray.OfInclude = inl refl
same_kind k l = inr (λ e. cc e)

module _ (ws : List Token) (next : Placed) (after : List Placed) where
  abbrev Why : Cause stray.Stray → Type 0
  Why why = Fails file any_word most_nesting ws why (next.token ∷ tokens after)

  -- the reader's cause, against what is said of the word
  not_syntax : (i : Kind) → Why Syntax → (file i).begins ws (tokens after) → ⊥
  not_syntax i h b =
      not_begun most_nesting ws next after Any h i tt b

  begun_deeper : Why TooDeep → Begin ws (tokens after)
  begun_deeper h =
      let is = h.1.is in let same : tokens after ≡ h.1.after = cc is in (
        most_nesting + h.1.enough,
        subst (λ z. BeginWithin (most_nesting + h.1.enough) ws z) (sym same)
            (h.1.begun (strict (most_nesting + h.1.enough)) tt (le_refl (most_nesting + h.1.enough))),
      )

  not_begun_stray : (k : stray.Stray) → Why (Stray k) → Begin ws (tokens after) → ⊥
  not_begun_stray k h b =
      not_begun most_nesting ws next after (Leaves k) h.0 (strict b.0) (λ e. cc e) b.1

  begun_stray : (k : stray.Stray) → Why (Stray k) → BeginTaking k ws (tokens after)
  begun_stray k h =
      let is = h.1.is in let same : tokens after ≡ h.1.after = cc is in (
        most_nesting + h.1.enough,
        subst (λ z. (file (taking k (most_nesting + h.1.enough))).begins ws z) (sym same)
            (h.1.begun (taking k (most_nesting + h.1.enough)) refl
            (le_refl (most_nesting + h.1.enough))),
      )

  -- a word is astray in one way alone
  one_stray : (why : Cause stray.Stray) (l : stray.Stray) → Why why → IsStrayOf l ws (tokens after)
      → why ≡ Stray l
  one_stray Syntax l h a = absurd (not_syntax (taking l a.1.0) h a.1.1)
  one_stray TooDeep l h a = absurd (a.0 (begun_deeper h))
  one_stray (Stray k) l h a =
      elim (same_kind k l) [
        | inl e ↦ ap Stray e
        | inr n ↦ absurd (not_begun most_nesting ws next after (Leaves k) h.0 (taking l a.1.0) n a.1.1)
      ]

  one_deep : (why : Cause stray.Stray) → Why why → Begin ws (tokens after) → why ≡ TooDeep
  one_deep Syntax h b = absurd (not_syntax (strict b.0) h b.1)
  one_deep TooDeep h b = refl
  one_deep (Stray k) h b = absurd (not_begun_stray k h b)

  one_syntax : (why : Cause stray.Stray) → Why why → (Begin ws (tokens after) → ⊥)
      → ((k : stray.Stray) → BeginTaking k ws (tokens after) → ⊥) → why ≡ Syntax
  one_syntax Syntax h b n = refl
  one_syntax TooDeep h b n = absurd (b (begun_deeper h))
  one_syntax (Stray k) h b n = absurd (n k (begun_stray k h))

  one_number : (why : Cause stray.Stray) (e : ReadError) → Why why
      → WordRefused ws (tokens after) next.from e → e ≡ refused_at why next.from
  one_number why (r.TooDeep at) h (p, b) =
      ap r.TooDeep p ∙ ap (λ z. refused_at z next.from) (sym (one_deep why h b))
  one_number why (r.Language at) h (p, a) =
      ap r.Language p ∙ ap (λ z. refused_at z next.from) (sym (one_stray why stray.OfLanguage h a))
  one_number why (r.Include at) h (p, a) =
      ap r.Include p ∙ ap (λ z. refused_at z next.from) (sym (one_stray why stray.OfInclude h a))
  one_number why (r.Role at) h (p, a) =
      ap r.Role p ∙ ap (λ z. refused_at z next.from) (sym (one_stray why stray.OfRole h a))
  one_number why (r.Number at) h (p, a) =
      ap r.Number p ∙ ap (λ z. refused_at z next.from) (sym (one_stray why stray.OfNumber h a))
  one_number why (r.DistinctObject at) h (p, a) =
      ap r.DistinctObject p
      ∙ ap (λ z. refused_at z next.from) (sym (one_stray why stray.OfDistinctObject h a))
  one_number why (r.Syntax at) h (p, b, n) =
      ap r.Syntax p ∙ ap (λ z. refused_at z next.from) (sym (one_syntax why h b n))
  one_number why _ h a = absurd a

-- ---- at most one answer

module _ (text : List ℕ) (s : Left) (is_text : IsText (length text) text s.words s.fault) where
  abbrev outcome : Outcome stray.Stray File
  outcome = file_at most_nesting s

  parses : Parses file any_word most_nesting (seen s) outcome
  parses = (reads_file most_nesting).at s

  later : IsLater s (left_of outcome)
  later = (reads_file most_nesting).later s

  spelled_answer : (f : File) → SpellsWithin most_nesting text f
      → answer (length text) outcome ≡ Ok f
  spelled_answer f (ws, t, d) =
      let same = one_text (length text) text s.words ws s.fault None is_text t in
      go outcome parses later (subst (λ z. DeriveWithin most_nesting (tokens z) f) (sym same.0) d)
      same.1
    where
      go : (o : Outcome stray.Stray File) → Parses file any_word most_nesting (seen s) o
          → IsLater s (left_of o) → DeriveWithin most_nesting (seen s) f → s.fault ≡ None
          → answer (length text) o ≡ Ok f
      go (Ok x) h l d e =
          ap (λ z. unless_stopped x.0 z) (sym l.fault ∙ e)
          ∙ ap Ok (sym (h.only (strict most_nesting) [] f d no_stop).1)
      go (Err x) h l d e = absurd (none_derived most_nesting (seen s) (seen x.1) x.0 f h d)

  refused_answer : (e : ReadError) → IsRefused text e → answer (length text) outcome ≡ Err e
  refused_answer e h =
      let same = one_text (length text) text s.words (h.front ++ h.rest) s.fault h.fault is_text
      h.is_text in
      go outcome parses later (read_ends most_nesting s) h.rest same.0
      (subst (λ z. BeginWithin most_nesting (tokens z) (tokens h.rest)) (sym same.0) h.begun)
      (subst (λ z. RefusedAt (length text) (tokens z) h.rest h.fault e) (sym same.0) h.refused)
      same.1
    where
      go : (o : Outcome stray.Stray File) → Parses file any_word most_nesting (seen s) o
          → IsLater s (left_of o) → Ends o → (rest : List Placed) → s.words ≡ h.front ++ rest
          → BeginWithin most_nesting (seen s) (tokens rest)
          → RefusedAt (length text) (seen s) rest h.fault e → s.fault ≡ h.fault
          → answer (length text) o ≡ Err e
      go o p l ends [] is b x f = ended o p l ends (at_end s o p l h.front [] is b refl) h.fault f x
        where
          ended : (o : Outcome stray.Stray File) → Parses file any_word most_nesting (seen s) o
              → IsLater s (left_of o) → Ends o → (left_of o).words ≡ []
              → (fault : Option WordError) → s.fault ≡ fault
              → RefusedAt (length text) (seen s) [] fault e → answer (length text) o ≡ Err e
          ended (Ok y) p l ends i (Some (w.BadByte at)) f x =
              ap (λ z. unless_stopped y.0 z) (sym l.fault ∙ f) ∙ ap Err (sym x)
          ended (Ok y) p l ends i (Some (w.Unclosed at)) f x =
              ap (λ z. unless_stopped y.0 z) (sym l.fault ∙ f) ∙ ap Err (sym x)
          ended (Ok y) p l ends i None f x =
              absurd (x.1 y.0 (subst (λ z. (file (strict most_nesting)).derives (seen s) z y.0) ends
              (p.derives (strict most_nesting) (le_refl most_nesting))))
          ended (Err y) p l ends i (Some (w.BadByte at)) f x =
              ap Err (ap (λ z. refusal (length text) y.0 z y.1.fault) i
              ∙ ap (λ z. refusal (length text) y.0 [] z) (sym l.fault ∙ f) ∙ sym x)
          ended (Err y) p l ends i (Some (w.Unclosed at)) f x =
              ap Err (ap (λ z. refusal (length text) y.0 z y.1.fault) i
              ∙ ap (λ z. refusal (length text) y.0 [] z) (sym l.fault ∙ f) ∙ sym x)
          ended (Err y) p l ends i None f x =
              ap Err (ap (λ z. refusal (length text) y.0 z y.1.fault) i
              ∙ ap (λ z. refusal (length text) y.0 [] z) (sym l.fault ∙ f) ∙ sym x.0)
      go o p l ends (next ∷ after) is b x f =
          worded o p ends (at_word s o p l h.front (next ∷ after) is b next after refl x.0) x.1
        where
          worded : (o : Outcome stray.Stray File) → Parses file any_word most_nesting (seen s) o
              → Ends o → (left_of o).words ≡ next ∷ after
              → WordRefused (seen s) (tokens after) next.from e → answer (length text) o ≡ Err e
          worded (Ok y) p ends i x = absurd (let k = sym (ap tokens i) ∙ ends in cc k)
          worded (Err y) p ends i x =
              ap Err (ap (λ z. refusal (length text) y.0 z y.1.fault) i
              ∙ sym (one_number (seen s) next after y.0 e
              (subst (λ z. Fails file any_word most_nesting (seen s) y.0 (tokens z)) i p) x))

  pub answered : (a : Result File ReadError) → length text ≤ most_bytes → Verdict text a
      → answer (length text) outcome ≡ a
  answered (Ok f) fits h = spelled_answer f h.1
  answered (Err r.Memory) fits h = absurd h
  answered (Err (r.TooLong bytes)) fits h = absurd (too_long h.0)
    where
      too_long : most_bytes < length text → ⊥
      too_long l = omega arith
  answered (Err (r.BadByte at)) fits h = refused_answer (r.BadByte at) h.1
  answered (Err (r.Unclosed at)) fits h = refused_answer (r.Unclosed at) h.1
  answered (Err (r.Syntax at)) fits h = refused_answer (r.Syntax at) h.1
  answered (Err (r.TooDeep at)) fits h = refused_answer (r.TooDeep at) h.1
  answered (Err (r.Language at)) fits h = refused_answer (r.Language at) h.1
  answered (Err (r.Role at)) fits h = refused_answer (r.Role at) h.1
  answered (Err (r.Number at)) fits h = refused_answer (r.Number at) h.1
  answered (Err (r.DistinctObject at)) fits h = refused_answer (r.DistinctObject at) h.1
  answered (Err (r.Include at)) fits h = refused_answer (r.Include at) h.1
