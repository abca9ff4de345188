-- The machine that counts nestings goes over entries and files, and so the depth within which words
-- derive or begin a file is the nesting of its words.
use Rattle.std.proofs.Common.{◌≡◌, ℕ, zero, suc, ◌+◌, ◌≤◌, ◌⊎◌, inl, inr, List, [], ◌∷◌, ◌++◌}
use Rattle.std.proofs.Common.{length, Bool, true, false, Option, Some, None, is_some, refl, sym, ap}
use Rattle.std.proofs.Common.{subst, arith, ◌∙◌, if◌then◌else◌, append-nil, append_assoc}
use Rattle.std.proofs.lemmas.List.{append_cancel_right, map-append}
use Rattle.std.specs.Prelude.{codes}
use Rattle.tptp_words.specs.declared.word.WordKind.{WordKind}
use Rattle.tptp_words.specs.declared.word.WordKind.TheVariants as kind
use Rattle.tptp_words.specs.Text.{Token, Placed, tokens}
use Rattle.tptp_words.specs.declared.word.WordError.{WordError}
use Rattle.tptp_words.specs.declared.word.WordError.TheVariants as word_error
use Rattle.tptp_syntax.specs.declared.error.ReadError.TheVariants as read_error
use Rattle.tptp_syntax.specs.Files.{BeginWithin, Begin, RefusedAt, most_nesting}
use Rattle.tptp_words.specs.Words.{keyword}
use Rattle.tptp_phrases.specs.Phrase.{word}
use Rattle.tptp_phrases.specs.Phrase.{open_behind}
use Rattle.tptp_phrases.specs.Readers.{takes}
use Rattle.tptp_phrases.proofs.Walks.{Steps, NoneAbove, walks_word, walks_then, walks_or}
use Rattle.tptp_phrases.proofs.Walks.{walks_on, walks_via, walks_stray, behind_words}
use Rattle.tptp_phrases.proofs.Walks.{none_above-join}
use Rattle.tptp_phrases.proofs.WalkLevels.{plain, walks_many, walks_balanced}
use Rattle.tptp_syntax.specs.declared.language.Language.{Language}
use Rattle.tptp_syntax.specs.declared.language.Language.TheVariants.{Tff, Fof}
use Rattle.tptp_syntax.specs.declared.entry.Entry.TheVariants as e
use Rattle.tptp_syntax.specs.Strays.{label, label_of, language, language_of, role, role_of}
use Rattle.tptp_syntax.specs.Strays.{stray_role, stray_language}
use Rattle.tptp_syntax.specs.Grammar.{sign}
use Rattle.tptp_syntax.specs.Grammar.{notes, statement, content, entry, file}
use Rattle.tptp_syntax.specs.Nesting.{OfEntry, Place, Outside, InNotes}
use Rattle.tptp_syntax.specs.Nesting.{ends_scopes, behind, is_mark, DerivingNests, BeginningNests}
use Rattle.tptp_syntax.specs.Nesting.{NextWordNests, IsTooDeep, DeepWordsAreRefused}
use Rattle.tptp_syntax.specs.Nesting.{nesting, behind_all, NoneDeeper, nesting_at, close_round}
use Rattle.tptp_syntax.proofs.KnownWords.{token, by_keyword}
use Rattle.tptp_syntax.proofs.NestingRules.{nests_formula, nests_declaration}
use Rattle.tptp_syntax.proofs.NestingWords.{nestings, Spot, at, scoped, Same}
use Rattle.tptp_syntax.proofs.NestingWords.{Trails, Nests, steps_inside}
use Rattle.tptp_syntax.proofs.NestingWords.{nests_sign, ends, moved}

-- ---- entries and files

-- directly inside the bracket of an entry, behind so many commas
abbrev in_entry : ℕ → Spot
in_entry n = record { bracket = OfEntry; commas = n; scopes = 0; others = [] }

-- a word that changes no place outside of entries, and in one where no list waits for its colon
abbrev Quiet : Token → Type 0
Quiet w =
    (ends_scopes w ≡ false) × (behind Outside w ≡ Outside)
    × ((i : Spot) → behind (at i) w ≡ at i)

by_language : (w : Token) → takes language w ≡ true → Quiet w
by_language w e = go w.kind w.spelling e
  where
    go : (k : WordKind) (s : List ℕ) → is_some (language_of k s) ≡ true → Quiet (token k s)
    go kind.Lower s e = (refl, refl, λ i. refl)
    go _ s e = absurd (cc e)

by_role : (w : Token) → takes role w ≡ true → Quiet w
by_role w e = go w.kind w.spelling e
  where
    go : (k : WordKind) (s : List ℕ) → is_some (role_of k s) ≡ true → Quiet (token k s)
    go kind.Lower s e = (refl, refl, λ i. refl)
    go _ s e = absurd (cc e)

by_type : (w : Token) → takes (keyword (codes "type")) w ≡ true → Quiet w
by_type w e = by_keyword (codes "type") Quiet (refl, refl, λ i. refl) w e

by_label : (w : Token) → takes label w ≡ true → Quiet w
by_label w e = go w.kind w.spelling e
  where
    go : (k : WordKind) (s : List ℕ) → is_some (label_of k s) ≡ true → Quiet (token k s)
    go kind.Number s e = (refl, refl, λ i. refl)
    go kind.Lower s e = (refl, refl, λ i. refl)
    go kind.Quoted s e = (refl, refl, λ i. refl)
    go _ s e = absurd (cc e)

-- the brackets of notes
abbrev opens_round : Token → Bool
opens_round w = is_mark (codes "(") w

abbrev closes_round : Token → Bool
closes_round w = is_mark (codes ")") w

abbrev Noting : ℕ → Place → Type 0
Noting n t = t ≡ InNotes n

either : {z : Place} (b : Bool) (x y : Place) → x ≡ z → y ≡ z → (if b then x else y) ≡ z
either true x y e f = e
either false x y e f = f

in_notes : (k j : ℕ) (s : Place) (w : Token) → Noting k s
    → open_behind (opens_round w) (closes_round w) k ≡ Some j → Steps nestings 0 0 s (Noting j) w
in_notes k j s w e h =
    subst (λ z. Steps nestings 0 0 z (Noting j) w) (sym e)
    (record {
      within = omega arith;
      reaches = omega arith;
      behind = by_bracket (opens_round w) (closes_round w) k h;
    })
  where
    others : Place → Place
    others place =
        if is_mark (codes "[") w then place
        else if is_mark (codes "]") w then place
        else if is_mark (codes ",") w then place
        else if is_mark (codes ":") w then place
        else if is_mark (codes "~") w then place
        else place

    unchanged : (place : Place) → others place ≡ place
    unchanged place =
        either (is_mark (codes "[") w) _ _ refl
        (either (is_mark (codes "]") w) _ _ refl
        (either (is_mark (codes ",") w) _ _ refl
        (either (is_mark (codes ":") w) _ _ refl
        (either (is_mark (codes "~") w) _ _ refl refl))))

    by_bracket : (opens closes : Bool) (k : ℕ) → open_behind opens closes k ≡ Some j
        → (if opens then InNotes (suc k)
        else if closes then close_round (InNotes k) else others (InNotes k)) ≡ InNotes j
    by_bracket true closes k h = cc h
    by_bracket false true zero h = absurd (cc h)
    by_bracket false true (suc k) h = cc h
    by_bracket false false k h = let same : k ≡ j = cc h in unchanged (InNotes k) ∙ ap InNotes same

-- behind the content of an entry
abbrev Contained : {A : Type 0} → A → Place → Type 0
Contained a t = Trails (in_entry 2) a t

-- behind notes, or where there are none
abbrev Noted : {A : Type 0} → A → Place → Type 0
Noted a t = Contained a t ⊎ (t ≡ InNotes 0)

module _ {depth : ℕ} where
  in_place : {A : Type 0} (f : Token → Option A) (n : ℕ)
      → ((w : Token) → takes f w ≡ true → Quiet w)
      → Nests depth 0 0 (at (in_entry n)) (Same (in_entry n)) (λ _. word f)
  in_place f n h =
      walks_word (λ w a e.
      let quiet = h w (ap is_some e) in
      subst (λ x. Steps nestings (0 + depth) 0 (at (in_entry n)) (λ t. t ≡ x) w)
      (quiet.2 (in_entry n))
      (steps_inside (in_entry n) (0 + depth) w (omega arith) quiet.0))

  -- a mark that has no scope or bracket to count in it
  bare_mark : (m : List ℕ) (s t : Place) → nesting_at s (token kind.Mark m) ≡ 0
      → behind s (token kind.Mark m) ≡ t → Nests depth 0 0 s (λ _ r. r ≡ t) (λ _. sign m)
  bare_mark m s t none goes =
      nests_sign m (record {
        within = subst (λ z. z ≤ 0 + depth) (sym none) (omega arith);
        reaches = omega arith;
        behind = goes;
      })

  nests_statement : (l : Language) (x : List ℕ)
      → Nests depth 0 0 (at (in_entry 1)) Contained (λ n. statement l (plain n) x)
  nests_statement l x =
      walks_or (walks_on (at (in_entry 1)) (in_place role 1 by_role) (λ _ r.
      walks_on (at (in_entry 2)) (bare_mark (codes ",") _ _ refl refl) (λ _ _.
      walks_via (λ z. at (scoped (in_entry 2) z)) (nests_formula l (in_entry 2) 2 refl) (λ _ a z.
      ends (e.Statement x r a) (z, refl)))))
      (walks_stray (stray_role l))

  nests_content : (l : Language) (x : List ℕ)
      → Nests depth 0 0 (at (in_entry 1)) Contained (λ n. content l (plain n) x)
  nests_content Fof x = nests_statement Fof x
  nests_content Tff x =
      walks_or (walks_on (at (in_entry 1)) (in_place (keyword (codes "type")) 1 by_type) (λ _ _.
      walks_on (at (in_entry 2)) (bare_mark (codes ",") _ _ refl refl) (λ _ _.
      walks_via (λ z. at (scoped (in_entry 2) z)) (nests_declaration (in_entry 2) refl) (λ _ d z.
      ends (e.Declaration x d.0 d.1) (z, refl)))))
      (nests_statement Tff x)

  nests_notes : {A : Type 0} (a : A) (s : Place) → Contained a s
      → Nests depth 0 0 s Noted (λ _. notes)
  nests_notes a s (n, at_end) =
      moved at_end (walks_or (ends tt (inl (n, refl)))
      (walks_on (InNotes 0) (bare_mark (codes ",") _ _ refl refl) (λ _ _.
      walks_on (InNotes 0)
      (walks_balanced Noting opens_round closes_round in_notes (InNotes 0) refl) (λ _ _.
      ends tt (inr refl)))))

  nests_ending : {A : Type 0} (a : A) (s : Place) → Noted a s
      → Nests depth 0 0 s (λ _ t. t ≡ Outside) (λ _. sign (codes ")"))
  nests_ending a s (inl (n, e)) =
      moved e (bare_mark (codes ")") _ _ refl refl)
  nests_ending a s (inr e) =
      moved e (bare_mark (codes ")") _ _ refl refl)

  nests_entry : Nests depth 0 0 Outside (λ _ t. t ≡ Outside) (λ n. entry (plain n))
  unfolding entry
  nests_entry =
      walks_or (walks_on Outside
      (walks_word (λ w a e. outside w (by_language w (ap is_some e)))) (λ _ l.
      walks_on (at (in_entry 0)) (bare_mark (codes "(") _ _ refl refl) (λ _ _.
      walks_on (at (in_entry 0)) (in_place label 0 by_label) (λ _ x.
      walks_on (at (in_entry 1)) (bare_mark (codes ",") _ _ refl refl) (λ _ _.
      walks_then (nests_content l x) (λ c s contained _.
      walks_then (nests_notes c s contained) (λ n r noted _.
      walks_on Outside (nests_ending n r noted) (λ _ _.
      walks_on Outside (bare_mark (codes ".") _ _ refl refl) (λ _ _.
      ends c refl)))))))))
      (walks_stray stray_language)
    where
      outside : (w : Token) → Quiet w → Steps nestings (0 + depth) 0 Outside (λ t. t ≡ Outside) w
      outside w quiet =
          record { within = omega arith; reaches = omega arith; behind = quiet.1 }

  nests_file : Nests depth 0 0 Outside (λ _ t. t ≡ Outside) (λ n. file (plain n))
  unfolding file
  nests_file =
      walks_then (walks_many (λ _ t. t ≡ Outside) (λ n t e. moved e nests_entry) 0 Outside refl)
      (λ entries t e _. ends (record { entries = entries }) e)

-- ---- the law

none_above-nesting : (n : ℕ) (s : Place) (ws front : List Token) (w : Token) (after : List Token)
    → NoneAbove nestings n s ws → ws ≡ front ++ (w ∷ after)
    → nesting_at (behind_all s front) w ≤ n
none_above-nesting n s [] [] w after h e = absurd (cc e)
none_above-nesting n s [] (v ∷ front) w after h e = absurd (cc e)
none_above-nesting n s (u ∷ ws) [] w after h e =
    let same : u ≡ w = cc e in subst (λ z. nesting_at s z ≤ n) same h.0
none_above-nesting n s (u ∷ ws) (v ∷ front) w after h e =
    let same : u ≡ v = cc e in
    let rest : ws ≡ front ++ (w ∷ after) = cc e in
    subst (λ z. nesting_at (behind_all (behind s z) front) w ≤ n) same
    (none_above-nesting n (behind s u) ws front w after h.1 rest)

nesting-none_above : (n : ℕ) (s : Place) (ws : List Token)
    → ((front : List Token) (w : Token) (after : List Token) → ws ≡ front ++ (w ∷ after)
    → nesting_at (behind_all s front) w ≤ n)
    → NoneAbove nestings n s ws
nesting-none_above n s [] h = tt
nesting-none_above n s (w ∷ ws) h = (
  h [] w ws refl,
  nesting-none_above n (behind s w) ws
      (λ front v after e. h (w ∷ front) v after (ap (λ z. w ∷ z) e)),
)

whole_text : (n : ℕ) (ws front : List Token) → NoneDeeper n ws → ws ≡ front ++ []
    → NoneAbove nestings n Outside front
whole_text n ws front h e =
    nesting-none_above n Outside front
    (λ u w after f. h u w after (e ∙ append-nil front ∙ f))

from_nothing : (n : ℕ) (ws : List Token) → NoneAbove nestings (0 + n) Outside ws
    → NoneAbove nestings n Outside ws
from_nothing n ws h = subst (λ z. NoneAbove nestings z Outside ws) (omega arith) h

behind_words-all : (s : Place) (ws : List Token) → behind_words nestings s ws ≡ behind_all s ws
behind_words-all s [] = refl
behind_words-all s (w ∷ ws) = behind_words-all (behind s w) ws

pub deriving_nests : DerivingNests
deriving_nests n ws f = (
  λ d.
      let passed = (nests_file {depth = n}).whole ws [] f d in (
        (n, d),
        λ front w after e.
            none_above-nesting n Outside passed.front front w after (from_nothing n _ passed.within)
            (sym (append-nil passed.front) ∙ sym passed.is ∙ e),
      ),
  λ h.
      (nests_file {depth = h.0.0}).kept n n ws [] f (omega arith) h.0.1
      (λ front e. whole_text n ws front h.1 e),
)

pub beginning_nests : BeginningNests
beginning_nests n ws rest = (
  λ b.
      let begun = (nests_file {depth = n}).begun ws rest b in (
        (n, b),
        λ front e u w after f.
            none_above-nesting n Outside begun.front u w after (from_nothing n _ begun.within)
            (append_cancel_right begun.front front rest (sym begun.is ∙ e) ∙ f),
      ),
  λ h.
      (nests_file {depth = h.0.0}).kept_begun n n ws rest (omega arith) h.0.1
      (λ front e. nesting-none_above n Outside front (λ u w after f. h.1 front e u w after f)),
)

-- a word more
one_more : (front : List Token) (next : Token) (rest : List Token)
    → front ++ next ∷ rest ≡ (front ++ next ∷ []) ++ rest
one_more front next rest = sym (append_assoc front (next ∷ []) rest)

pub next_word_nests : NextWordNests
next_word_nests n front next rest before with_it = (
  λ b.
      ((beginning_nests n (front ++ next ∷ rest) rest).0 b).1 (front ++ next ∷ [])
      (one_more front next rest) front next [] refl,
  λ l.
      (beginning_nests n (front ++ next ∷ rest) rest).1 (
        with_it,
        λ u e v w after f.
            none_above-nesting n Outside (front ++ next ∷ []) v w after (all l)
            (append_cancel_right (front ++ next ∷ []) u rest
            (sym (one_more front next rest) ∙ e) ∙ f),
      ),
)
  where
    all : nesting front next ≤ n → NoneAbove nestings n Outside (front ++ next ∷ [])
    all l =
        none_above-join nestings n Outside front (next ∷ [])
        (nesting-none_above n Outside front
        (((beginning_nests n (front ++ next ∷ rest) (next ∷ rest)).0 before).1 front refl))
        (subst (λ z. nesting_at z next ≤ n) (sym (behind_words-all Outside front)) l, tt)

-- of the words that are left the first is refused as too deep
too_deep : (text : List ℕ) (place : ℕ) (front rest : List Placed) (fault : Option WordError)
    → BeginWithin most_nesting (tokens (front ++ rest)) (tokens rest)
    → RefusedAt (length text) (tokens (front ++ rest)) rest fault (read_error.TooDeep place)
    → IsTooDeep most_nesting front rest place
too_deep text place front [] (Some (word_error.BadByte bad)) begun h = absurd (cc h)
too_deep text place front [] (Some (word_error.Unclosed bad)) begun h = absurd (cc h)
too_deep text place front [] None begun h = absurd (let e = h.0 in cc e)
too_deep text place front (next ∷ after) fault begun (none, (from, with_it)) = record {
  next = next;
  after = after;
  is = refl;
  from = sym from;
  deeper = omega (arith, refused);
}
  where
    split : tokens (front ++ next ∷ after) ≡ tokens front ++ next.token ∷ tokens after
    split = map-append (λ (p : Placed). p.token) front (next ∷ after)

    here : BeginWithin most_nesting (tokens front ++ next.token ∷ tokens after)
        (next.token ∷ tokens after)
    here = subst (λ z. BeginWithin most_nesting z (next.token ∷ tokens after)) split begun

    deeper : Begin (tokens front ++ next.token ∷ tokens after) (tokens after)
    deeper = subst (λ z. Begin z (tokens after)) split with_it

    refused : nesting (tokens front) next.token ≤ most_nesting → ⊥
    refused l =
        none (subst (λ z. BeginWithin most_nesting z (tokens after)) (sym split)
        ((next_word_nests most_nesting (tokens front) next.token (tokens after) here deeper).1 l))

pub deep_words_are_refused : DeepWordsAreRefused
deep_words_are_refused text place refused =
    too_deep text place refused.front refused.rest refused.fault refused.begun refused.refused
