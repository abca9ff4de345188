-- The readers of entries and files read them.
use Rattle.std.proofs.Common.{◌≡◌, ℕ, List, [], ◌∷◌, ◌++◌, Bool, true, false, ◌||◌}
use Rattle.std.proofs.Common.{Some, None, is_some, refl, arith, if◌then◌else◌}
use Rattle.std.specs.Prelude.{codes}
use Rattle.tptp_words.specs.declared.word.WordKind.{WordKind}
use Rattle.tptp_words.specs.declared.word.WordKind.TheVariants as kind
use Rattle.tptp_words.specs.Text.{Token}
use Rattle.tptp_words.specs.Words.{mark, keyword, same}
use Rattle.tptp_phrases.specs.Phrase.{Phrase, empty, word, stray, ◌>>=◌, ◌>>◌, ◌or◌, many}
use Rattle.tptp_phrases.specs.Phrase.{balanced}
use Rattle.tptp_phrases.specs.Readers.{no_strays, takes}
use Rattle.tptp_phrases.proofs.Outcomes.{Reading, Starts, Apart, StraysApart}
use Rattle.tptp_phrases.proofs.Outcomes.{never}
use Rattle.tptp_phrases.proofs.Sequences.{reads_then, reads_give}
use Rattle.tptp_phrases.proofs.Forms.{Same, reads_same, starts_same, same_map, same_path}
use Rattle.tptp_phrases.proofs.Firsts.{opens_word, opens_bind, opens_or_stray}
use Rattle.tptp_phrases.proofs.Firsts.{starts_or_stray, follows_empty, follows_never}
use Rattle.tptp_phrases.proofs.Choices.{reads_word_then, starts_word_then, reads_optional}
use Rattle.tptp_phrases.proofs.Choices.{reads_to_word, reads_or, reads_or_stray, off_starts_stray}
use Rattle.tptp_phrases.proofs.Choices.{follows_optional}
use Rattle.tptp_phrases.proofs.Repetition.{Repeats, reads_more, more}
use Rattle.tptp_phrases.proofs.Balance.{goes_balanced, reads_balanced}
use Rattle.tptp_syntax.specs.declared.entry.Entry.{Entry}
use Rattle.tptp_syntax.specs.declared.entry.Entry.TheVariants as e
use Rattle.tptp_syntax.specs.declared.entry.StatedRole.TheVariants.{Hypothesis, Conjecture}
use Rattle.tptp_syntax.specs.declared.language.Language.{Language}
use Rattle.tptp_syntax.specs.declared.language.Language.TheVariants.{Tff, Fof}
use Rattle.tptp_syntax.specs.Strays.{Stray, OfRole, OfInclude, OfLanguage, label, language, role}
use Rattle.tptp_syntax.specs.Strays.{stray_language, stray_role, is_one_of, hypotheses, only_if}
use Rattle.tptp_syntax.specs.Strays.{unless, language_of, role_of, stray_language_of, stray_role_of}
use Rattle.tptp_syntax.specs.Grammar.{Kind, sign, notes, statement, content, entry, file, formula}
use Rattle.tptp_syntax.specs.Descent.{sees, notes_at, statement_at, content_at, entry_at}
use Rattle.tptp_syntax.specs.Descent.{any_word, file_at, ending_at, annotated_at}
use Rattle.tptp_phrases.proofs.Forms.{same_trans, same_assoc, same_then, same_given}
use Rattle.tptp_syntax.proofs.KnownWords.{mark_apart, mark_inside, strays_apart, by_keyword}
use Rattle.tptp_syntax.proofs.KnownWords.{within_first, within_second, within_self}
use Rattle.tptp_syntax.proofs.TypeRules.{goes_type}
use Rattle.tptp_syntax.proofs.DeclarationRules.{reads_declaration}
use Rattle.tptp_syntax.proofs.FormulaRules.{goes_formula, reads_formula}

-- ---- notes

-- words that may go on with notes: all but `)`
abbrev goes_notes : Token → Bool
goes_notes w = goes_balanced (sees (codes "(")) (sees (codes ")")) w

abbrev some_notes : Kind → Phrase (Unit {0})
some_notes i =
    sign (codes ",") >> (balanced (sees (codes "(")) (sees (codes ")")) >> empty tt)

reads_notes : (b : ℕ) → Reading (λ (i : Kind). notes) goes_notes b notes_at
reads_notes b =
    reads_optional tt {p = some_notes} (starts_word_then (mark (codes ",")) _ no_strays)
    (mark_inside (codes ",") goes_notes refl)
    (reads_word_then (mark (codes ",")) (λ _.
    reads_then (reads_balanced (sees (codes "(")) (sees (codes ")")) Stray b
    (mark_apart (codes "(") (sees (codes ")")) refl))
    (λ _. follows_empty tt goes_notes goes_notes (within_self goes_notes))
    (λ _. reads_give tt goes_notes b)))

-- ---- stray words

role_known : (l : Language) (c h t : Bool)
    → is_some (if c then Some Conjecture else only_if h Hypothesis) ≡ true
    → (unless (c || h) OfRole ≡ None) × (unless (t || (c || h)) OfRole ≡ None)
role_known l true h true e = (refl, refl)
role_known l true h false e = (refl, refl)
role_known l false true true e = (refl, refl)
role_known l false true false e = (refl, refl)
role_known l false false t e = absurd (cc e)

role_strays : (l : Language) → StraysApart (stray_role l) (takes role)
role_strays l = strays_apart (stray_role l) (takes role) (λ w e. go l w.kind w.spelling e)
  where
    go : (l : Language) (k : WordKind) (s : List ℕ) → is_some (role_of k s) ≡ true
        → stray_role_of l k s ≡ None
    go Fof kind.Lower s e =
        (role_known Fof (same s (codes "conjecture")) (is_one_of s hypotheses)
        (same s (codes "type")) e).0
    go Tff kind.Lower s e =
        (role_known Tff (same s (codes "conjecture")) (is_one_of s hypotheses)
        (same s (codes "type")) e).1
    go l _ s e = absurd (cc e)

language_strays : StraysApart stray_language (takes language)
language_strays = strays_apart stray_language (takes language) (λ w e. go w.kind w.spelling e)
  where
    known : (t f i : Bool)
        → is_some (if t then Some Tff else if f then Some Fof else None) ≡ true
        → (if t || f then None else if i then Some OfInclude else Some OfLanguage) ≡ None
    known true f i e = refl
    known false true i e = refl
    known false false i e = absurd (cc e)

    go : (k : WordKind) (s : List ℕ) → is_some (language_of k s) ≡ true
        → stray_language_of k s ≡ None
    go kind.Lower s e =
        known (same s (codes "tff")) (same s (codes "fof")) (same s (codes "include")) e
    go _ s e = absurd (cc e)

-- ---- contents

-- words that may go on with what an entry says
abbrev goes_content : Token → Bool
goes_content w = goes_formula w || goes_type w

abbrev stated : Language → List ℕ → Kind → Phrase Entry
stated l n i =
    word role >>= λ r. sign (codes ",") >> (formula l i >>= λ a. empty (e.Statement n r a))

starts_statement : (l : Language) (n : List ℕ)
    → Starts (λ i. statement l i n) (takes role) (stray_role l)
starts_statement l n =
    starts_or_stray (stated l n) (takes role) (stray_role l)
    (starts_word_then role _ (stray_role l))

reads_statement : (l : Language) (n : List ℕ) (b : ℕ)
    → Reading (λ i. statement l i n) goes_content b (statement_at l b n)
reads_statement l n b =
    reads_or_stray {p = stated l n} (stray_role l) (starts_word_then role _ no_strays)
    (role_strays l)
    (reads_word_then role (λ r. reads_word_then (mark (codes ",")) (λ _.
    reads_then (reads_formula l b) (λ a. follows_empty (e.Statement n r a) goes_formula goes_content
    (within_first goes_formula goes_type)) (λ a. reads_give (e.Statement n r a) goes_content b))))

reads_content : (l : Language) (n : List ℕ) (b : ℕ)
    → Reading (λ i. content l i n) goes_content b (content_at l b n)
reads_content Fof n b = reads_statement Fof n b
reads_content Tff n b =
    reads_or (starts_word_then (keyword (codes "type")) _ no_strays)
    (off_starts_stray (stray_role Tff) (starts_statement Tff n)
    (by_keyword (codes "type") (λ w. takes role w ≡ false) refl)
    (strays_apart (stray_role Tff) (takes (keyword (codes "type")))
    (by_keyword (codes "type") (λ w. stray_role Tff w ≡ None) refl)))
    (reads_word_then (keyword (codes "type")) (λ _. reads_word_then (mark (codes ",")) (λ _.
    reads_then (reads_declaration b) (λ d. follows_empty (e.Declaration n d.0 d.1) goes_type
    goes_content (within_second goes_formula goes_type))
    (λ d. reads_give (e.Declaration n d.0 d.1) goes_content b))))
    (reads_statement Tff n b)

-- ---- entries

-- an entry whose language is known
abbrev annotated : Kind → Phrase Entry
annotated i =
    word language >>= λ l. sign (codes "(") >> (word label >>= λ n. sign (codes ",") >>
    (content l i n >>= λ x. notes >> (sign (codes ")") >> (sign (codes ".") >> empty x))))

comma_apart : Apart (sees (codes ",")) goes_content
comma_apart = mark_apart (codes ",") goes_content refl

-- what closes an entry
abbrev closing : Kind → Phrase (Unit {0})
closing i = notes >> (sign (codes ")") >> (sign (codes ".") >> empty tt))

reads_closing : (b : ℕ) → Reading closing never b ending_at
reads_closing b =
    reads_to_word (mark (codes ")")) (λ i _ _. sign (codes ".") >> empty tt)
    (mark_apart (codes ")") goes_notes refl) (reads_notes b) (λ _.
    reads_word_then (mark (codes ")")) (λ _. reads_word_then (mark (codes ".")) (λ _.
    reads_give tt never b)))

given_begins : (x : Entry) (ws : List Token) → (empty x).begins ws ws
unfolding empty
given_begins x ws = refl

same_closing : (x : Entry) (i : Kind) → Same (closing i >> empty x)
    (notes >> (sign (codes ")") >> (sign (codes ".") >> empty x)))
same_closing x i =
    same_trans (same_assoc notes _ (λ _. empty x)) (same_then notes (λ _.
    same_trans (same_assoc (sign (codes ")")) _ (λ _. empty x)) (same_then (sign (codes ")")) (λ _.
    same_trans (same_assoc (sign (codes ".")) _ (λ _. empty x)) (same_then (sign (codes ".")) (λ _.
    same_given tt (λ _. empty x) (given_begins x)))))))

reads_annotated : (b : ℕ) → Reading annotated never b (annotated_at b)
reads_annotated b =
    reads_word_then language (λ l. reads_word_then (mark (codes "(")) (λ _.
    reads_word_then label (λ n. reads_word_then (mark (codes ",")) (λ _.
    reads_then (reads_content l n b) (λ x.
    follows_optional tt some_notes (λ i _. sign (codes ")") >> (sign (codes ".") >> empty x))
    (sees (codes ",")) (sees (codes ")")) goes_content never
    (starts_word_then (mark (codes ",")) _ no_strays)
    (λ _. starts_word_then (mark (codes ")")) _ no_strays) comma_apart
    (mark_apart (codes ")") goes_content refl))
    (λ x. reads_same (same_closing x)
    (reads_then (reads_closing b) (λ _. follows_never (λ _. empty x) never)
    (λ _. reads_give x never b)))))))

same_entry : (i : Kind) → Same (annotated i or stray stray_language i) (entry i)
unfolding entry
same_entry i = same_path _ _ refl

starts_entry : Starts entry (takes language) stray_language
starts_entry =
    starts_same _ _ same_entry (takes language) stray_language
    (starts_or_stray annotated (takes language) stray_language
    (starts_word_then language _ stray_language))

opens_entry : (i : Kind) (w : Token) (ws : List Token) → takes language w ≡ true
    → (entry i).begins (w ∷ ws) ws
opens_entry i w ws e =
    (same_entry i).begins (w ∷ ws) ws
    ((opens_or_stray annotated (takes language) no_strays stray_language 0
    (opens_bind (λ _. word language) _ (takes language) no_strays 0 (opens_word language))).one
    i w ws (omega arith) e)

pub reads_entry : (b : ℕ) → Reading entry never b (entry_at b)
unfolding entry_at
reads_entry b =
    reads_same same_entry
    (reads_or_stray {p = annotated} stray_language (starts_word_then language _ no_strays)
    language_strays (reads_annotated b))

pub entries : (b : ℕ)
    → Repeats entry any_word (takes language) stray_language never any_word b (entry_at b)
entries b = record {
  starts = starts_entry;
  opens = opens_entry;
  covers = λ w h. cc h;
  covers_strays = λ w k h. refl;
  apart = λ w h. refl;
  apart_strays = λ w k h. refl;
  under = λ w h. refl;
  inside = λ w h. refl;
  reads = reads_entry b;
}

-- ---- files

same_file : (i : Kind)
    → Same (more (entry i) [] >>= λ es. empty (record { entries = es })) (file i)
unfolding file
same_file i = same_map (many (entry i)) (λ rest. [] ++ rest) (λ es. record { entries = es })

pub reads_file : (b : ℕ) → Reading file any_word b (file_at b)
unfolding file_at
reads_file b =
    reads_same same_file
    (reads_then (reads_more (entries b) [])
    (λ es. follows_empty (record { entries = es }) any_word any_word (within_self any_word))
    (λ es. reads_give (record { entries = es }) any_word b))
