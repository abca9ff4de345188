-- The readers of terms, atoms and equations read them.
use Rattle.std.proofs.Common.{◌≡◌, ℕ, List, [], Bool, ◌||◌}
use Rattle.std.proofs.Common.{Option, None, refl, inl}
use Rattle.std.specs.Prelude.{codes}
use Rattle.std.proofs.Common.{◌<◌, ◌≤◌, ◌-◌, Err}
use Rattle.tptp_words.specs.Scanning.{Left}
use Rattle.tptp_phrases.specs.Readers.{behind, limit_cause, seen}
use Rattle.tptp_phrases.proofs.Repetition.{Repeats}
use Rattle.tptp_phrases.proofs.Turns.{no_level, some_level}
use Rattle.tptp_syntax.proofs.SharedRules.{after_commas}
use Rattle.tptp_words.specs.declared.word.WordKind.TheVariants as kind
use Rattle.tptp_words.specs.Text.{Token}
use Rattle.tptp_words.specs.Words.{name, variable, mark, dollar}
use Rattle.tptp_phrases.specs.Phrase.{Phrase, empty, word, stray, ◌>>=◌, ◌>>◌, ◌or◌}
use Rattle.tptp_phrases.specs.Phrase.{deeper, nested}
use Rattle.tptp_phrases.specs.Readers.{Reader, no_strays, takes, take_word, give, choose, refuse_stray}
use Rattle.tptp_phrases.specs.Readers as d
use Rattle.tptp_phrases.proofs.Outcomes.{Reading, Starts, Opens, Apart, never}
use Rattle.tptp_phrases.proofs.Outcomes.{StraysApart}
use Rattle.tptp_phrases.proofs.Sequences.{reads_then, reads_give}
use Rattle.tptp_phrases.proofs.Forms.{Same, reads_same, starts_same, opens_same, factor, same_path}
use Rattle.tptp_phrases.proofs.Forms.{same_trans, same_back, same_or, same_self, or_assoc, or_swap}
use Rattle.tptp_phrases.proofs.Forms.{same_then, same_first, same_map, same_assoc, same_spread}
use Rattle.tptp_phrases.proofs.Forms.{same_given}
use Rattle.tptp_phrases.proofs.Firsts.{opens_word, opens_bind, opens_or, opens_or_stray, starts_bind}
use Rattle.tptp_phrases.proofs.Firsts.{starts_or, starts_or_stray, follows_empty, follows_or}
use Rattle.tptp_phrases.proofs.Firsts.{follows_starts, follows_never}
use Rattle.tptp_phrases.proofs.Choices.{reads_word_then, starts_word_then, reads_optional}
use Rattle.tptp_phrases.proofs.Choices.{reads_or, reads_or_stray, off_starts, off_starts_stray}
use Rattle.tptp_phrases.proofs.Limits.{ReadsRule, reads_nested, reads_deeper}
use Rattle.tptp_syntax.specs.declared.term.RawTerm.{RawTerm}
use Rattle.tptp_syntax.specs.declared.term.RawTerm.TheVariants as t
use Rattle.tptp_syntax.specs.declared.formula.RawFormula.{RawFormula}
use Rattle.tptp_syntax.specs.declared.formula.RawFormula.TheVariants as f
use Rattle.tptp_syntax.specs.Strays.{Stray, stray_term}
use Rattle.tptp_syntax.specs.Grammar.{Kind, sign, arguments, application, pair, term_rule, term}
use Rattle.tptp_syntax.specs.Descent.{Reads, sees, sees_dollar, variable_term_at, term_rule_at}
use Rattle.tptp_syntax.specs.Descent.{opens_term, term_inside, term_at, applied_at, equation_at}
use Rattle.tptp_syntax.specs.Descent.{equates, other_term_at, literal_at, opens_literal}
use Rattle.tptp_syntax.proofs.KnownWords.{mark_apart, variable_apart, name_apart}
use Rattle.tptp_syntax.proofs.KnownWords.{strays_apart, by_dollar, by_variable, by_name, apart_or}
use Rattle.tptp_syntax.proofs.KnownWords.{within_second, inside_first, token}
use Rattle.tptp_syntax.proofs.SharedRules.{or_comma, left, starts_application, opens_application}
use Rattle.tptp_syntax.proofs.SharedRules.{reads_application, paired, starts_paired, reads_paired}
use Rattle.tptp_syntax.proofs.SharedRules.{fixed, starts_fixed, opens_fixed, reads_fixed}

-- ---- stray words

variable_strays : StraysApart stray_term (takes variable)
variable_strays =
    strays_apart stray_term (takes variable) (by_variable (λ w. stray_term w ≡ None) (λ s. refl))

name_strays : StraysApart stray_term (takes name)
name_strays =
    strays_apart stray_term (takes name)
    (by_name (λ w. stray_term w ≡ None) (λ s. refl) (λ s. refl))

pub dollar_strays : (m : List ℕ) → stray_term (token kind.Dollar m) ≡ None
    → StraysApart stray_term (sees_dollar m)
dollar_strays m e = strays_apart stray_term (sees_dollar m) (by_dollar m (λ w. stray_term w ≡ None) e)

-- ---- alternatives of terms

abbrev a_variable : Kind → Phrase RawTerm
a_variable i = word variable >>= λ n. empty (t.Variable n)

starts_variable : (kind : Token → Option Stray) → Starts a_variable (takes variable) kind
starts_variable kind = starts_word_then variable _ kind

opens_variable : Opens a_variable (takes variable) no_strays 0
opens_variable =
    opens_bind (λ _. word variable) _ (takes variable) no_strays 0 (opens_word variable)

reads_variable : (c : Token → Bool) (b : ℕ) → Reading a_variable c b variable_term_at
reads_variable c b = reads_word_then variable (λ n. reads_give (t.Variable n) c b)

abbrev individuals : Kind → Phrase RawTerm
individuals i = fixed (codes "$i") t.Individuals i or stray stray_term i

starts_individuals : Starts individuals (sees_dollar (codes "$i")) stray_term
starts_individuals =
    starts_or_stray _ (sees_dollar (codes "$i")) stray_term
    (starts_fixed (codes "$i") t.Individuals stray_term)

opens_individuals : Opens individuals (sees_dollar (codes "$i")) stray_term 0
opens_individuals =
    opens_or_stray _ (sees_dollar (codes "$i")) no_strays stray_term 0
    (opens_fixed (codes "$i") t.Individuals)

reads_individuals : (c : Token → Bool) (b : ℕ) → Reading individuals c b
    (choose (sees_dollar (codes "$i")) (d.◌>>◌ (take_word (dollar (codes "$i"))) (give t.Individuals))
    (refuse_stray stray_term))
reads_individuals c b =
    reads_or_stray stray_term (starts_fixed (codes "$i") t.Individuals no_strays)
    (dollar_strays (codes "$i") refl) (reads_fixed (codes "$i") t.Individuals c b)

-- a term that is no application
abbrev other_term : Kind → Phrase RawTerm
other_term i = a_variable i or individuals i

starts_other : Starts other_term (λ w. takes variable w || sees_dollar (codes "$i") w) stray_term
starts_other =
    starts_or _ _ (takes variable) (sees_dollar (codes "$i")) stray_term (starts_variable stray_term)
    starts_individuals

reads_other : (c : Token → Bool) (b : ℕ) → Reading other_term c b other_term_at
reads_other c b =
    reads_or (starts_variable no_strays)
    (off_starts_stray stray_term starts_individuals
    (variable_apart (sees_dollar (codes "$i")) (λ s. refl)) variable_strays) (reads_variable c b)
    (reads_individuals c b)

-- ---- terms

module _ (inside : Kind → ℕ → Phrase RawTerm) where
  named_starts : Starts (λ i. application t.Apply (inside i 1) or individuals i)
      (λ w. takes name w || sees_dollar (codes "$i") w) stray_term
  named_starts =
      starts_or _ _ (takes name) (sees_dollar (codes "$i")) stray_term
      (starts_application t.Apply (λ i. inside i 1) stray_term) starts_individuals

  starts_term_rule : Starts (λ i. term_rule i (inside i)) opens_term stray_term
  starts_term_rule =
      starts_or _ _ (takes variable) _ stray_term (starts_variable stray_term) named_starts

  opens_term_rule : Opens (λ i. term_rule i (inside i)) opens_term stray_term 0
  opens_term_rule =
      opens_or _ _ (takes variable) _ no_strays stray_term 0 opens_variable
      (opens_or _ _ (takes name) (sees_dollar (codes "$i")) no_strays stray_term 0
      (opens_application t.Apply (λ i. inside i 1)) opens_individuals)

  reads_term_rule : (b : ℕ) (q : ℕ → Reads RawTerm)
      → ((k : ℕ) → Reading (λ i. inside i k) left b (q k))
      → Reading (λ i. term_rule i (inside i)) left b (term_rule_at b q)
  reads_term_rule b q h =
      reads_or (starts_variable no_strays)
      (off_starts_stray stray_term named_starts (variable_apart _ (λ s. refl)) variable_strays)
      (reads_variable left b)
      (reads_or (starts_application t.Apply (λ i. inside i 1) no_strays)
      (off_starts_stray stray_term starts_individuals
      (name_apart (sees_dollar (codes "$i")) (λ s. refl) (λ s. refl)) name_strays)
      (reads_application t.Apply (λ i. inside i 1) left left b (q 1)
      (mark_apart (codes ",") left refl) (mark_apart (codes ")") (or_comma left) refl) (λ w e. e)
      (h 1)) (reads_individuals left b))

term_reads_rule : ReadsRule term_rule opens_term stray_term left term_rule_at
term_reads_rule =
    record { starts = starts_term_rule; opens = opens_term_rule; reads = reads_term_rule }

same_term : (i : Kind) → Same (nested term_rule i) (term i)
unfolding term
same_term i = same_path _ _ refl

pub reads_term : (b : ℕ) → Reading term left b (term_at b)
unfolding term_at term_inside
reads_term b = reads_same same_term (reads_nested _ _ _ _ _ term_reads_rule b)

-- a term one level deeper
abbrev below : Kind → Phrase RawTerm
below i = deeper term_rule i 1

pub reads_term_inside : (b k : ℕ) → Reading (λ i. deeper term_rule i k) left b (term_inside b k)
unfolding term_inside
reads_term_inside b k = reads_deeper _ _ _ _ _ term_reads_rule b k

-- ---- applications, read before it is known what they are

-- a name and its arguments
abbrev named : Kind → Phrase (List ℕ × List RawTerm)
named i = application (λ m ts. (m, ts)) (below i)

made : {T : Type 0} (make : List ℕ → List RawTerm → T) (i : Kind)
    → Same (named i >>= λ p. empty (make p.0 p.1)) (application make (below i))
made make i =
    same_trans (same_spread _ _ (λ p. empty (make p.0 p.1)))
    (same_or (same_map (word name) (λ n. (n, [])) (λ p. make p.0 p.1))
    (same_trans (same_assoc (word name) _ (λ p. empty (make p.0 p.1)))
    (same_then (word name)
    (λ n. same_map (arguments (below i)) (λ xs. (n, xs)) (λ p. make p.0 p.1)))))

-- ---- equations

-- what makes an equation of the term before it
abbrev equation : RawTerm → Kind → Phrase RawFormula
equation a i = paired (codes "=") f.Equal term a i or paired (codes "!=") f.Unequal term a i

-- words that may go on with a unit
abbrev pub goes_unit : Token → Bool
goes_unit w = equates w || left w

starts_equation : (a : RawTerm) → Starts (equation a) equates no_strays
starts_equation a =
    starts_or _ _ (sees (codes "=")) (sees (codes "!=")) no_strays
    (starts_paired (codes "=") f.Equal term a) (starts_paired (codes "!=") f.Unequal term a)

reads_equation : (a : RawTerm) (b : ℕ) → Reading (equation a) goes_unit b (equation_at b a)
reads_equation a b =
    reads_or (starts_paired (codes "=") f.Equal term a)
    (off_starts (starts_paired (codes "!=") f.Unequal term a)
    (mark_apart (codes "=") (sees (codes "!=")) refl))
    (reads_paired (codes "=") f.Equal term a left goes_unit b (term_at b)
    (within_second equates left) (reads_term b))
    (reads_paired (codes "!=") f.Unequal term a left goes_unit b (term_at b)
    (within_second equates left) (reads_term b))

nothing_begins : (a : RawTerm) (i : Kind) (ws : List Token) → (equation a i).begins ws ws
unfolding word ◌>>=◌ ◌or◌
nothing_begins a i ws = inl (inl (inl refl))

-- ---- atoms and equations

-- by whether a name stands first
abbrev literal : Kind → Phrase RawFormula
literal i =
    (named i >>= λ p. empty (f.Atom p.0 p.1) or equation (t.Apply p.0 p.1) i)
    or (other_term i >>= λ a. equation a i)

term_first : (i : Kind)
    → Same ((named i >>= λ p. equation (t.Apply p.0 p.1) i) or (other_term i >>= λ a. equation a i))
    (term i >>= λ a. equation a i)
term_first i =
    same_trans (same_or
    (same_trans (same_back (same_trans
    (same_assoc (named i) (λ p. empty (t.Apply p.0 p.1)) (λ a. equation a i))
    (same_then (named i) (λ p. same_given (t.Apply p.0 p.1) (λ a. equation a i)
    (λ ws. nothing_begins (t.Apply p.0 p.1) i ws)))))
    (same_first (λ a. equation a i) (made t.Apply i)))
    (same_self (other_term i >>= λ a. equation a i)))
    (same_trans (same_back (same_spread (application t.Apply (below i)) (other_term i)
    (λ a. equation a i)))
    (same_first (λ a. equation a i)
    (same_trans (or_swap (application t.Apply (below i)) (a_variable i) (individuals i))
    (same_term i))))

same_literal : (i : Kind) → Same (literal i)
    (application f.Atom (below i) or (pair (codes "=") f.Equal (term i) (term i)
    or pair (codes "!=") f.Unequal (term i) (term i)))
same_literal i =
    same_trans (same_or (factor (named i) (λ p. empty (f.Atom p.0 p.1))
    (λ p. equation (t.Apply p.0 p.1) i)) (same_self (other_term i >>= λ a. equation a i)))
    (same_trans (same_back (or_assoc _ _ _))
    (same_or (made f.Atom i)
    (same_trans (term_first i) (factor (term i) (λ a. paired (codes "=") f.Equal term a i)
    (λ a. paired (codes "!=") f.Unequal term a i)))))

-- an atom or an equation, as the grammar has it
abbrev pub atom_or_equation : Kind → Phrase RawFormula
atom_or_equation i =
    application f.Atom (deeper term_rule i 1)
    or (pair (codes "=") f.Equal (term i) (term i) or pair (codes "!=") f.Unequal (term i) (term i))

pub starts_literal : Starts atom_or_equation opens_literal stray_term
starts_literal =
    starts_same _ _ same_literal opens_literal stray_term
    (starts_or _ _ (takes name) _ stray_term
    (starts_bind named _ (takes name) stray_term
    (starts_application (λ m ts. (m, ts)) below stray_term))
    (starts_bind other_term _ _ stray_term starts_other))

pub opens_a_literal : Opens atom_or_equation opens_literal stray_term 0
opens_a_literal =
    opens_same _ _ same_literal opens_literal stray_term 0
    (opens_or _ _ (takes name) _ no_strays stray_term 0
    (opens_bind named _ (takes name) no_strays 0 (opens_application (λ m ts. (m, ts)) below))
    (opens_bind other_term _ _ stray_term 0
    (opens_or _ _ (takes variable) _ no_strays stray_term 0 opens_variable opens_individuals)))

equates_after_name : Apart equates left
equates_after_name =
    apart_or (sees (codes "=")) (sees (codes "!=")) left (mark_apart (codes "=") left refl)
    (mark_apart (codes "!=") left refl)

reads_named : (b : ℕ) → Reading named left b (applied_at b)
reads_named b =
    reads_application (λ m ts. (m, ts)) below left left b (term_inside b 1)
    (mark_apart (codes ",") left refl) (mark_apart (codes ")") (or_comma left) refl) (λ w e. e)
    (reads_term_inside b 1)

pub reads_literal : (b : ℕ) → Reading atom_or_equation goes_unit b (literal_at b)
reads_literal b =
    reads_same same_literal
    (reads_or (starts_bind named _ (takes name) no_strays
    (starts_application (λ m ts. (m, ts)) below no_strays))
    (off_starts_stray stray_term (starts_bind other_term _ _ stray_term starts_other)
    (name_apart _ (λ s. refl) (λ s. refl)) name_strays)
    (reads_then (reads_named b)
    (λ p. follows_or _ _ left goes_unit
    (follows_empty (f.Atom p.0 p.1) left goes_unit (within_second equates left))
    (follows_starts _ equates left goes_unit (starts_equation (t.Apply p.0 p.1))
    equates_after_name))
    (λ p. reads_optional (f.Atom p.0 p.1) (starts_equation (t.Apply p.0 p.1))
    (inside_first equates left) (reads_equation (t.Apply p.0 p.1) b)))
    (reads_then (reads_other never b) (λ a. follows_never _ goes_unit)
    (λ a. reads_equation a b)))

-- ---- the loop and the limit of terms

pub terms_after_commas : (b : ℕ) → Repeats (λ i. sign (codes ",") >> below i)
    (sees (codes ",")) (sees (codes ",")) no_strays left (or_comma left) b
    (behind (mark (codes ",")) (term_inside b 1))
terms_after_commas b =
    after_commas below left b (term_inside b 1) (mark_apart (codes ",") left refl)
    (reads_term_inside b 1)

pub no_term_inside : (n k : ℕ) → 0 < k → n < k → (s : Left)
    → term_inside n k s ≡ Err (limit_cause opens_term stray_term (seen s), s)
unfolding term_inside
no_term_inside n k h i s = no_level opens_term stray_term term_rule_at n k h i s

pub some_term_inside : (n k : ℕ) → 0 < k → k ≤ n → term_inside n k ≡ term_at (n - k)
unfolding term_inside term_at
some_term_inside n k h i = some_level opens_term stray_term term_rule_at n k h i
