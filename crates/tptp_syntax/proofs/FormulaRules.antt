-- The readers of formulas read them.
use Rattle.std.proofs.Common.{◌≡◌, ℕ, List, Bool, false, ◌||◌}
use Rattle.std.proofs.Common.{Option, Some, None, refl}
use Rattle.std.specs.Prelude.{codes}
use Rattle.std.proofs.Common.{◌<◌, ◌≤◌, ◌-◌, ◌+◌, Err, inl, inr, sym, ap, subst}
use Rattle.tptp_words.specs.Scanning.{Left}
use Rattle.tptp_phrases.specs.Readers.{behind, limit_cause, seen}
use Rattle.tptp_phrases.proofs.Repetition.{Repeats}
use Rattle.tptp_phrases.proofs.Turns.{no_level, some_level, top_level}
use Rattle.tptp_syntax.specs.declared.fixed.Fixed.{Fixed}
use Rattle.tptp_syntax.specs.Ahead.{IsJoining}
use Rattle.tptp_syntax.specs.Ahead.{fixed as fixed_word}
use Rattle.tptp_syntax.proofs.SharedRules.{after_commas, repeats_behind}
use Rattle.tptp_words.specs.Text.{Token}
use Rattle.tptp_words.specs.Words.{variable, mark}
use Rattle.tptp_phrases.specs.Phrase.{Phrase, empty, word, ◌>>=◌, ◌>>◌, ◌or◌}
use Rattle.tptp_phrases.specs.Phrase.{deeper, nested}
use Rattle.tptp_phrases.specs.Readers.{no_strays, takes, choose}
use Rattle.tptp_phrases.proofs.Outcomes.{Reading, Starts, Opens, Apart, Inside, StraysApart}
use Rattle.tptp_phrases.proofs.Sequences.{reads_then, reads_give}
use Rattle.tptp_phrases.proofs.Forms.{Same, reads_same, factor, factor_next}
use Rattle.tptp_phrases.proofs.Forms.{same_path}
use Rattle.tptp_phrases.proofs.Firsts.{opens_word, opens_bind, opens_or, starts_or}
use Rattle.tptp_phrases.proofs.Firsts.{follows_empty, follows_or, follows_starts}
use Rattle.tptp_phrases.proofs.Choices.{reads_word_then, starts_word_then, reads_optional}
use Rattle.tptp_phrases.proofs.Choices.{reads_or, off_starts, off_starts_stray}
use Rattle.tptp_phrases.proofs.Limits.{ReadsRule, reads_nested, reads_deeper}
use Rattle.tptp_syntax.specs.declared.types.Bound.{Bound}
use Rattle.tptp_syntax.specs.declared.formula.RawFormula.{RawFormula}
use Rattle.tptp_syntax.specs.declared.formula.RawFormula.TheVariants as f
use Rattle.tptp_syntax.specs.declared.language.Language.{Language}
use Rattle.tptp_syntax.specs.declared.language.Language.TheVariants.{Tff, Fof}
use Rattle.tptp_syntax.specs.Strays.{Stray, stray_term, connective}
use Rattle.tptp_syntax.specs.Grammar.{Kind, sign, bound, formula_of, unit_rule, formula, type_of, joined}
use Rattle.tptp_syntax.specs.Descent.{Reads, expect, sees, sees_dollar, bound_at, joined_at, joins}
use Rattle.tptp_syntax.specs.Descent.{formula_at_of, unit_rule_at, opens_literal, opens_unit}
use Rattle.tptp_syntax.specs.Descent.{unit_inside, unit_at, formula_at, equates, chain_at}
use Rattle.tptp_syntax.proofs.KnownWords.{mark_apart, mark_inside, dollar_apart, strays_apart}
use Rattle.tptp_syntax.proofs.KnownWords.{by_mark, by_connective, within_second, within_self}
use Rattle.tptp_syntax.proofs.KnownWords.{inside_first, apart_or}
use Rattle.tptp_syntax.proofs.SharedRules.{or_comma, left, chained, starts_chained, reads_chained}
use Rattle.tptp_syntax.proofs.SharedRules.{binder, starts_binder, opens_binder, reads_binder}
use Rattle.tptp_syntax.proofs.SharedRules.{bracketed, starts_bracketed, opens_bracketed}
use Rattle.tptp_syntax.proofs.SharedRules.{reads_bracketed, fixed, starts_fixed, opens_fixed}
use Rattle.tptp_syntax.proofs.SharedRules.{reads_fixed}
use Rattle.tptp_syntax.proofs.TypeRules.{goes_type}
use Rattle.tptp_syntax.proofs.DeclarationRules.{reads_type}
use Rattle.tptp_syntax.proofs.TermRules.{goes_unit, atom_or_equation, starts_literal, opens_a_literal}
use Rattle.tptp_syntax.proofs.TermRules.{reads_literal, dollar_strays}

-- ---- bound variables

-- words that may go on with a bound variable
abbrev pub goes_bound : Token → Bool
goes_bound w = sees (codes ":") w || goes_type w

abbrev untyped : List ℕ → Bound
untyped n = record { name = n; kind = None }

abbrev typed : List ℕ → Kind → Phrase Bound
typed n i = sign (codes ":") >> (type_of i >>= λ a. empty (record { name = n; kind = Some a }))

same_bound : (i : Kind) → Same (word variable >>= λ n. empty (untyped n) or typed n i) (bound Tff i)
same_bound i = factor (word variable) (λ n. empty (untyped n)) (λ n. typed n i)

reads_bound : (l : Language) (b : ℕ) → Reading (bound l) goes_bound b (bound_at l b)
reads_bound Fof b = reads_word_then variable (λ n. reads_give (untyped n) goes_bound b)
reads_bound Tff b =
    reads_same same_bound (reads_word_then variable (λ n.
    reads_optional (untyped n) (starts_word_then (mark (codes ":")) _ no_strays)
    (inside_first (sees (codes ":")) goes_type)
    (reads_word_then (mark (codes ":")) (λ _. reads_then (reads_type b)
    (λ a. follows_empty _ goes_type goes_bound (within_second (sees (codes ":")) goes_type))
    (λ a. reads_give _ goes_bound b)))))

-- ---- formulas

-- words that may go on with a formula
abbrev pub goes_formula : Token → Bool
goes_formula w = joins w || goes_unit w

joins_apart : Apart joins goes_unit
joins_apart =
    apart_or (sees (codes "&")) _ goes_unit (mark_apart (codes "&") goes_unit refl)
    (apart_or (sees (codes "|")) (takes connective) goes_unit (mark_apart (codes "|") goes_unit refl)
    (by_connective (λ w. goes_unit w ≡ false) refl refl refl refl refl refl))

module _ (u : Kind → Phrase RawFormula) where
  abbrev binary : RawFormula → Kind → Phrase RawFormula
  binary a i = word connective >>= λ op. u i >>= λ b. empty (joined op a b)

  abbrev ands : RawFormula → Kind → Phrase RawFormula
  ands a i = chained (codes "&") f.And u a i

  abbrev ors : RawFormula → Kind → Phrase RawFormula
  ors a i = chained (codes "|") f.Or u a i

  same_formula : (i : Kind)
      → Same (u i >>= λ a. empty a or (ands a i or (ors a i or binary a i))) (formula_of (u i))
  same_formula i =
      factor_next (u i) (λ a. empty a) (λ a. ands a i or (ors a i or binary a i))
      (factor_next (u i) (λ a. ands a i) (λ a. ors a i or binary a i)
      (factor (u i) (λ a. ors a i) (λ a. binary a i)))

  starts_binary : (a : RawFormula) → Starts (binary a) (takes connective) no_strays
  starts_binary a = starts_word_then connective _ no_strays

  starts_ors : (a : RawFormula)
      → Starts (λ i. ors a i or binary a i) (λ w. sees (codes "|") w || takes connective w) no_strays
  starts_ors a =
      starts_or _ _ (sees (codes "|")) (takes connective) no_strays
      (starts_chained (codes "|") f.Or u a) (starts_binary a)

  starts_tail : (a : RawFormula)
      → Starts (λ i. ands a i or (ors a i or binary a i)) joins no_strays
  starts_tail a =
      starts_or _ _ (sees (codes "&")) _ no_strays (starts_chained (codes "&") f.And u a)
      (starts_ors a)

  module _ (b : ℕ) (r : Reads RawFormula) (h : Reading u goes_unit b r) where
    reads_chain : (m : List ℕ) (make : List RawFormula → RawFormula) (a : RawFormula)
        → Apart (sees m) goes_unit → Inside (sees m) goes_formula
        → Reading (chained m make u a) goes_formula b (chain_at m make r a)
    reads_chain m make a k j =
        reads_chained m make u a goes_unit goes_formula b r k (within_second joins goes_unit) j h

    reads_tail : (a : RawFormula)
        → Reading (λ i. ands a i or (ors a i or binary a i)) goes_formula b
        (choose (sees (codes "&")) (chain_at (codes "&") f.And r a)
        (choose (sees (codes "|")) (chain_at (codes "|") f.Or r a) (joined_at r a)))
    reads_tail a =
        reads_or (starts_chained (codes "&") f.And u a)
        (off_starts (starts_ors a) (mark_apart (codes "&") _ refl))
        (reads_chain (codes "&") f.And a (mark_apart (codes "&") goes_unit refl)
        (mark_inside (codes "&") goes_formula refl))
        (reads_or (starts_chained (codes "|") f.Or u a)
        (off_starts (starts_binary a) (mark_apart (codes "|") (takes connective) refl))
        (reads_chain (codes "|") f.Or a (mark_apart (codes "|") goes_unit refl)
        (mark_inside (codes "|") goes_formula refl))
        (reads_word_then connective (λ op. reads_then h
        (λ x. follows_empty (joined op a x) goes_unit goes_formula (within_second joins goes_unit))
        (λ x. reads_give (joined op a x) goes_formula b))))

    pub reads_formula_of : Reading (λ i. formula_of (u i)) goes_formula b (formula_at_of r)
    reads_formula_of =
        reads_same same_formula (reads_then h
        (λ a. follows_or _ _ goes_unit goes_formula
        (follows_empty a goes_unit goes_formula (within_second joins goes_unit))
        (follows_starts _ joins goes_unit goes_formula (starts_tail a) joins_apart))
        (λ a. reads_optional a (starts_tail a) (inside_first joins goes_unit) (reads_tail a)))

-- ---- units

module _ (l : Language) (inside : Kind → ℕ → Phrase RawFormula) where
  abbrev negated : Kind → Phrase RawFormula
  negated i = sign (codes "~") >> (inside i 1 >>= λ a. empty (f.Not a))

  abbrev inner : Kind → Phrase RawFormula
  inner i = formula_of (inside i 1)

  starts_six : Starts (λ i. bracketed inner i or atom_or_equation i)
      (λ w. left w || opens_literal w) stray_term
  starts_six = starts_or _ _ left opens_literal stray_term (starts_bracketed inner stray_term) starts_literal

  starts_five : Starts (λ i. fixed (codes "$false") f.False i
      or (bracketed inner i or atom_or_equation i))
      (λ w. sees_dollar (codes "$false") w || (left w || opens_literal w)) stray_term
  starts_five = starts_or _ _ _ _ stray_term (starts_fixed (codes "$false") f.False stray_term) starts_six

  starts_four : Starts (λ i. fixed (codes "$true") f.True i or (fixed (codes "$false") f.False i
      or (bracketed inner i or atom_or_equation i)))
      (λ w. sees_dollar (codes "$true") w || (sees_dollar (codes "$false") w
      || (left w || opens_literal w))) stray_term
  starts_four = starts_or _ _ _ _ stray_term (starts_fixed (codes "$true") f.True stray_term) starts_five

  starts_negated : (kind : Token → Option Stray) → Starts negated (sees (codes "~")) kind
  starts_negated kind = starts_word_then (mark (codes "~")) _ kind

  starts_three : Starts (λ i. negated i or (fixed (codes "$true") f.True i
      or (fixed (codes "$false") f.False i or (bracketed inner i or atom_or_equation i))))
      (λ w. sees (codes "~") w || (sees_dollar (codes "$true") w || (sees_dollar (codes "$false") w
      || (left w || opens_literal w)))) stray_term
  starts_three = starts_or _ _ _ _ stray_term (starts_negated stray_term) starts_four

  starts_two : Starts (λ i. binder (codes "?") f.Exists (bound l) inside i or (negated i
      or (fixed (codes "$true") f.True i or (fixed (codes "$false") f.False i
      or (bracketed inner i or atom_or_equation i)))))
      (λ w. sees (codes "?") w || (sees (codes "~") w || (sees_dollar (codes "$true") w
      || (sees_dollar (codes "$false") w || (left w || opens_literal w))))) stray_term
  starts_two =
      starts_or _ _ _ _ stray_term (starts_binder (codes "?") f.Exists (bound l) inside stray_term)
      starts_three

  starts_unit_rule : Starts (λ i. unit_rule l i (inside i)) opens_unit stray_term
  starts_unit_rule =
      starts_or _ _ _ _ stray_term (starts_binder (codes "!") f.ForAll (bound l) inside stray_term)
      starts_two

  opens_unit_rule : Opens (λ i. unit_rule l i (inside i)) opens_unit stray_term 0
  opens_unit_rule =
      opens_or _ _ (sees (codes "!")) _ no_strays stray_term 0
      (opens_binder (codes "!") f.ForAll (bound l) inside)
      (opens_or _ _ (sees (codes "?")) _ no_strays stray_term 0
      (opens_binder (codes "?") f.Exists (bound l) inside)
      (opens_or _ _ (sees (codes "~")) _ no_strays stray_term 0
      (opens_bind (λ _. word (mark (codes "~"))) _ (sees (codes "~")) no_strays 0
      (opens_word (mark (codes "~"))))
      (opens_or _ _ _ _ no_strays stray_term 0 (opens_fixed (codes "$true") f.True)
      (opens_or _ _ _ _ no_strays stray_term 0 (opens_fixed (codes "$false") f.False)
      (opens_or _ _ left opens_literal no_strays stray_term 0 (opens_bracketed inner)
      opens_a_literal)))))

  mark_strays : (m : List ℕ) → stray_term (record {
    kind = Rattle.tptp_words.specs.declared.word.WordKind.TheVariants.Mark;
    spelling = m;
  }) ≡ None → StraysApart stray_term (sees m)
  mark_strays m e = strays_apart stray_term (sees m) (by_mark m (λ w. stray_term w ≡ None) e)

  module _ (b : ℕ) (q : ℕ → Reads RawFormula)
      (h : (k : ℕ) → Reading (λ i. inside i k) goes_unit b (q k)) where
    reads_quantified : (m : List ℕ) (make : List Bound → RawFormula → RawFormula)
        → Reading (binder m make (bound l) inside) goes_unit b
        (Rattle.tptp_syntax.specs.Descent.quantified_at m make (bound_at l b) q)
    reads_quantified m make =
        reads_binder m make (bound l) inside goes_bound goes_unit goes_unit b (bound_at l b) q
        (mark_apart (codes ",") goes_bound refl) (mark_apart (codes "]") (or_comma goes_bound) refl)
        (within_self goes_unit) (reads_bound l b) h

    pub reads_unit_rule : Reading (λ i. unit_rule l i (inside i)) goes_unit b (unit_rule_at l b q)
    reads_unit_rule =
        reads_or (starts_binder (codes "!") f.ForAll (bound l) inside no_strays)
        (off_starts_stray stray_term starts_two (mark_apart (codes "!") _ refl)
        (mark_strays (codes "!") refl)) (reads_quantified (codes "!") f.ForAll)
        (reads_or (starts_binder (codes "?") f.Exists (bound l) inside no_strays)
        (off_starts_stray stray_term starts_three (mark_apart (codes "?") _ refl)
        (mark_strays (codes "?") refl)) (reads_quantified (codes "?") f.Exists)
        (reads_or (starts_negated no_strays)
        (off_starts_stray stray_term starts_four (mark_apart (codes "~") _ refl)
        (mark_strays (codes "~") refl))
        (reads_word_then (mark (codes "~")) (λ _. reads_then (h 1)
        (λ a. follows_empty (f.Not a) goes_unit goes_unit (within_self goes_unit))
        (λ a. reads_give (f.Not a) goes_unit b)))
        (reads_or (starts_fixed (codes "$true") f.True no_strays)
        (off_starts_stray stray_term starts_five (dollar_apart (codes "$true") _ refl)
        (dollar_strays (codes "$true") refl)) (reads_fixed (codes "$true") f.True goes_unit b)
        (reads_or (starts_fixed (codes "$false") f.False no_strays)
        (off_starts_stray stray_term starts_six (dollar_apart (codes "$false") _ refl)
        (dollar_strays (codes "$false") refl)) (reads_fixed (codes "$false") f.False goes_unit b)
        (reads_or (starts_bracketed inner no_strays)
        (off_starts_stray stray_term starts_literal (mark_apart (codes "(") opens_literal refl)
        (mark_strays (codes "(") refl))
        (reads_bracketed inner goes_formula goes_unit b (formula_at_of (q 1))
        (mark_apart (codes ")") goes_formula refl)
        (reads_formula_of (λ i. inside i 1) b (q 1) (h 1)))
        (reads_literal b))))))

unit_reads_rule : (l : Language)
    → ReadsRule (unit_rule l) opens_unit stray_term goes_unit (unit_rule_at l)
unit_reads_rule l =
    record { starts = starts_unit_rule l; opens = opens_unit_rule l; reads = reads_unit_rule l }

pub reads_unit : (l : Language) (b : ℕ) → Reading (nested (unit_rule l)) goes_unit b (unit_at l b)
unfolding unit_at unit_inside
reads_unit l b = reads_nested _ _ _ _ _ (unit_reads_rule l) b

pub reads_unit_inside : (l : Language) (b k : ℕ)
    → Reading (λ i. deeper (unit_rule l) i k) goes_unit b (unit_inside l b k)
unfolding unit_inside
reads_unit_inside l b k = reads_deeper _ _ _ _ _ (unit_reads_rule l) b k

same_formulas : (l : Language) (i : Kind) → Same (formula_of (nested (unit_rule l) i)) (formula l i)
unfolding formula
same_formulas l i = same_path _ _ refl

pub reads_formula : (l : Language) (b : ℕ) → Reading (formula l) goes_formula b (formula_at l b)
unfolding formula_at
reads_formula l b =
    reads_same (same_formulas l) (reads_formula_of (nested (unit_rule l)) b (unit_at l b) (reads_unit l b))

-- ---- the loops and the limit of formulas

pub bounds_after_commas : (l : Language) (b : ℕ) → Repeats (λ i. sign (codes ",") >> bound l i)
    (sees (codes ",")) (sees (codes ",")) no_strays goes_bound (or_comma goes_bound) b
    (behind (mark (codes ",")) (bound_at l b))
bounds_after_commas l b =
    after_commas (bound l) goes_bound b (bound_at l b) (mark_apart (codes ",") goes_bound refl)
    (reads_bound l b)

abbrev inner_unit : Language → Kind → Phrase RawFormula
inner_unit l i = deeper (unit_rule l) i 1

units_behind : (l : Language) (b : ℕ) (m : List ℕ) → Apart (sees m) goes_unit
    → Inside (sees m) goes_formula
    → Repeats (λ i. sign m >> inner_unit l i) (sees m) (sees m) no_strays goes_unit goes_formula b
    (behind (mark m) (unit_inside l b 1))
units_behind l b m a j =
    repeats_behind m (inner_unit l) goes_unit goes_formula b (unit_inside l b 1) a
    (within_second joins goes_unit) j (reads_unit_inside l b 1)

abbrev pub Units : Language → ℕ → Fixed → Type 0
Units l b w =
    Repeats (λ i. word (fixed_word w) >> inner_unit l i) (takes (fixed_word w)) (takes (fixed_word w))
    no_strays goes_unit goes_formula b (behind (fixed_word w) (unit_inside l b 1))

pub units_after : (l : Language) (b : ℕ) (w : Fixed) → IsJoining w → Units l b w
units_after l b w (inl e) =
    subst (λ z. Units l b z) (sym e)
    (units_behind l b (codes "&") (mark_apart (codes "&") goes_unit refl)
    (mark_inside (codes "&") goes_formula refl))
units_after l b w (inr e) =
    subst (λ z. Units l b z) (sym e)
    (units_behind l b (codes "|") (mark_apart (codes "|") goes_unit refl)
    (mark_inside (codes "|") goes_formula refl))

pub no_unit_inside : (l : Language) (n k : ℕ) → 0 < k → n < k → (s : Left)
    → unit_inside l n k s ≡ Err (limit_cause opens_unit stray_term (seen s), s)
unfolding unit_inside
no_unit_inside l n k h i s = no_level opens_unit stray_term (unit_rule_at l) n k h i s

pub some_unit_inside : (l : Language) (n k : ℕ) → 0 < k → k ≤ n
    → unit_inside l n k ≡ unit_at l (n - k)
unfolding unit_inside unit_at
some_unit_inside l n k h i = some_level opens_unit stray_term (unit_rule_at l) n k h i

pub top_formula : (l : Language) (n : ℕ) → formula_at_of (unit_inside l (n + 1) 1) ≡ formula_at l n
unfolding unit_inside unit_at formula_at
top_formula l n = ap formula_at_of (top_level opens_unit stray_term (unit_rule_at l) n)
