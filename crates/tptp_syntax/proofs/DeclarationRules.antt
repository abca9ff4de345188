-- The readers of whole types and of declarations read them.
use Rattle.std.proofs.Common.{◌≡◌, ℕ, List}
use Rattle.std.proofs.Common.{Some, None, refl, ◌<◌, ◌≤◌, ◌-◌, Err}
use Rattle.tptp_words.specs.Scanning.{Left}
use Rattle.tptp_phrases.specs.Readers.{behind, limit_cause, seen}
use Rattle.tptp_phrases.proofs.Repetition.{Repeats}
use Rattle.tptp_phrases.proofs.Turns.{no_level, some_level}
use Rattle.tptp_syntax.proofs.SharedRules.{after_commas, repeats_behind}
use Rattle.std.specs.Prelude.{codes}
use Rattle.tptp_words.specs.Words.{name, variable, mark, dollar}
use Rattle.tptp_phrases.specs.Phrase.{Phrase, empty, word, ◌>>=◌, ◌>>◌, ◌or◌}
use Rattle.tptp_phrases.specs.Phrase.{deeper, nested}
use Rattle.tptp_phrases.specs.Readers.{Reader, no_strays, takes, take_word, give, choose, refuse_stray}
use Rattle.tptp_phrases.specs.Readers as d
use Rattle.tptp_phrases.proofs.Outcomes.{Reading, Starts, Opens, never}
use Rattle.tptp_phrases.proofs.Sequences.{reads_then, reads_give}
use Rattle.tptp_phrases.proofs.Forms.{Same, reads_same, starts_same, opens_same, factor, same_path}
use Rattle.tptp_phrases.proofs.Firsts.{opens_word, opens_bind, opens_or, starts_bind, starts_or}
use Rattle.tptp_phrases.proofs.Firsts.{follows_empty, follows_or, follows_starts}
use Rattle.tptp_phrases.proofs.Choices.{reads_word_then, starts_word_then, reads_optional}
use Rattle.tptp_phrases.proofs.Choices.{reads_or, off_starts, off_starts_stray}
use Rattle.tptp_phrases.proofs.Limits.{ReadsRule, reads_nested, reads_deeper, starts_nested}
use Rattle.tptp_syntax.specs.declared.types.TypeExpr.{TypeExpr}
use Rattle.tptp_syntax.specs.declared.types.TypeExpr.TheVariants as y
use Rattle.tptp_syntax.specs.Strays.{stray_type}
use Rattle.tptp_syntax.specs.Grammar.{Kind, sign, pair, type_variable, unit_type, product}
use Rattle.tptp_syntax.specs.Grammar.{type_rule, type_of, declaration_rule, declaration}
use Rattle.tptp_syntax.specs.Descent.{Reads, sees, type_variable_at, unit_type_at, product_at}
use Rattle.tptp_syntax.specs.Descent.{type_rule_at, opens_unit_type, opens_type, type_inside, type_at}
use Rattle.tptp_syntax.specs.Descent.{declaration_rule_at, opens_declaration, declaration_inside}
use Rattle.tptp_syntax.specs.Descent.{declaration_at, pair_at}
use Rattle.tptp_syntax.proofs.KnownWords.{mark_apart, name_apart, strays_apart, by_mark}
use Rattle.tptp_syntax.proofs.KnownWords.{within_second, within_self, inside_first}
use Rattle.tptp_syntax.proofs.SharedRules.{or_comma, left, paired, starts_paired, reads_paired}
use Rattle.tptp_syntax.proofs.SharedRules.{starts_binder, opens_binder, reads_binder}
use Rattle.tptp_syntax.proofs.SharedRules.{starts_bracketed, opens_bracketed, reads_bracketed}
use Rattle.tptp_syntax.proofs.TypeRules.{goes_product, goes_type, left_in_type, starts_unit_type}
use Rattle.tptp_syntax.proofs.TypeRules.{opens_a_unit_type, reads_unit_type, starts_product}
use Rattle.tptp_syntax.proofs.TypeRules.{opens_product, reads_product}

-- ---- types

reads_type_variable : (b : ℕ) → Reading (λ (i : Kind). type_variable) never b type_variable_at
reads_type_variable b =
    reads_word_then variable (λ n. reads_word_then (mark (codes ":")) (λ _.
    reads_word_then (dollar (codes "$tType")) (λ _.
    reads_give (record { name = n; kind = Some y.Types }) never b)))

module _ (inside : Kind → ℕ → Phrase TypeExpr) where
  abbrev unit_inside : Kind → Phrase TypeExpr
  unit_inside i = unit_type (inside i 1) i

  abbrev mapped : Kind → Phrase TypeExpr
  mapped i =
      (product (unit_inside i) >>= λ a. empty a)
      or pair (codes ">") y.Map (product (unit_inside i)) (unit_inside i)

  same_mapped : (i : Kind)
      → Same (product (unit_inside i) >>= λ a. empty a or paired (codes ">") y.Map unit_inside a i)
      (mapped i)
  same_mapped i =
      factor (product (unit_inside i)) (λ a. empty a) (λ a. paired (codes ">") y.Map unit_inside a i)

  starts_mapped : Starts mapped opens_unit_type stray_type
  starts_mapped =
      starts_same _ _ same_mapped opens_unit_type stray_type
      (starts_bind _ _ opens_unit_type stray_type
      (starts_product unit_inside opens_unit_type stray_type (starts_unit_type (λ i. inside i 1))))

  opens_mapped : Opens mapped opens_unit_type stray_type 0
  opens_mapped =
      opens_same _ _ same_mapped opens_unit_type stray_type 0
      (opens_bind _ _ opens_unit_type stray_type 0
      (opens_product unit_inside opens_unit_type stray_type (opens_a_unit_type (λ i. inside i 1))))

  starts_type_rule : Starts (λ i. type_rule i (inside i)) opens_type stray_type
  starts_type_rule =
      starts_or _ _ (sees (codes "!>")) opens_unit_type stray_type
      (starts_binder (codes "!>") y.Quantified (λ _. type_variable) inside stray_type) starts_mapped

  opens_type_rule : Opens (λ i. type_rule i (inside i)) opens_type stray_type 0
  opens_type_rule =
      opens_or _ _ (sees (codes "!>")) opens_unit_type no_strays stray_type 0
      (opens_binder (codes "!>") y.Quantified (λ _. type_variable) inside) opens_mapped

  module _ (b : ℕ) (q : ℕ → Reads TypeExpr)
      (h : (k : ℕ) → Reading (λ i. inside i k) goes_type b (q k)) where
    reads_unit_inside : Reading unit_inside left b (unit_type_at (q 1))
    reads_unit_inside = reads_unit_type (λ i. inside i 1) b (q 1) (h 1)

    reads_mapped : Reading mapped goes_type b (d.◌>>=◌ (product_at (unit_type_at (q 1))) (λ a.
        choose (sees (codes ">")) (pair_at (codes ">") y.Map (unit_type_at (q 1)) a) (give a)))
    reads_mapped =
        reads_same same_mapped
        (reads_then (reads_product unit_inside b (unit_type_at (q 1)) reads_unit_inside)
        (λ a. follows_or _ _ goes_product goes_type
        (follows_empty a goes_product goes_type (within_second (sees (codes ">")) goes_product))
        (follows_starts _ (sees (codes ">")) goes_product goes_type
        (starts_paired (codes ">") y.Map unit_inside a) (mark_apart (codes ">") goes_product refl)))
        (λ a. reads_optional a (starts_paired (codes ">") y.Map unit_inside a)
        (inside_first (sees (codes ">")) goes_product)
        (reads_paired (codes ">") y.Map unit_inside a left goes_type b (unit_type_at (q 1))
        left_in_type reads_unit_inside)))

    reads_type_rule : Reading (λ i. type_rule i (inside i)) goes_type b (type_rule_at b q)
    reads_type_rule =
        reads_or (starts_binder (codes "!>") y.Quantified (λ _. type_variable) inside no_strays)
        (off_starts_stray stray_type starts_mapped (mark_apart (codes "!>") opens_unit_type refl)
        (strays_apart stray_type (sees (codes "!>"))
        (by_mark (codes "!>") (λ w. stray_type w ≡ None) refl)))
        (reads_binder (codes "!>") y.Quantified (λ _. type_variable) inside never goes_type goes_type
        b type_variable_at q (λ w e. refl) (mark_apart (codes "]") (or_comma never) refl)
        (within_self goes_type) (reads_type_variable b) h)
        reads_mapped

type_reads_rule : ReadsRule type_rule opens_type stray_type goes_type type_rule_at
type_reads_rule =
    record { starts = starts_type_rule; opens = opens_type_rule; reads = reads_type_rule }

same_type : (i : Kind) → Same (nested type_rule i) (type_of i)
unfolding type_of
same_type i = same_path _ _ refl

pub starts_type : Starts type_of opens_type stray_type
starts_type =
    starts_same _ _ same_type opens_type stray_type (starts_nested _ _ _ _ _ type_reads_rule)

pub reads_type : (b : ℕ) → Reading type_of goes_type b (type_at b)
unfolding type_at type_inside
reads_type b = reads_same same_type (reads_nested _ _ _ _ _ type_reads_rule b)

pub reads_type_inside : (b k : ℕ)
    → Reading (λ i. deeper type_rule i k) goes_type b (type_inside b k)
unfolding type_inside
reads_type_inside b k = reads_deeper _ _ _ _ _ type_reads_rule b k

-- ---- the loops and the limit of types

abbrev inner_unit : Kind → Phrase TypeExpr
inner_unit i = unit_type (deeper type_rule i 1) i

pub types_after_commas : (b : ℕ) → Repeats (λ i. sign (codes ",") >> deeper type_rule i 1)
    (sees (codes ",")) (sees (codes ",")) no_strays goes_type (or_comma goes_type) b
    (behind (mark (codes ",")) (type_inside b 1))
types_after_commas b =
    after_commas (λ i. deeper type_rule i 1) goes_type b (type_inside b 1)
    (mark_apart (codes ",") goes_type refl) (reads_type_inside b 1)

pub parts_after_stars : (b : ℕ) → Repeats (λ i. sign (codes "*") >> inner_unit i)
    (sees (codes "*")) (sees (codes "*")) no_strays left goes_product b
    (behind (mark (codes "*")) (unit_type_at (type_inside b 1)))
parts_after_stars b =
    repeats_behind (codes "*") inner_unit left goes_product b (unit_type_at (type_inside b 1))
    (mark_apart (codes "*") left refl) (within_second (sees (codes "*")) left)
    (inside_first (sees (codes "*")) left)
    (reads_unit_type (λ i. deeper type_rule i 1) b (type_inside b 1) (reads_type_inside b 1))

pub variables_after_commas : Repeats (λ (i : Kind). sign (codes ",") >> type_variable)
    (sees (codes ",")) (sees (codes ",")) no_strays never (or_comma never) 0
    (behind (mark (codes ",")) type_variable_at)
variables_after_commas =
    after_commas (λ _. type_variable) never 0 type_variable_at (λ w e. refl) (reads_type_variable 0)

pub no_type_inside : (n k : ℕ) → 0 < k → n < k → (s : Left)
    → type_inside n k s ≡ Err (limit_cause opens_type stray_type (seen s), s)
unfolding type_inside
no_type_inside n k h i s = no_level opens_type stray_type type_rule_at n k h i s

pub some_type_inside : (n k : ℕ) → 0 < k → k ≤ n → type_inside n k ≡ type_at (n - k)
unfolding type_inside type_at
some_type_inside n k h i = some_level opens_type stray_type type_rule_at n k h i

-- ---- declarations

module _ (inside : Kind → ℕ → Phrase (List ℕ × TypeExpr)) where
  abbrev declared : Kind → Phrase (List ℕ × TypeExpr)
  declared i =
      word name >>= λ n. sign (codes ":") >> (type_of i >>= λ body. empty (n, body))

  starts_declaration_rule : Starts (λ i. declaration_rule i (inside i)) opens_declaration no_strays
  starts_declaration_rule =
      starts_or declared _ (takes name) left no_strays (starts_word_then name _ no_strays)
      (starts_bracketed (λ i. inside i 1) no_strays)

  opens_declaration_rule : Opens (λ i. declaration_rule i (inside i)) opens_declaration no_strays 0
  opens_declaration_rule =
      opens_or declared _ (takes name) left no_strays no_strays 0
      (opens_bind (λ _. word name) _ (takes name) no_strays 0 (opens_word name))
      (opens_bracketed (λ i. inside i 1))

  module _ (b : ℕ) (q : ℕ → Reads (List ℕ × TypeExpr))
      (h : (k : ℕ) → Reading (λ i. inside i k) goes_type b (q k)) where
    reads_declaration_rule : Reading (λ i. declaration_rule i (inside i)) goes_type b
        (declaration_rule_at b q)
    reads_declaration_rule =
        reads_or {p = declared} (starts_word_then name _ no_strays)
        (off_starts (starts_bracketed (λ i. inside i 1) no_strays)
        (name_apart left (λ s. refl) (λ s. refl)))
        (reads_word_then name (λ n. reads_word_then (mark (codes ":")) (λ _.
        reads_then (reads_type b) (λ body. follows_empty (n, body) goes_type goes_type
        (within_self goes_type)) (λ body. reads_give (n, body) goes_type b))))
        (reads_bracketed (λ i. inside i 1) goes_type goes_type b (q 1)
        (mark_apart (codes ")") goes_type refl) (h 1))

pub declaration_reads_rule : ReadsRule declaration_rule opens_declaration no_strays goes_type
    declaration_rule_at
declaration_reads_rule = record {
  starts = starts_declaration_rule;
  opens = opens_declaration_rule;
  reads = reads_declaration_rule;
}

same_declaration : (i : Kind) → Same (nested declaration_rule i) (declaration i)
unfolding declaration
same_declaration i = same_path _ _ refl

pub reads_declaration : (b : ℕ) → Reading declaration goes_type b (declaration_at b)
unfolding declaration_at declaration_inside
reads_declaration b = reads_same same_declaration (reads_nested _ _ _ _ _ declaration_reads_rule b)

pub reads_declaration_inside : (b k : ℕ)
    → Reading (λ i. deeper declaration_rule i k) goes_type b (declaration_inside b k)
unfolding declaration_inside
reads_declaration_inside b k = reads_deeper _ _ _ _ _ declaration_reads_rule b k

pub no_declaration_inside : (n k : ℕ) → 0 < k → n < k → (s : Left)
    → declaration_inside n k s ≡ Err (limit_cause opens_declaration no_strays (seen s), s)
unfolding declaration_inside
no_declaration_inside n k h i s =
    no_level opens_declaration no_strays declaration_rule_at n k h i s

pub some_declaration_inside : (n k : ℕ) → 0 < k → k ≤ n
    → declaration_inside n k ≡ declaration_at (n - k)
unfolding declaration_inside declaration_at
some_declaration_inside n k h i =
    some_level opens_declaration no_strays declaration_rule_at n k h i
