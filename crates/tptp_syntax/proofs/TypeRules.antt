-- The readers of types and declarations read them.
use Rattle.std.proofs.Common.{◌≡◌, ℕ, List, Bool, ◌||◌}
use Rattle.std.proofs.Common.{Option, None, refl}
use Rattle.std.specs.Prelude.{codes}
use Rattle.tptp_words.specs.Text.{Token}
use Rattle.tptp_words.specs.Words.{name, variable}
use Rattle.tptp_phrases.specs.Phrase.{Phrase, empty, word, stray, ◌>>=◌, ◌or◌}
use Rattle.tptp_phrases.specs.Readers.{no_strays, takes}
use Rattle.tptp_phrases.proofs.Outcomes.{Reading, Starts, Opens, Within}
use Rattle.tptp_phrases.proofs.Outcomes.{StraysApart}
use Rattle.tptp_phrases.proofs.Sequences.{reads_then, reads_give}
use Rattle.tptp_phrases.proofs.Forms.{Same, reads_same, starts_same, opens_same, factor}
use Rattle.tptp_phrases.proofs.Firsts.{opens_word, opens_bind, opens_or, opens_or_stray, starts_bind}
use Rattle.tptp_phrases.proofs.Firsts.{starts_or, starts_or_stray, follows_empty}
use Rattle.tptp_phrases.proofs.Firsts.{follows_or, follows_starts}
use Rattle.tptp_phrases.proofs.Choices.{reads_word_then, starts_word_then, reads_optional}
use Rattle.tptp_phrases.proofs.Choices.{reads_or, reads_or_stray, off_starts_stray}
use Rattle.tptp_syntax.specs.declared.types.TypeExpr.{TypeExpr}
use Rattle.tptp_syntax.specs.declared.types.TypeExpr.TheVariants as y
use Rattle.tptp_syntax.specs.Strays.{Stray, stray_type}
use Rattle.tptp_syntax.specs.Grammar.{Kind, application}
use Rattle.tptp_syntax.specs.Grammar.{unit_type, product}
use Rattle.tptp_syntax.specs.Descent.{Reads, sees, sees_dollar, unit_type_at}
use Rattle.tptp_syntax.specs.Descent.{product_at, opens_unit_type}
use Rattle.tptp_syntax.proofs.KnownWords.{mark_apart, dollar_apart, variable_apart}
use Rattle.tptp_syntax.proofs.KnownWords.{name_apart, strays_apart, by_mark, by_dollar, by_variable}
use Rattle.tptp_syntax.proofs.KnownWords.{by_name, within_second}
use Rattle.tptp_syntax.proofs.KnownWords.{inside_first}
use Rattle.tptp_syntax.proofs.SharedRules.{or_comma, left, starts_application, opens_application}
use Rattle.tptp_syntax.proofs.SharedRules.{reads_application, chained, starts_chained, reads_chained}
use Rattle.tptp_syntax.proofs.SharedRules.{starts_bracketed}
use Rattle.tptp_syntax.proofs.SharedRules.{opens_bracketed, reads_bracketed, starts_fixed, opens_fixed}
use Rattle.tptp_syntax.proofs.SharedRules.{reads_fixed, bracketed, fixed}

-- words that may go on with a product, and with a type
abbrev pub goes_product : Token → Bool
goes_product w = sees (codes "*") w || left w

abbrev pub goes_type : Token → Bool
goes_type w = sees (codes ">") w || goes_product w

pub left_in_type : Within left goes_type
left_in_type w h =
    within_second (sees (codes "*")) left w (within_second (sees (codes ">")) goes_product w h)

-- ---- units of types

module _ (inner : Kind → Phrase TypeExpr) where
  a_variable : Kind → Phrase TypeExpr
  a_variable i = word variable >>= λ n. empty (y.Variable n)

  starts_variable : (kind : Token → Option Stray) → Starts a_variable (takes variable) kind
  unfolding a_variable
  starts_variable kind = starts_word_then variable _ kind

  last_starts : Starts (λ i. bracketed inner i or stray stray_type i) left stray_type
  last_starts = starts_or_stray _ left stray_type (starts_bracketed inner stray_type)

  types_starts : Starts (λ i. fixed (codes "$tType") y.Types i
      or (bracketed inner i or stray stray_type i))
      (λ w. sees_dollar (codes "$tType") w || left w) stray_type
  types_starts = starts_or _ _ _ left stray_type (starts_fixed _ _ stray_type) last_starts

  truth_starts : Starts (λ i. fixed (codes "$o") y.Truth i or (fixed (codes "$tType") y.Types i
      or (bracketed inner i or stray stray_type i)))
      (λ w. sees_dollar (codes "$o") w || (sees_dollar (codes "$tType") w || left w)) stray_type
  truth_starts = starts_or _ _ _ _ stray_type (starts_fixed _ _ stray_type) types_starts

  individuals_starts : Starts (λ i. fixed (codes "$i") y.Individuals i
      or (fixed (codes "$o") y.Truth i or (fixed (codes "$tType") y.Types i
      or (bracketed inner i or stray stray_type i))))
      (λ w. sees_dollar (codes "$i") w || (sees_dollar (codes "$o") w
      || (sees_dollar (codes "$tType") w || left w))) stray_type
  individuals_starts = starts_or _ _ _ _ stray_type (starts_fixed _ _ stray_type) truth_starts

  name_starts : Starts (λ i. application y.Apply (inner i)
      or (fixed (codes "$i") y.Individuals i or (fixed (codes "$o") y.Truth i
      or (fixed (codes "$tType") y.Types i or (bracketed inner i or stray stray_type i)))))
      (λ w. takes name w || (sees_dollar (codes "$i") w || (sees_dollar (codes "$o") w
      || (sees_dollar (codes "$tType") w || left w)))) stray_type
  name_starts =
      starts_or _ _ _ _ stray_type (starts_application y.Apply inner stray_type) individuals_starts

  pub starts_unit_type : Starts (λ i. unit_type (inner i) i) opens_unit_type stray_type
  unfolding a_variable
  starts_unit_type = starts_or _ _ _ _ stray_type (starts_variable stray_type) name_starts

  pub opens_a_unit_type : Opens (λ i. unit_type (inner i) i) opens_unit_type stray_type 0
  opens_a_unit_type =
      opens_or _ _ (takes variable) _ no_strays stray_type 0
      (opens_bind (λ _. word variable) _ (takes variable) no_strays 0 (opens_word variable))
      (opens_or _ _ (takes name) _ no_strays stray_type 0 (opens_application y.Apply inner)
      (opens_or _ _ _ _ no_strays stray_type 0 (opens_fixed (codes "$i") y.Individuals)
      (opens_or _ _ _ _ no_strays stray_type 0 (opens_fixed (codes "$o") y.Truth)
      (opens_or _ _ _ _ no_strays stray_type 0 (opens_fixed (codes "$tType") y.Types)
      (opens_or_stray _ left no_strays stray_type 0 (opens_bracketed inner))))))

  dollar_strays : (m : List ℕ) → stray_type (record {
    kind = Rattle.tptp_words.specs.declared.word.WordKind.TheVariants.Dollar;
    spelling = m;
  }) ≡ None → StraysApart stray_type (sees_dollar m)
  dollar_strays m e = strays_apart stray_type (sees_dollar m) (by_dollar m (λ w. stray_type w ≡ None) e)

  pub reads_unit_type : (b : ℕ) (r : Reads TypeExpr) → Reading inner goes_type b r
      → Reading (λ i. unit_type (inner i) i) left b (unit_type_at r)
  unfolding a_variable
  reads_unit_type b r h =
      reads_or (starts_variable no_strays)
      (off_starts_stray stray_type name_starts (variable_apart _ (λ s. refl))
      (strays_apart stray_type (takes variable) (by_variable (λ w. stray_type w ≡ None) (λ s. refl))))
      (reads_word_then variable (λ n. reads_give (y.Variable n) left b))
      (reads_or (starts_application y.Apply inner no_strays)
      (off_starts_stray stray_type individuals_starts (name_apart _ (λ s. refl) (λ s. refl))
      (strays_apart stray_type (takes name)
      (by_name (λ w. stray_type w ≡ None) (λ s. refl) (λ s. refl))))
      (reads_application y.Apply inner goes_type left b r (mark_apart (codes ",") goes_type refl)
      (mark_apart (codes ")") (or_comma goes_type) refl) (λ w e. e) h)
      (reads_or (starts_fixed (codes "$i") y.Individuals no_strays)
      (off_starts_stray stray_type truth_starts (dollar_apart (codes "$i") _ refl)
      (dollar_strays (codes "$i") refl)) (reads_fixed (codes "$i") y.Individuals left b)
      (reads_or (starts_fixed (codes "$o") y.Truth no_strays)
      (off_starts_stray stray_type types_starts (dollar_apart (codes "$o") _ refl)
      (dollar_strays (codes "$o") refl)) (reads_fixed (codes "$o") y.Truth left b)
      (reads_or (starts_fixed (codes "$tType") y.Types no_strays)
      (off_starts_stray stray_type last_starts (dollar_apart (codes "$tType") _ refl)
      (dollar_strays (codes "$tType") refl)) (reads_fixed (codes "$tType") y.Types left b)
      (reads_or_stray stray_type (starts_bracketed inner no_strays)
      (strays_apart stray_type left (by_mark (codes "(") (λ w. stray_type w ≡ None) refl))
      (reads_bracketed inner goes_type left b r (mark_apart (codes ")") goes_type refl) h))))))

-- ---- products

module _ (u : Kind → Phrase TypeExpr) where
  same_product : (i : Kind)
      → Same (u i >>= λ a. empty a or chained (codes "*") y.Product u a i) (product (u i))
  same_product i = factor (u i) (λ a. empty a) (λ a. chained (codes "*") y.Product u a i)

  pub starts_product : (t : Token → Bool) (kind : Token → Option Stray) → Starts u t kind
      → Starts (λ i. product (u i)) t kind
  starts_product t kind h = starts_same _ _ same_product t kind (starts_bind u _ t kind h)

  pub opens_product : (t : Token → Bool) (kind : Token → Option Stray) → Opens u t kind 0
      → Opens (λ i. product (u i)) t kind 0
  opens_product t kind h = opens_same _ _ same_product t kind 0 (opens_bind u _ t kind 0 h)

  pub reads_product : (b : ℕ) (r : Reads TypeExpr) → Reading u left b r
      → Reading (λ i. product (u i)) goes_product b (product_at r)
  reads_product b r h =
      reads_same same_product (reads_then h
      (λ a. follows_or _ _ left goes_product
      (follows_empty a left goes_product (within_second (sees (codes "*")) left))
      (follows_starts _ (sees (codes "*")) left goes_product
      (starts_chained (codes "*") y.Product u a) (mark_apart (codes "*") left refl)))
      (λ a. reads_optional a (starts_chained (codes "*") y.Product u a)
      (inside_first (sees (codes "*")) left)
      (reads_chained (codes "*") y.Product u a left goes_product b r
      (mark_apart (codes "*") left refl) (within_second (sees (codes "*")) left)
      (inside_first (sees (codes "*")) left) h)))
