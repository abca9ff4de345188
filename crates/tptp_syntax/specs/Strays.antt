-- What words stand for in files, and the kinds of stray words: those that are refused by a number of
-- their own where they stand.
use Rattle.std.specs.Prelude.{ℕ, Bool, true, false, ◌||◌, if◌then◌else◌, List, [], ◌∷◌, Option}
use Rattle.std.specs.Prelude.{Some, None, codes}
use Rattle.tptp_words.specs.declared.word.WordKind.{WordKind}
use Rattle.tptp_words.specs.declared.word.WordKind.TheVariants as kind
use Rattle.tptp_words.specs.Text.{Token}
use Rattle.tptp_words.specs.Words.{same, name_of, digits_of}
use Rattle.tptp_syntax.specs.declared.entry.StatedRole.{StatedRole}
use Rattle.tptp_syntax.specs.declared.entry.StatedRole.TheVariants.{Hypothesis, Conjecture}
use Rattle.tptp_syntax.specs.declared.language.Language.{Language}
use Rattle.tptp_syntax.specs.declared.language.Language.TheVariants.{Tff, Fof}
use Rattle.tptp_syntax.specs.declared.language.Connective.{Connective}
use Rattle.tptp_syntax.specs.declared.language.Connective.TheVariants as c

abbrev pub is_one_of : List ℕ → List (List ℕ) → Bool
is_one_of s [] = false
is_one_of s (m ∷ ms) = same s m || is_one_of s ms

abbrev pub only_if : {A : Type 0} → Bool → A → Option A
only_if true a = Some a
only_if false a = None

-- ---- labels, languages and roles

abbrev pub label_of : WordKind → List ℕ → Option (List ℕ)
label_of kind.Number s = digits_of kind.Number s
label_of k s = name_of k s

-- a label: a name, or digits alone
abbrev pub label : Token → Option (List ℕ)
label w = label_of w.kind w.spelling

abbrev pub language_of : WordKind → List ℕ → Option Language
language_of kind.Lower s =
    if same s (codes "tff") then Some Tff else if same s (codes "fof") then Some Fof else None
language_of k s = None

-- a language, not quoted
abbrev pub language : Token → Option Language
language w = language_of w.kind w.spelling

-- the roles of hypotheses
abbrev pub hypotheses : List (List ℕ)
hypotheses =
    codes "axiom" ∷ codes "hypothesis" ∷ codes "definition" ∷ codes "assumption" ∷ codes "lemma"
    ∷ codes "theorem" ∷ codes "corollary" ∷ codes "plain" ∷ codes "negated_conjecture" ∷ []

abbrev pub role_of : WordKind → List ℕ → Option StatedRole
role_of kind.Lower s =
    if same s (codes "conjecture") then Some Conjecture
    else only_if (is_one_of s hypotheses) Hypothesis
role_of k s = None

-- a role of statements, not quoted
abbrev pub role : Token → Option StatedRole
role w = role_of w.kind w.spelling

-- ---- connectives

abbrev pub connective_of : WordKind → List ℕ → Option Connective
connective_of kind.Mark s =
    if same s (codes "=>") then Some c.Implies
    else if same s (codes "<=") then Some c.If
    else if same s (codes "<=>") then Some c.Iff
    else if same s (codes "<~>") then Some c.Xor
    else if same s (codes "~&") then Some c.Nand
    else only_if (same s (codes "~|")) c.Nor
connective_of k s = None

-- a connective that joins two formulas and is not repeated
abbrev pub connective : Token → Option Connective
connective w = connective_of w.kind w.spelling

-- ---- stray words

-- the kinds of stray words, each after the number that refuses it
pub data Stray : Type 0 where
  OfLanguage OfRole OfNumber OfDistinctObject OfInclude : Stray

abbrev pub unless : {A : Type 0} → Bool → A → Option A
unless true a = None
unless false a = Some a

abbrev pub stray_language_of : WordKind → List ℕ → Option Stray
stray_language_of kind.Lower s =
    if same s (codes "tff") || same s (codes "fof") then None
    else if same s (codes "include") then Some OfInclude
    else Some OfLanguage
stray_language_of k s = None

-- a Lower word in the place of a language that is none
abbrev pub stray_language : Token → Option Stray
stray_language w = stray_language_of w.kind w.spelling

-- whether a Lower word may stand in the place of a role
abbrev pub is_role : Language → List ℕ → Bool
is_role Tff s = same s (codes "type") || (same s (codes "conjecture") || is_one_of s hypotheses)
is_role Fof s = same s (codes "conjecture") || is_one_of s hypotheses

abbrev pub stray_role_of : Language → WordKind → List ℕ → Option Stray
stray_role_of l kind.Lower s = unless (is_role l s) OfRole
stray_role_of l k s = None

-- a Lower word in the place of a role that is none in this language
abbrev pub stray_role : Language → Token → Option Stray
stray_role l w = stray_role_of l w.kind w.spelling

-- the types of numbers
abbrev pub numbers : List (List ℕ)
numbers = codes "$int" ∷ codes "$rat" ∷ codes "$real" ∷ []

abbrev pub stray_type_of : WordKind → List ℕ → Option Stray
stray_type_of kind.Number s = Some OfNumber
stray_type_of kind.Dollar s = only_if (is_one_of s numbers) OfNumber
stray_type_of k s = None

-- a number or a type of numbers, where a type may begin
abbrev pub stray_type : Token → Option Stray
stray_type w = stray_type_of w.kind w.spelling

abbrev pub stray_term_of : WordKind → List ℕ → Option Stray
stray_term_of kind.Number s = Some OfNumber
stray_term_of kind.Distinct s = Some OfDistinctObject
stray_term_of kind.Dollar s =
    if same s (codes "$distinct") then Some OfDistinctObject
    else only_if (is_one_of s numbers) OfNumber
stray_term_of k s = None

-- a number, a type of numbers, a distinct object or `$distinct`, where a term or an atom may begin
abbrev pub stray_term : Token → Option Stray
stray_term w = stray_term_of w.kind w.spelling
