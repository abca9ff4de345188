-- The text of a problem: TPTP's `fof` form, one formula a line. First the words, then the spaces.
use Rattle.std.specs.Prelude.{ℕ, ◌+◌, ◌-◌, Bool, false, ◌||◌, ◌&&◌, if◌then◌else◌, List, [], ◌∷◌}
use Rattle.std.specs.Prelude.{◌++◌, map, codes}
use Rattle.std.specs.List.{list_all}
use Rattle.std.specs.Fmt.{decimal}
use Rattle.std.specs.Char.{is_ascii_lowercase, is_ascii_digit}
use Rattle.fof_models.specs.declared.formula.FofTerm.{FofTerm}
use Rattle.fof_models.specs.declared.formula.FofTerm.TheOpen.{FofTerm-F}
use Rattle.fof_models.specs.declared.formula.FofTerm.TheOpen as term
use Rattle.fof_models.specs.declared.formula.FofTerm.TheFolds.{fold-FofTerm}
use Rattle.fof_models.specs.declared.formula.Fof.{Fof}
use Rattle.fof_models.specs.declared.formula.Fof.TheOpen.{Fof-F}
use Rattle.fof_models.specs.declared.formula.Fof.TheOpen as layer
use Rattle.fof_models.specs.declared.formula.Fof.TheFolds.{fold-Fof}
use Rattle.fof_models.specs.declared.problem.FofRole.{FofRole}
use Rattle.fof_models.specs.declared.problem.FofRole.TheVariants.{Axiom, NegatedConjecture}
use Rattle.fof_models.specs.declared.problem.FofFormula.{FofFormula}
use Rattle.fof_models.specs.declared.problem.FofProblem.{FofProblem}
use Rattle.tptp_words.specs.declared.word.WordKind.{WordKind}
use Rattle.tptp_words.specs.declared.word.WordKind.TheVariants as kind
use Rattle.tptp_words.specs.Text.{Token, is_name, in_quotes, single_quote, percent, line_feed}
use Rattle.tptp_words.specs.Words.{same}
use Rattle.tptp_words.specs.Layout.{written}
use Rattle.fof_text.specs.Names.{name_at}

-- ---- words

abbrev pub mark_word : List ℕ → Token
mark_word s = record { kind = kind.Mark; spelling = s }

abbrev pub lower_word : List ℕ → Token
lower_word s = record { kind = kind.Lower; spelling = s }

abbrev pub dollar_word : List ℕ → Token
dollar_word s = record { kind = kind.Dollar; spelling = s }

abbrev pub number_word : List ℕ → Token
number_word s = record { kind = kind.Number; spelling = s }

abbrev pub quoted_word : List ℕ → Token
quoted_word name = record { kind = kind.Quoted; spelling = in_quotes single_quote name }

-- a letter `a` to `z`, then letters, digits and `_`
abbrev pub is_lower : List ℕ → Bool
is_lower [] = false
is_lower (b ∷ bs) = is_ascii_lowercase b && list_all is_name bs

-- the name of a symbol: as it is where it is a word, else in quotes
abbrev pub name_word : List ℕ → Token
name_word name = if is_lower name then lower_word name else quoted_word name

-- the name of a formula, which stands as it is where it is digits too
abbrev pub label_word : List ℕ → Token
label_word name =
    if is_lower name then lower_word name
    else if list_all is_ascii_digit name then number_word name
    else quoted_word name

-- the variable of the binder that has d binders around it
abbrev pub variable_name : ℕ → List ℕ
variable_name d = codes "X" ++ decimal d

abbrev pub variable_word : ℕ → Token
variable_word d = record { kind = kind.Upper; spelling = variable_name d }

-- A writer puts the words of a part in front of the words that follow.
abbrev pub Writer : Type 0
Writer = List Token → List Token

-- , x , ... , x
abbrev pub more : Token → List Writer → Writer
more m [] rest = rest
more m (w ∷ ws) rest = m ∷ w (more m ws rest)

-- x , ... , x
abbrev pub separated : Token → List Writer → Writer
separated m [] rest = rest
separated m (w ∷ ws) rest = w (more m ws rest)

-- ( x )
abbrev pub in_brackets : Writer → Writer
in_brackets w rest = mark_word (codes "(") ∷ w (mark_word (codes ")") ∷ rest)

-- p or p(t, ... ,t)
abbrev pub applied : List ℕ → List Writer → Writer
applied name [] rest = name_word name ∷ rest
applied name (t ∷ ts) rest =
    name_word name ∷ in_brackets (separated (mark_word (codes ",")) (t ∷ ts)) rest

-- a m b
abbrev pub side_by_side : List ℕ → Writer → Writer → Writer
side_by_side m a b rest = a (mark_word m ∷ b rest)

-- ---- terms, under d binders

-- one layer of a term's words
abbrev pub term_words_step : List (List ℕ) → FofTerm-F (ℕ → Writer) → ℕ → Writer
term_words_step names (term.Var i) d rest = variable_word (d - (i + 1)) ∷ rest
term_words_step names (term.Apply f ts) d rest =
    applied (name_at names f) (map (λ (t : ℕ → Writer). t d) ts) rest

-- the words of a term
unfoldable pub term_words : List (List ℕ) → FofTerm → ℕ → Writer
term_words names = fold-FofTerm (ℕ → Writer) (term_words_step names)

-- ---- formulas, under d binders

-- the words of a formula, and those of its negation
pub record Both : Type 0 where
  pub is : ℕ → Writer
  pub negated : ℕ → Writer

-- the negation of a formula that is no equation: ~ u
abbrev pub plain : (ℕ → Writer) → Both
plain w = record { is = w; negated = λ d rest. mark_word (codes "~") ∷ w d rest }

-- m [ X ] : u
abbrev pub quantified : List ℕ → (ℕ → Writer) → ℕ → Writer
quantified m body d rest =
    mark_word m ∷ mark_word (codes "[") ∷ variable_word d ∷ mark_word (codes "]")
    ∷ mark_word (codes ":") ∷ body (d + 1) rest

-- one layer of a formula's words
abbrev pub formula_words_step : List (List ℕ) → Fof-F Both → Both
formula_words_step names layer.True = plain (λ d rest. dollar_word (codes "$true") ∷ rest)
formula_words_step names layer.False = plain (λ d rest. dollar_word (codes "$false") ∷ rest)
formula_words_step names (layer.Atom p ts) =
    plain (λ d. applied (name_at names p) (map (λ t. term_words names t d) ts))
formula_words_step names (layer.Equal s t) = record {
  is = λ d. side_by_side (codes "=") (term_words names s d) (term_words names t d);
  negated = λ d. side_by_side (codes "!=") (term_words names s d) (term_words names t d);
}
formula_words_step names (layer.Not u) = plain u.negated
formula_words_step names (layer.And us) =
    plain (λ d. in_brackets (separated (mark_word (codes "&")) (map (λ (u : Both). u.is d) us)))
formula_words_step names (layer.Or us) =
    plain (λ d. in_brackets (separated (mark_word (codes "|")) (map (λ (u : Both). u.is d) us)))
formula_words_step names (layer.Implies u v) =
    plain (λ d. in_brackets (side_by_side (codes "=>") (u.is d) (v.is d)))
formula_words_step names (layer.ForAll u) = plain (quantified (codes "!") u.is)
formula_words_step names (layer.Exists u) = plain (quantified (codes "?") u.is)

-- the words of a formula and of its negation
unfoldable pub formula_words : List (List ℕ) → Fof → Both
formula_words names = fold-Fof Both (formula_words_step names)

-- ---- problems

abbrev pub role_name : FofRole → List ℕ
role_name Axiom = codes "axiom"
role_name NegatedConjecture = codes "negated_conjecture"

-- fof ( name , role , u ) .
abbrev pub entry_words : List (List ℕ) → FofFormula → Writer
entry_words names f rest =
    lower_word (codes "fof") ∷ mark_word (codes "(") ∷ label_word f.name ∷ mark_word (codes ",")
    ∷ lower_word (role_name f.role) ∷ mark_word (codes ",")
    ∷ (formula_words names f.body).is 0 (mark_word (codes ")") ∷ mark_word (codes ".") ∷ rest)

-- the words of formulas, one after another
abbrev pub problem_words : List (List ℕ) → List FofFormula → List Token
problem_words names [] = []
problem_words names (f ∷ fs) = entry_words names f (problem_words names fs)

-- ---- spaces

-- the marks that stand between two parts
abbrev pub is_between : List ℕ → Bool
is_between s =
    same s (codes "=") || same s (codes "!=") || same s (codes "&") || same s (codes "|")
    || same s (codes "=>")

abbrev pub before_of : WordKind → List ℕ → List ℕ
before_of kind.Mark s = if is_between s then codes " " else []
before_of k s = []

abbrev pub after_of : WordKind → List ℕ → List ℕ
after_of kind.Mark s =
    if is_between s || same s (codes ":") then codes " "
    else if same s (codes ".") then codes "\n"
    else []
after_of k s = []

-- a space before a mark between two parts
abbrev pub before : Token → List ℕ
before w = before_of w.kind w.spelling

-- a space after such a mark and after a colon, a line feed after a full stop
abbrev pub after : Token → List ℕ
after w = after_of w.kind w.spelling

-- the text of a problem whose symbols have these names
unfoldable pub text_of : List (List ℕ) → FofProblem → List ℕ
text_of names p = written before after (problem_words names p.formulas)

-- a comment on a line of its own
abbrev pub comment_line : List ℕ → List ℕ
comment_line body = percent ∷ (body ++ line_feed ∷ [])
