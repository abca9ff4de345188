-- The readers of the grammar's rules. Each takes the next word as it finds it.
use Rattle.std.specs.Prelude.{ℕ, List, [], ◌∷◌, Bool, true, ◌||◌, length, Option, Some}
use Rattle.std.specs.Prelude.{None, codes}
use Rattle.tptp_words.specs.Text.{Token}
use Rattle.tptp_words.specs.Words.{name, variable, mark, keyword, dollar}
use Rattle.tptp_phrases.specs.Readers.{Reader, ◌>>=◌, ◌>>◌}
use Rattle.tptp_phrases.specs.Readers.{give, takes, take_word, choose, many_at, behind}
use Rattle.tptp_phrases.specs.Readers.{no_strays, refuse_stray, levels_at, skip_balanced}
use Rattle.tptp_syntax.specs.declared.types.TypeExpr.{TypeExpr}
use Rattle.tptp_syntax.specs.declared.types.TypeExpr.TheVariants as y
use Rattle.tptp_syntax.specs.declared.types.Bound.{Bound}
use Rattle.tptp_syntax.specs.declared.term.RawTerm.{RawTerm}
use Rattle.tptp_syntax.specs.declared.term.RawTerm.TheVariants as t
use Rattle.tptp_syntax.specs.declared.formula.RawFormula.{RawFormula}
use Rattle.tptp_syntax.specs.declared.formula.RawFormula.TheVariants as f
use Rattle.tptp_syntax.specs.declared.entry.Entry.{Entry}
use Rattle.tptp_syntax.specs.declared.entry.Entry.TheVariants as e
use Rattle.tptp_syntax.specs.declared.entry.File.{File}
use Rattle.tptp_syntax.specs.declared.language.Language.{Language}
use Rattle.tptp_syntax.specs.declared.language.Language.TheVariants.{Tff, Fof}
use Rattle.tptp_syntax.specs.Strays as stray
use Rattle.tptp_syntax.specs.Strays.{label, language, role, connective, stray_language, stray_role}
use Rattle.tptp_syntax.specs.Strays.{stray_type, stray_term}
use Rattle.tptp_syntax.specs.Grammar.{joined}

-- a reader of this grammar
abbrev pub Reads : Type 0 → Type 0
Reads A = Reader stray.Stray A

-- this mark
abbrev pub expect : List ℕ → Reads (Unit {0})
expect m = take_word (mark m)

-- the next word is this mark
abbrev pub sees : List ℕ → Token → Bool
sees m = takes (mark m)

-- ---- parts that several rules share

abbrev pub listed_at : {A : Type 0} → Reads A → Reads (List A)
listed_at item = do
  x ← item
  many_at (sees (codes ",")) (behind (mark (codes ",")) item) (x ∷ [])

abbrev pub arguments_at : {A : Type 0} → Reads A → Reads (List A)
arguments_at item = do
  expect (codes "(")
  xs ← listed_at item
  expect (codes ")")
  give xs

abbrev pub application_at : {A T : Type 0} → (List ℕ → List A → T) → Reads A → Reads T
application_at make item = do
  n ← take_word name
  choose (sees (codes "(")) (do
    xs ← arguments_at item
    give (make n xs)) (give (make n []))

-- the parts of a chain, behind its first
abbrev pub parts_at : {A : Type 0} → (Token → Option (Unit {0})) → Reads A → A → Reads (List A)
parts_at f part a = do
  take_word f
  b ← part
  many_at (takes f) (behind f part) (a ∷ b ∷ [])

-- what may stand behind the first part of a chain
abbrev pub chain_at : {A T : Type 0} → List ℕ → (List A → T) → Reads A → A → Reads T
chain_at m make part a = do
  all ← parts_at (mark m) part a
  give (make all)

-- what may stand behind the first of two parts
abbrev pub pair_at : {A B T : Type 0} → List ℕ → (A → B → T) → Reads B → A → Reads T
pair_at m make part a = do
  expect m
  b ← part
  give (make a b)

abbrev pub quantified_at : {A T : Type 0}
    → List ℕ → (List Bound → A → T) → Reads Bound → (ℕ → Reads A) → Reads T
quantified_at m make bound body = do
  expect m
  expect (codes "[")
  variables ← listed_at bound
  expect (codes "]")
  expect (codes ":")
  scope ← body (length variables)
  give (make variables scope)

abbrev pub sees_dollar : List ℕ → Token → Bool
sees_dollar m = takes (dollar m)

abbrev pub dollar_at : {A : Type 0} → List ℕ → A → Reads A
dollar_at m value = do
  take_word (dollar m)
  give value

-- ---- types

abbrev pub type_variable_at : Reads Bound
type_variable_at = do
  n ← take_word variable
  expect (codes ":")
  take_word (dollar (codes "$tType"))
  give (record { name = n; kind = Some y.Types })

abbrev pub bracketed_at : {A : Type 0} → Reads A → Reads A
bracketed_at inner = do
  expect (codes "(")
  a ← inner
  expect (codes ")")
  give a

abbrev pub unit_type_at : Reads TypeExpr → Reads TypeExpr
unit_type_at inner =
    choose (takes variable)
    (do
      n ← take_word variable
      give (y.Variable n))
    (choose (takes name) (application_at y.Apply inner)
    (choose (sees_dollar (codes "$i")) (dollar_at (codes "$i") y.Individuals)
    (choose (sees_dollar (codes "$o")) (dollar_at (codes "$o") y.Truth)
    (choose (sees_dollar (codes "$tType")) (dollar_at (codes "$tType") y.Types)
    (choose (sees (codes "(")) (bracketed_at inner) (refuse_stray stray_type))))))

abbrev pub product_at : Reads TypeExpr → Reads TypeExpr
product_at part = do
  a ← part
  choose (sees (codes "*")) (chain_at (codes "*") y.Product part a) (give a)

abbrev pub type_rule_at : ℕ → (ℕ → Reads TypeExpr) → Reads TypeExpr
type_rule_at n inside =
    choose (sees (codes "!>"))
    (quantified_at (codes "!>") y.Quantified type_variable_at inside)
    (do
      a ← product_at (unit_type_at (inside 1))
      choose (sees (codes ">")) (pair_at (codes ">") y.Map (unit_type_at (inside 1)) a) (give a))

-- the words that begin a utype
abbrev pub opens_unit_type : Token → Bool
opens_unit_type w =
    takes variable w || (takes name w || (sees_dollar (codes "$i") w
    || (sees_dollar (codes "$o") w || (sees_dollar (codes "$tType") w || sees (codes "(") w))))

-- the words that begin a type
abbrev pub opens_type : Token → Bool
opens_type w = sees (codes "!>") w || opens_unit_type w

unfoldable pub type_inside : ℕ → ℕ → Reads TypeExpr
type_inside n = levels_at opens_type stray_type type_rule_at n

unfoldable pub type_at : ℕ → Reads TypeExpr
type_at n = type_rule_at n (type_inside n)

abbrev pub declaration_rule_at : ℕ → (ℕ → Reads (List ℕ × TypeExpr)) → Reads (List ℕ × TypeExpr)
declaration_rule_at n inside =
    choose (takes name)
    (do
      m ← take_word name
      expect (codes ":")
      body ← type_at n
      give (m, body))
    (bracketed_at (inside 1))

-- the words that begin a declaration
abbrev pub opens_declaration : Token → Bool
opens_declaration w = takes name w || sees (codes "(") w

unfoldable pub declaration_inside : ℕ → ℕ → Reads (List ℕ × TypeExpr)
declaration_inside n = levels_at opens_declaration no_strays declaration_rule_at n

unfoldable pub declaration_at : ℕ → Reads (List ℕ × TypeExpr)
declaration_at n = declaration_rule_at n (declaration_inside n)

-- ---- terms

abbrev pub variable_term_at : Reads RawTerm
variable_term_at = do
  n ← take_word variable
  give (t.Variable n)

abbrev pub term_rule_at : ℕ → (ℕ → Reads RawTerm) → Reads RawTerm
term_rule_at n inside =
    choose (takes variable) variable_term_at
    (choose (takes name) (application_at t.Apply (inside 1))
    (choose (sees_dollar (codes "$i")) (dollar_at (codes "$i") t.Individuals)
    (refuse_stray stray_term)))

-- the words that begin a term
abbrev pub opens_term : Token → Bool
opens_term w = takes variable w || (takes name w || sees_dollar (codes "$i") w)

unfoldable pub term_inside : ℕ → ℕ → Reads RawTerm
term_inside n = levels_at opens_term stray_term term_rule_at n

unfoldable pub term_at : ℕ → Reads RawTerm
term_at n = term_rule_at n (term_inside n)

-- ---- formulas

abbrev pub untyped_at : Reads Bound
untyped_at = do
  v ← take_word variable
  give (record { name = v; kind = None })

abbrev pub typed_at : ℕ → Reads Bound
typed_at n = do
  v ← take_word variable
  choose (sees (codes ":")) (do
    expect (codes ":")
    a ← type_at n
    give (record { name = v; kind = Some a })) (give (record { name = v; kind = None }))

abbrev pub bound_at : Language → ℕ → Reads Bound
bound_at Fof n = untyped_at
bound_at Tff n = typed_at n

-- what may stand behind the first unit of a formula
abbrev pub joined_at : Reads RawFormula → RawFormula → Reads RawFormula
joined_at unit a = do
  op ← take_word connective
  b ← unit
  give (joined op a b)

-- the words that go on with a formula behind its first unit
abbrev pub joins : Token → Bool
joins w = sees (codes "&") w || (sees (codes "|") w || takes connective w)

abbrev pub tail_at : Reads RawFormula → RawFormula → Reads RawFormula
tail_at unit a =
    choose (sees (codes "&")) (chain_at (codes "&") f.And unit a)
    (choose (sees (codes "|")) (chain_at (codes "|") f.Or unit a) (joined_at unit a))

abbrev pub formula_at_of : Reads RawFormula → Reads RawFormula
formula_at_of unit = do
  a ← unit
  choose joins (tail_at unit a) (give a)

-- a name and its arguments
abbrev pub applied_at : ℕ → Reads (List ℕ × List RawTerm)
applied_at n = application_at (λ m ts. (m, ts)) (term_inside n 1)

-- what makes an equation of the term before it
abbrev pub equation_at : ℕ → RawTerm → Reads RawFormula
equation_at n a =
    choose (sees (codes "=")) (pair_at (codes "=") f.Equal (term_at n) a)
    (pair_at (codes "!=") f.Unequal (term_at n) a)

-- the words that make an equation
abbrev pub equates : Token → Bool
equates w = sees (codes "=") w || sees (codes "!=") w

-- a term that is no application
abbrev pub other_term_at : Reads RawTerm
other_term_at =
    choose (takes variable) variable_term_at
    (choose (sees_dollar (codes "$i")) (dollar_at (codes "$i") t.Individuals)
    (refuse_stray stray_term))

-- an atom or an equation
abbrev pub literal_at : ℕ → Reads RawFormula
literal_at n =
    choose (takes name)
    (do
      p ← applied_at n
      choose equates (equation_at n (t.Apply p.0 p.1)) (give (f.Atom p.0 p.1)))
    (do
      a ← other_term_at
      equation_at n a)

abbrev pub unit_rule_at : Language → ℕ → (ℕ → Reads RawFormula) → Reads RawFormula
unit_rule_at l n inside =
    choose (sees (codes "!")) (quantified_at (codes "!") f.ForAll (bound_at l n) inside)
    (choose (sees (codes "?")) (quantified_at (codes "?") f.Exists (bound_at l n) inside)
    (choose (sees (codes "~"))
    (do
      expect (codes "~")
      a ← inside 1
      give (f.Not a))
    (choose (sees_dollar (codes "$true")) (dollar_at (codes "$true") f.True)
    (choose (sees_dollar (codes "$false")) (dollar_at (codes "$false") f.False)
    (choose (sees (codes "(")) (bracketed_at (formula_at_of (inside 1))) (literal_at n))))))

-- the words that begin an atom or an equation
abbrev pub opens_literal : Token → Bool
opens_literal w = takes name w || (takes variable w || sees_dollar (codes "$i") w)

-- the words that begin a unit
abbrev pub opens_unit : Token → Bool
opens_unit w =
    sees (codes "!") w || (sees (codes "?") w || (sees (codes "~") w
    || (sees_dollar (codes "$true") w || (sees_dollar (codes "$false") w
    || (sees (codes "(") w || opens_literal w)))))

unfoldable pub unit_inside : Language → ℕ → ℕ → Reads RawFormula
unit_inside l n = levels_at opens_unit stray_term (unit_rule_at l) n

unfoldable pub unit_at : Language → ℕ → Reads RawFormula
unit_at l n = unit_rule_at l n (unit_inside l n)

unfoldable pub formula_at : Language → ℕ → Reads RawFormula
formula_at l n = formula_at_of (unit_at l n)

-- ---- entries

abbrev pub notes_at : Reads (Unit {0})
notes_at =
    choose (sees (codes ",")) (do
      expect (codes ",")
      skip_balanced (sees (codes "(")) (sees (codes ")"))
      give tt) (give tt)

abbrev pub statement_at : Language → ℕ → List ℕ → Reads Entry
statement_at l n m =
    choose (takes role) (do
      r ← take_word role
      expect (codes ",")
      a ← formula_at l n
      give (e.Statement m r a)) (refuse_stray (stray_role l))

abbrev pub tff_content_at : ℕ → List ℕ → Reads Entry
tff_content_at n m =
    choose (takes (keyword (codes "type"))) (do
      take_word (keyword (codes "type"))
      expect (codes ",")
      d ← declaration_at n
      give (e.Declaration m d.0 d.1)) (statement_at Tff n m)

abbrev pub content_at : Language → ℕ → List ℕ → Reads Entry
content_at Fof n m = statement_at Fof n m
content_at Tff n m = tff_content_at n m

-- what closes an entry
abbrev pub ending_at : Reads (Unit {0})
ending_at = do
  notes_at
  expect (codes ")")
  expect (codes ".")
  give tt

-- what stands behind the label, up to the full stop
abbrev pub closed_content_at : Language → ℕ → List ℕ → Reads Entry
closed_content_at l n m = do
  x ← content_at l n m
  ending_at
  give x

-- an entry whose language stands next
abbrev pub annotated_at : ℕ → Reads Entry
annotated_at n = do
  l ← take_word language
  expect (codes "(")
  m ← take_word label
  expect (codes ",")
  closed_content_at l n m

unfoldable pub entry_at : ℕ → Reads Entry
entry_at n = choose (takes language) (annotated_at n) (refuse_stray stray_language)

-- every word
abbrev pub any_word : Token → Bool
any_word w = true

unfoldable pub file_at : ℕ → Reads File
file_at n = do
  entries ← many_at any_word (entry_at n) []
  give (record { entries = entries })
