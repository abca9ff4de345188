-- The grammar of files, rule by rule. A rule is given the variant: how many levels deeper its words
-- may nest, and the kind of stray words that it takes.
use Rattle.std.specs.Prelude.{ℕ, List, [], ◌∷◌, length, Some, None, codes, is_some}
use Rattle.tptp_words.specs.Words.{name, variable, mark, keyword, dollar}
use Rattle.tptp_phrases.specs.Phrase.{Phrase, empty, word, ◌>>=◌, ◌>>◌, ◌or◌, many, balanced}
use Rattle.tptp_phrases.specs.Phrase.{Variant, stray, deeper, nested}
use Rattle.tptp_syntax.specs.declared.types.TypeExpr.{TypeExpr}
use Rattle.tptp_syntax.specs.declared.types.TypeExpr.TheVariants as y
use Rattle.tptp_syntax.specs.declared.types.Bound.{Bound}
use Rattle.tptp_syntax.specs.declared.term.RawTerm.{RawTerm}
use Rattle.tptp_syntax.specs.declared.term.RawTerm.TheVariants as t
use Rattle.tptp_syntax.specs.declared.formula.RawFormula.{RawFormula}
use Rattle.tptp_syntax.specs.declared.formula.RawFormula.TheVariants as f
use Rattle.tptp_syntax.specs.declared.entry.Entry.{Entry}
use Rattle.tptp_syntax.specs.declared.entry.Entry.TheVariants as e
use Rattle.tptp_syntax.specs.declared.entry.File.{File}
use Rattle.tptp_syntax.specs.declared.language.Language.{Language}
use Rattle.tptp_syntax.specs.declared.language.Language.TheVariants.{Tff, Fof}
use Rattle.tptp_syntax.specs.declared.language.Connective.{Connective}
use Rattle.tptp_syntax.specs.declared.language.Connective.TheVariants as c
use Rattle.tptp_syntax.specs.Strays.{Stray, label, language, role, connective}
use Rattle.tptp_syntax.specs.Strays.{stray_language, stray_role}
use Rattle.tptp_syntax.specs.Strays.{stray_type, stray_term}

-- a variant of this grammar
abbrev pub Kind : Type 0
Kind = Variant Stray

-- this mark
abbrev pub sign : List ℕ → Phrase (Unit {0})
sign m = word (mark m)

-- ---- parts that several rules share

-- x , ... , x
abbrev pub listed : {A : Type 0} → Phrase A → Phrase (List A)
listed p = do
  x ← p
  more ← many (sign (codes ",") >> p)
  empty (x ∷ more)

-- ( x , ... , x )
abbrev pub arguments : {A : Type 0} → Phrase A → Phrase (List A)
arguments inner = do
  sign (codes "(")
  xs ← listed inner
  sign (codes ")")
  empty xs

-- name | name ( x , ... , x ), with the arguments
abbrev pub application : {A T : Type 0} → (List ℕ → List A → T) → Phrase A → Phrase T
application make inner =
    (do
      n ← word name
      empty (make n []))
    or (do
      n ← word name
      xs ← arguments inner
      empty (make n xs))

-- x m ... m x, with at least two parts
abbrev pub chain : {A T : Type 0} → List ℕ → (List A → T) → Phrase A → Phrase T
chain m make part = do
  a ← part
  sign m
  b ← part
  more ← many (sign m >> part)
  empty (make (a ∷ b ∷ more))

-- x m y
abbrev pub pair : {A B T : Type 0} → List ℕ → (A → B → T) → Phrase A → Phrase B → Phrase T
pair m make left right = do
  a ← left
  sign m
  b ← right
  empty (make a b)

-- m [ x , ... , x ] : y, where y is so many levels deeper as there are variables
abbrev pub quantified : {A T : Type 0}
    → List ℕ → (List Bound → A → T) → Phrase Bound → (ℕ → Phrase A) → Phrase T
quantified m make bound body = do
  sign m
  sign (codes "[")
  variables ← listed bound
  sign (codes "]")
  sign (codes ":")
  scope ← body (length variables)
  empty (make variables scope)

-- ---- types

-- tvar := Upper : $tType
abbrev pub type_variable : Phrase Bound
type_variable = do
  n ← word variable
  sign (codes ":")
  word (dollar (codes "$tType"))
  empty (record { name = n; kind = Some y.Types })

-- utype := Upper | name | name ( type , ... , type ) | $i | $o | $tType | ( type )
abbrev pub unit_type : Phrase TypeExpr → Kind → Phrase TypeExpr
unit_type inner v =
    (do
      n ← word variable
      empty (y.Variable n))
    or application y.Apply inner
    or (do
      word (dollar (codes "$i"))
      empty y.Individuals)
    or (do
      word (dollar (codes "$o"))
      empty y.Truth)
    or (do
      word (dollar (codes "$tType"))
      empty y.Types)
    or (do
      sign (codes "(")
      a ← inner
      sign (codes ")")
      empty a)
    or stray stray_type v

-- product := utype | utype * ... * utype
abbrev pub product : Phrase TypeExpr → Phrase TypeExpr
product part =
    (do
      a ← part
      empty a)
    or chain (codes "*") y.Product part

-- type := !> [ tvar , ... , tvar ] : type | product | product > utype
abbrev pub type_rule : Kind → (ℕ → Phrase TypeExpr) → Phrase TypeExpr
type_rule v inside =
    quantified (codes "!>") y.Quantified type_variable inside
    or (do
      a ← product (unit_type (inside 1) v)
      empty a)
    or pair (codes ">") y.Map (product (unit_type (inside 1) v)) (unit_type (inside 1) v)

unfoldable pub type_of : Kind → Phrase TypeExpr
type_of v = nested type_rule v

-- declaration := name : type | ( declaration )
abbrev pub declaration_rule : Kind → (ℕ → Phrase (List ℕ × TypeExpr)) → Phrase (List ℕ × TypeExpr)
declaration_rule v inside =
    (do
      n ← word name
      sign (codes ":")
      body ← type_of v
      empty (n, body))
    or (do
      sign (codes "(")
      d ← inside 1
      sign (codes ")")
      empty d)

unfoldable pub declaration : Kind → Phrase (List ℕ × TypeExpr)
declaration v = nested declaration_rule v

-- ---- terms

-- term := Upper | name | name ( term , ... , term ) | $i
abbrev pub term_rule : Kind → (ℕ → Phrase RawTerm) → Phrase RawTerm
term_rule v inside =
    (do
      n ← word variable
      empty (t.Variable n))
    or application t.Apply (inside 1)
    or (do
      word (dollar (codes "$i"))
      empty t.Individuals)
    or stray stray_term v

unfoldable pub term : Kind → Phrase RawTerm
term v = nested term_rule v

-- ---- formulas

-- var := Upper | Upper : type        (in fof: Upper alone)
abbrev pub bound : Language → Kind → Phrase Bound
bound Fof v = do
  n ← word variable
  empty (record { name = n; kind = None })
bound Tff v =
    (do
      n ← word variable
      empty (record { name = n; kind = None }))
    or (do
      n ← word variable
      sign (codes ":")
      a ← type_of v
      empty (record { name = n; kind = Some a }))

-- op := => | <= | <=> | <~> | ~& | ~|
abbrev pub joined : Connective → RawFormula → RawFormula → RawFormula
joined c.Implies a b = f.Implies a b
joined c.If a b = f.If a b
joined c.Iff a b = f.Iff a b
joined c.Xor a b = f.Xor a b
joined c.Nand a b = f.Nand a b
joined c.Nor a b = f.Nor a b

-- formula := unit | unit & ... & unit | unit | ... | unit | unit op unit
abbrev pub formula_of : Phrase RawFormula → Phrase RawFormula
formula_of unit =
    (do
      a ← unit
      empty a)
    or chain (codes "&") f.And unit
    or chain (codes "|") f.Or unit
    or (do
      a ← unit
      op ← word connective
      b ← unit
      empty (joined op a b))

-- unit := ! [ var , ... , var ] : unit | ? [ var , ... , var ] : unit | ~ unit | $true | $false
--       | ( formula ) | atom | term = term | term != term
-- atom := name | name ( term , ... , term )
abbrev pub unit_rule : Language → Kind → (ℕ → Phrase RawFormula) → Phrase RawFormula
unit_rule l v inside =
    quantified (codes "!") f.ForAll (bound l v) inside
    or quantified (codes "?") f.Exists (bound l v) inside
    or (do
      sign (codes "~")
      a ← inside 1
      empty (f.Not a))
    or (do
      word (dollar (codes "$true"))
      empty f.True)
    or (do
      word (dollar (codes "$false"))
      empty f.False)
    or (do
      sign (codes "(")
      a ← formula_of (inside 1)
      sign (codes ")")
      empty a)
    or application f.Atom (deeper term_rule v 1)
    or pair (codes "=") f.Equal (term v) (term v)
    or pair (codes "!=") f.Unequal (term v) (term v)

unfoldable pub formula : Language → Kind → Phrase RawFormula
formula l v = formula_of (nested (unit_rule l) v)

-- ---- entries

-- notes := nothing | , followed by one or more words in which each ) closes an earlier (
--          and each ( is closed
abbrev pub notes : Phrase (Unit {0})
notes =
    empty tt
    or (do
      sign (codes ",")
      balanced (λ w. is_some (mark (codes "(") w)) (λ w. is_some (mark (codes ")") w))
      empty tt)

-- role , formula
abbrev pub statement : Language → Kind → List ℕ → Phrase Entry
statement l v label =
    (do
      r ← word role
      sign (codes ",")
      a ← formula l v
      empty (e.Statement label r a))
    or stray (stray_role l) v

-- what stands behind the label: in tff `type , declaration` or `role , formula`, in fof the second
abbrev pub content : Language → Kind → List ℕ → Phrase Entry
content Fof v label = statement Fof v label
content Tff v label =
    (do
      word (keyword (codes "type"))
      sign (codes ",")
      d ← declaration v
      empty (e.Declaration label d.0 d.1))
    or statement Tff v label

-- entry := tff ( label , type , declaration notes ) .
--        | tff ( label , role , formula notes ) .
--        | fof ( label , role , formula notes ) .
unfoldable pub entry : Kind → Phrase Entry
entry v =
    (do
      l ← word language
      sign (codes "(")
      n ← word label
      sign (codes ",")
      x ← content l v n
      notes
      sign (codes ")")
      sign (codes ".")
      empty x)
    or stray stray_language v

-- file := entry*
unfoldable pub file : Kind → Phrase File
file v = do
  entries ← many (entry v)
  empty (record { entries = entries })
