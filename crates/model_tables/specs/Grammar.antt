-- The grammar of tables, rule by rule. A typed table and an untyped one differ in their words, and
-- in that a typed one has a size for each member.
use Rattle.std.specs.Prelude.{ℕ, ◌+◌, ◌-◌, ◌*◌, ◌^◌, List, [], ◌∷◌, ◌++◌, length, leb, ltb}
use Rattle.std.specs.Prelude.{if◌then◌else◌, Option, Some, None, codes}
use Rattle.tptp_words.specs.declared.word.WordKind.{WordKind}
use Rattle.tptp_words.specs.declared.word.WordKind.TheVariants.{Lower, Dollar, Number}
use Rattle.tptp_words.specs.Text.{Token}
use Rattle.tptp_words.specs.Words.{same, only, name, name_of, digits, mark, keyword}
use Rattle.tptp_phrases.specs.Phrase.{Phrase, empty, word, ◌>>=◌, ◌>>◌, many}
use Rattle.model_tables.specs.declared.form.Form.{Form}
use Rattle.model_tables.specs.declared.form.Form.TheVariants.{Typed, Untyped}
use Rattle.model_tables.specs.declared.form.Kind.{Kind}
use Rattle.model_tables.specs.declared.form.Kind.TheVariants.{Constructor, Symbol, Function, Predicate}

-- ---- words

abbrev pub digit_zero : ℕ
digit_zero = 48

-- the number that digits are, where these stand behind a number n
abbrev pub decimal_from : ℕ → List ℕ → ℕ
decimal_from n [] = n
decimal_from n (d ∷ ds) = decimal_from (n * 10 + (d - digit_zero)) ds

-- the number, where it is below 2^32
abbrev pub below_limit : ℕ → Option ℕ
below_limit n = if ltb n (2 ^ 32) then Some n else None

-- the number that one to ten digits are
abbrev pub short_number : List ℕ → Option ℕ
short_number [] = None
short_number (d ∷ ds) =
    if leb (length (d ∷ ds)) 10 then below_limit (decimal_from 0 (d ∷ ds)) else None

abbrev pub number_of : Option (List ℕ) → Option ℕ
number_of None = None
number_of (Some ds) = short_number ds

-- a number: a Number of one to ten digits and nothing else, below 2^32
abbrev pub number : Token → Option ℕ
number w = number_of (digits w)

-- whether a word of this kind and spelling is the number of the format
abbrev pub format_of : WordKind → List ℕ → Option (Unit {0})
format_of Number s = only (same s (codes "1"))
format_of _ s = None

-- the number of the format, spelled `1`
abbrev pub format : Token → Option (Unit {0})
format w = format_of w.kind w.spelling

-- the name of a constructor that a word of this kind and spelling stands for
abbrev pub constructor_name_of : WordKind → List ℕ → Option (List ℕ)
constructor_name_of Dollar s = if same s (codes "$i") then Some s else None
constructor_name_of kind s = name_of kind s

-- tname := name | $i
abbrev pub constructor_name : Token → Option (List ℕ)
constructor_name w = constructor_name_of w.kind w.spelling

-- a full stop, and `=`

abbrev pub stop : Token → Option (Unit {0})
stop = mark (codes ".")

abbrev pub equals : Token → Option (Unit {0})
equals = mark (codes "=")

-- ---- the words in which the two forms differ

-- the word that a table begins with
abbrev pub form_word : Form → List ℕ
form_word Typed = codes "typed"
form_word Untyped = codes "untyped"

-- the word before the sizes
abbrev pub size_word : Form → List ℕ
size_word Typed = codes "sizes"
size_word Untyped = codes "size"

-- the kind of an item that one of two Lower words stands for
abbrev pub one_of_two : List ℕ → Kind → List ℕ → Kind → List ℕ → Option Kind
one_of_two first kind second other s =
    if same s first then Some kind else if same s second then Some other else None

-- the kind of an item that a word of this kind and spelling stands for
abbrev pub item_kind_of : Form → WordKind → List ℕ → Option Kind
item_kind_of Typed Lower s = one_of_two (codes "type") Constructor (codes "symbol") Symbol s
item_kind_of Untyped Lower s = one_of_two (codes "function") Function (codes "predicate") Predicate s
item_kind_of _ _ s = None

-- `type` or `symbol` in a typed table, `function` or `predicate` in an untyped one
abbrev pub item_kind : Form → Token → Option Kind
item_kind form w = item_kind_of form w.kind w.spelling

-- the name that may stand in an item of this kind
abbrev pub item_name : Kind → Token → Option (List ℕ)
item_name Constructor w = constructor_name w
item_name Symbol w = name w
item_name Function w = name w
item_name Predicate w = name w

-- ---- tables

-- what an item says: the entries of the table of a constructor or symbol
pub record Item : Type 0 where
  pub kind : Kind
  pub name : List ℕ
  pub entries : List ℕ

-- what a text says: the sizes of the members, or the one size of the domain, and the items
pub record Table : Type 0 where
  pub sizes : List ℕ
  pub items : List Item

-- the sizes behind the first
abbrev pub more_sizes : Form → Phrase (List ℕ)
more_sizes Typed = many (word number)
more_sizes Untyped = empty []

-- typed 1 . sizes number ... number        untyped 1 . size number
abbrev pub opening : Form → Phrase (List ℕ)
opening form = do
  word (keyword (form_word form))
  word format
  word stop
  word (keyword (size_word form))
  size ← word number
  more ← more_sizes form
  empty (size ∷ more)

-- the opening with its full stop
abbrev pub closed_opening : Form → Phrase (List ℕ)
closed_opening form = do
  sizes ← opening form
  word stop
  empty sizes

-- type tname        symbol name        function name        predicate name
abbrev pub heading : Form → Phrase (Kind × List ℕ)
heading form = do
  kind ← word (item_kind form)
  name ← word (item_name kind)
  empty (kind, name)

-- an item: its heading and then = number* .
abbrev pub item : Form → Phrase Item
item form = do
  head ← heading form
  word equals
  entries ← many (word number)
  word stop
  empty (record { kind = head.0; name = head.1; entries = entries })

-- a typed table is `typed 1 . sizes number ... number .` and then items of types and symbols, an
-- untyped one `untyped 1 . size number .` and then items of functions and predicates
abbrev pub table : Form → Phrase Table
table form = do
  sizes ← closed_opening form
  items ← many (item form)
  empty (record { sizes = sizes; items = items })
