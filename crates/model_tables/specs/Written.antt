-- The text that is written for a structure: an item a line. First the words, each with what is
-- written before and after it, then the bytes.
use Rattle.std.specs.Prelude.{ℕ, zero, suc, List, [], ◌∷◌, ◌++◌, map, codes, if◌then◌else◌}
use Rattle.std.specs.Fmt.{decimal}
use Rattle.tptp_words.specs.Text.{Token}
use Rattle.fof_text.specs.Written.{lower_word, mark_word, number_word, dollar_word, name_word}
use Rattle.tf_core.specs.declared.signature.Constructor.{Constructor}
use Rattle.tf_core.specs.declared.signature.Symbol.{Symbol}
use Rattle.tf_core.specs.declared.signature.Signature.{Signature}
use Rattle.tf_models.specs.declared.structure.TypedStructure.{TypedStructure}
use Rattle.fof_models.specs.declared.problem.FofSymbol.{FofSymbol}
use Rattle.fof_models.specs.declared.structure.Structure.{Structure}
use Rattle.model_tables.specs.declared.form.Form.{Form}
use Rattle.model_tables.specs.declared.form.Form.TheVariants.{Typed, Untyped}
use Rattle.model_tables.specs.declared.form.Kind.{Kind}
use Rattle.model_tables.specs.declared.form.Kind.TheVariants as kind
use Rattle.model_tables.specs.Grammar.{form_word, size_word}
use Rattle.model_tables.specs.Untyped.{symbol_kind}

-- ---- words with their spaces

-- a word with what is written before and after it
pub record Laid : Type 0 where
  pub before : List ℕ
  pub token : Token
  pub after : List ℕ

-- the bytes of words with their spaces
abbrev pub laid : List Laid → List ℕ
laid [] = []
laid (w ∷ ws) = w.before ++ (w.token.spelling ++ (w.after ++ laid ws))

-- the words without their spaces
abbrev pub words_of : List Laid → List Token
words_of ws = map (λ (w : Laid). w.token) ws

-- the first word of a line
abbrev pub first_word : List ℕ → Laid
first_word s = record { before = []; token = lower_word s; after = [] }

-- a further word of a line, behind a space
abbrev pub next_word : Token → Laid
next_word w = record { before = codes " "; token = w; after = [] }

-- the full stop, right behind the last word of a line, and the line's end
abbrev pub line_end : Laid
line_end = record { before = []; token = mark_word (codes "."); after = codes "\n" }

-- A writer puts the words of a part in front of the words that follow.
abbrev pub Writer : Type 0
Writer = List Laid → List Laid

-- ---- lines

-- number ... number
abbrev pub numbers : List ℕ → Writer
numbers [] rest = rest
numbers (n ∷ ns) rest = next_word (number_word (decimal n)) ∷ numbers ns rest

-- typed 1 .        untyped 1 .
abbrev pub form_line : Form → Writer
form_line form rest =
    first_word (form_word form) ∷ next_word (number_word (codes "1")) ∷ line_end ∷ rest

-- sizes number ... number .        size number .
abbrev pub size_line : Form → List ℕ → Writer
size_line form sizes rest = first_word (size_word form) ∷ numbers sizes (line_end ∷ rest)

-- the first word of an item
abbrev pub kind_word : Kind → List ℕ
kind_word kind.Constructor = codes "type"
kind_word kind.Symbol = codes "symbol"
kind_word kind.Function = codes "function"
kind_word kind.Predicate = codes "predicate"

-- what stands in an item before its entries: its kind, and the word of its name
pub record Heading : Type 0 where
  pub kind : Kind
  pub name : Token

abbrev pub heading : Kind → List ℕ → Heading
heading kind name = record { kind = kind; name = name_word name }

-- type name = number ... number .
abbrev pub item_line : Heading → List ℕ → Writer
item_line head entries rest =
    first_word (kind_word head.kind) ∷ next_word head.name ∷ next_word (mark_word (codes "="))
    ∷ numbers entries (line_end ∷ rest)

-- a line for each table
abbrev pub item_lines : List Heading → List (List ℕ) → Writer
item_lines [] tables rest = rest
item_lines (head ∷ heads) [] rest = rest
item_lines (head ∷ heads) (entries ∷ tables) rest =
    item_line head entries (item_lines heads tables rest)

-- ---- typed structures

-- the name of the constructor at a place: `$i` for the first
abbrev pub constructor_word : ℕ → List ℕ → Token
constructor_word zero name = dollar_word (codes "$i")
constructor_word (suc i) name = name_word name

abbrev pub constructor_heading : ℕ → List ℕ → Heading
constructor_heading i name = record { kind = kind.Constructor; name = constructor_word i name }

-- the headings of constructors, where so many others stand before
abbrev pub constructor_headings : ℕ → List Constructor → List Heading
constructor_headings i [] = []
constructor_headings i (c ∷ constructors) =
    constructor_heading i c.name ∷ constructor_headings (suc i) constructors

abbrev pub symbol_headings : List Symbol → List Heading
symbol_headings symbols = map (λ (f : Symbol). heading kind.Symbol f.name) symbols

abbrev pub typed_words : Signature → TypedStructure → List Laid
typed_words g s =
    form_line Typed (size_line Typed s.sizes
    (item_lines (constructor_headings 0 g.constructors) s.constructors
    (item_lines (symbol_headings g.symbols) s.symbols [])))

-- the text of a typed structure, for a signature
unfoldable pub typed_text : Signature → TypedStructure → List ℕ
typed_text g s = laid (typed_words g s)

-- ---- untyped structures

-- the headings of symbols, by their names
abbrev pub fof_headings : List FofSymbol → List (List ℕ) → List Heading
fof_headings [] names = []
fof_headings (symbol ∷ symbols) [] = []
fof_headings (symbol ∷ symbols) (name ∷ names) =
    heading (symbol_kind symbol) name ∷ fof_headings symbols names

abbrev pub untyped_words : List FofSymbol → List (List ℕ) → Structure → List Laid
untyped_words signature names s =
    form_line Untyped (size_line Untyped (s.size ∷ [])
    (item_lines (fof_headings signature names) s.tables []))

-- the text of an untyped structure, for a signature and the names of its symbols
unfoldable pub untyped_text : List FofSymbol → List (List ℕ) → Structure → List ℕ
untyped_text signature names s = laid (untyped_words signature names s)
